-- Lists of checks without some that hold.
use Rattle.std.proofs.Common.{ℕ, zero, suc, ◌<◌, List, [], ◌∷◌, ◌++◌, inl, inr, arith}
use Rattle.p3_field.specs.Checks.{Check, NoneFails, FirstFails, in_turn}
use Rattle.p3_field.specs.Laws.Checks.{none_append, none_before, none_after, first_stops, first_after, first_parted, none_first}

-- the second list answers as the first does
pub record Thins {R : Type 0} (xs ys : List (Check R)) : Type 0 where
  pub none : NoneFails ys → NoneFails xs
  pub kept : NoneFails xs → NoneFails ys
  pub first : (e : R) → FirstFails xs e → FirstFails ys e

module _ {R : Type 0} where
  pub thins_self : (xs : List (Check R)) → Thins xs xs
  thins_self xs = record { none = λ h. h; kept = λ h. h; first = λ e f. f }

  pub thins_append : (xs ys us vs : List (Check R)) → Thins xs us → Thins ys vs → Thins (xs ++ ys) (us ++ vs)
  thins_append xs ys us vs a b = record {
    none = λ h. none_append xs ys (a.none (none_before us vs h)) (b.none (none_after us vs h));
    kept = λ h. none_append us vs (a.kept (none_before xs ys h)) (b.kept (none_after xs ys h));
    first = λ e f. elim (first_parted xs ys e f) [
      | inl t ↦ first_stops us vs e (a.first e t)
      | inr t ↦ first_after us vs e (a.kept t.0) (b.first e t.1)
    ];
  }

  -- lists that hold as a whole are left out, before others and after them
  pub thins_after : (xs ys us : List (Check R)) → NoneFails xs → Thins ys us → Thins (xs ++ ys) us
  thins_after xs ys us n b = record {
    none = λ h. none_append xs ys n (b.none h);
    kept = λ h. b.kept (none_after xs ys h);
    first = λ e f. elim (first_parted xs ys e f) [
      | inl t ↦ absurd (none_first xs e n t)
      | inr t ↦ b.first e t.1
    ];
  }

  pub thins_before : (xs ys us : List (Check R)) → Thins xs us → NoneFails ys → Thins (xs ++ ys) us
  thins_before xs ys us a n = record {
    none = λ h. none_append xs ys (a.none h) n;
    kept = λ h. a.kept (none_before xs ys h);
    first = λ e f. elim (first_parted xs ys e f) [
      | inl t ↦ a.first e t
      | inr t ↦ absurd (none_first ys e n t.1)
    ];
  }

  -- a check that holds is left out
  pub thins_held : (c : Check R) (xs ys : List (Check R)) → c.holds → Thins xs ys → Thins (c ∷ xs) ys
  unfolding NoneFails FirstFails
  thins_held c xs ys h t = record {
    none = λ n. (h, t.none n);
    kept = λ n. t.kept n.1;
    first = λ e f. elim f [ inl a ↦ t.first e a.1 | inr b ↦ absurd (b.0 h) ];
  }

  -- a check that stays
  pub thins_more : (c : Check R) (xs ys : List (Check R)) → Thins xs ys → Thins (c ∷ xs) (c ∷ ys)
  unfolding NoneFails FirstFails
  thins_more c xs ys t = record {
    none = λ n. (n.0, t.none n.1);
    kept = λ n. (n.0, t.kept n.1);
    first = λ e f. elim f [ inl a ↦ inl (a.0, t.first e a.1) | inr b ↦ inr b ];
  }

  -- the same of n things in turn
  pub thins_turns : (f g : ℕ → List (Check R)) (n : ℕ) → ((i : ℕ) → i < n → Thins (f i) (g i)) → Thins (in_turn n f) (in_turn n g)
  unfolding in_turn
  thins_turns f g zero h = thins_self []
  thins_turns f g (suc n) h = thins_append (in_turn n f) (f n) (in_turn n g) (g n) (thins_turns f g n (λ i b. h i (omega arith))) (h n (omega arith))
