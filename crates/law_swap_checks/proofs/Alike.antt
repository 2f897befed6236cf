-- Lists of checks that come to one: where no check of the one fails, none of the other does, and the first that fails has the same refusals.
use Rattle.std.proofs.Common.{◌≡◌, ℕ, zero, suc, ◌↔◌, inl, inr, List, [], ◌∷◌, ◌++◌, refl, sym, ap, subst, append_assoc}
use Rattle.p3_field.specs.Checks.{Check, check, NoneFails, FirstFails, in_turn}
use Rattle.p3_field.specs.Laws.Checks.{none_append, none_before, none_after, first_stops, first_after, first_parted, none_first}

pub record Alike {R : Type 0} (xs ys : List (Check R)) : Type 0 where
  pub none : NoneFails xs ↔ NoneFails ys
  pub first : (e : R) → FirstFails xs e ↔ FirstFails ys e

no_check : (R : Type 0) → NoneFails {R = R} []
unfolding NoneFails
no_check R = tt

module _ {R : Type 0} where
  pub alike_same : (xs : List (Check R)) → Alike xs xs
  alike_same xs = record { none = (λ n. n, λ n. n); first = λ e. (λ f. f, λ f. f) }

  pub alike_then : (xs ys zs : List (Check R)) → Alike xs ys → Alike ys zs → Alike xs zs
  alike_then xs ys zs a b = record {
    none = (λ n. b.none.0 (a.none.0 n), λ n. a.none.1 (b.none.1 n));
    first = λ e. (λ f. (b.first e).0 ((a.first e).0 f), λ f. (a.first e).1 ((b.first e).1 f));
  }

  half : (xs ys us vs : List (Check R)) → Alike xs ys → Alike us vs → (e : R) → FirstFails (xs ++ us) e → FirstFails (ys ++ vs) e
  half xs ys us vs a b e f = elim (first_parted xs us e f) [
    | inl t ↦ first_stops ys vs e ((a.first e).0 t)
    | inr t ↦ first_after ys vs e (a.none.0 t.0) ((b.first e).0 t.1)
  ]

  pub alike_turned : (xs ys : List (Check R)) → Alike xs ys → Alike ys xs
  alike_turned xs ys a = record {
    none = (λ n. a.none.1 n, λ n. a.none.0 n);
    first = λ e. (λ f. (a.first e).1 f, λ f. (a.first e).0 f);
  }

  pub alike_append : (xs ys us vs : List (Check R)) → Alike xs ys → Alike us vs → Alike (xs ++ us) (ys ++ vs)
  alike_append xs ys us vs a b = record {
    none = (
      λ n. none_append ys vs (a.none.0 (none_before xs us n)) (b.none.0 (none_after xs us n)),
      λ n. none_append xs us (a.none.1 (none_before ys vs n)) (b.none.1 (none_after ys vs n)),
    );
    first = λ e. (half xs ys us vs a b e, half ys xs vs us (alike_turned xs ys a) (alike_turned us vs b) e);
  }

  nothing_fails : (e : R) → FirstFails [] e → ⊥
  unfolding FirstFails
  nothing_fails e f = f

  -- checks that don't fail come to none
  pub alike_none : (xs : List (Check R)) → NoneFails xs → Alike xs []
  alike_none xs n = record {
    none = (λ _. no_check R, λ _. n);
    first = λ e. (λ f. absurd (none_first xs e n f), λ f. absurd (nothing_fails e f));
  }

  -- so they may stand before others
  pub alike_before : (zs xs ys : List (Check R)) → NoneFails zs → Alike xs ys → Alike (zs ++ xs) ys
  alike_before zs xs ys n a = alike_append zs [] xs ys (alike_none zs n) a

  -- or after them
  pub alike_after : (xs zs ys : List (Check R)) → NoneFails zs → Alike xs ys → Alike (xs ++ zs) ys
  alike_after xs zs ys n a = record {
    none = (λ m. a.none.0 (none_before xs zs m), λ m. none_append xs zs (a.none.1 m) n);
    first = λ e. (
      λ f. elim (first_parted xs zs e f) [ inl t ↦ (a.first e).0 t | inr t ↦ absurd (none_first zs e n t.1) ],
      λ f. first_stops xs zs e ((a.first e).1 f),
    );
  }

  -- the same checks, grouped otherwise
  pub alike_grouped : (xs ys zs : List (Check R)) → Alike (xs ++ (ys ++ zs)) (xs ++ ys ++ zs)
  alike_grouped xs ys zs = let P : List (Check R) → Type 0 = λ l. Alike (xs ++ (ys ++ zs)) l in subst P (sym (append_assoc xs ys zs)) (alike_same (xs ++ (ys ++ zs)))

  -- a check of the same, with the same refusal
  pub alike_one : (r : R) (P Q : Type 0) → P ↔ Q → Alike (check r P ∷ []) (check r Q ∷ [])
  unfolding NoneFails FirstFails
  alike_one r P Q e = record {
    none = (λ n. (e.0 n.0, tt), λ n. (e.1 n.0, tt));
    first = λ s. (
      λ f. elim f [ inl t ↦ absurd t.1 | inr t ↦ inr (λ q. t.0 (e.1 q), t.1) ],
      λ f. elim f [ inl t ↦ absurd t.1 | inr t ↦ inr (λ p. t.0 (e.0 p), t.1) ],
    );
  }

-- Checks of one kind of refusal that stand for those of another: where none of the former fails none of the latter does, and the first of the latter that
-- fails is refused with V of the former's refusal.
pub record Stands {Q R : Type 0} (V : Q → R) (cs : List (Check Q)) (rs : List (Check R)) : Type 0 where
  pub none : NoneFails cs ↔ NoneFails rs
  pub to : (q : Q) → FirstFails cs q → FirstFails rs (V q)
  pub back : (e : R) → FirstFails rs e → (q : Q) × FirstFails cs q × (e ≡ V q)

module _ {Q R : Type 0} (V : Q → R) where
  pub stand_none : Stands V [] []
  unfolding NoneFails FirstFails
  stand_none = record { none = (λ n. n, λ n. n); to = λ q f. absurd f; back = λ e f. absurd f }

  pub stand_both : (cs ds : List (Check Q)) (rs ss : List (Check R)) → Stands V cs rs → Stands V ds ss → Stands V (cs ++ ds) (rs ++ ss)
  stand_both cs ds rs ss a b = record {
    none = (
      λ n. none_append rs ss (a.none.0 (none_before cs ds n)) (b.none.0 (none_after cs ds n)),
      λ n. none_append cs ds (a.none.1 (none_before rs ss n)) (b.none.1 (none_after rs ss n)),
    );
    to = λ q f. elim (first_parted cs ds q f) [
      | inl t ↦ first_stops rs ss (V q) (a.to q t)
      | inr t ↦ first_after rs ss (V q) (a.none.0 t.0) (b.to q t.1)
    ];
    back = λ e f. elim (first_parted rs ss e f) [
      | inl t ↦ let (q, g, s) = a.back e t in (q, first_stops cs ds q g, s)
      | inr t ↦ let (q, g, s) = b.back e t.1 in (q, first_after cs ds q (a.none.1 t.0) g, s)
    ];
  }

  -- checks that hold, before others
  pub stand_held : (zs cs : List (Check Q)) (rs : List (Check R)) → NoneFails zs → Stands V cs rs → Stands V (zs ++ cs) rs
  stand_held zs cs rs n a = record {
    none = (λ m. a.none.0 (none_after zs cs m), λ m. none_append zs cs n (a.none.1 m));
    to = λ q f. elim (first_parted zs cs q f) [ inl t ↦ absurd (none_first zs q n t) | inr t ↦ a.to q t.1 ];
    back = λ e f. let (q, g, s) = a.back e f in (q, first_after zs cs q n g, s);
  }

  nothing_stands : (q : Q) → FirstFails [] q → ⊥
  unfolding FirstFails
  nothing_stands q f = f

  -- none after
  pub stand_alone : (cs : List (Check Q)) (rs : List (Check R)) → Stands V cs rs → Stands V (cs ++ []) rs
  stand_alone cs rs a = record {
    none = (λ n. a.none.0 (none_before cs [] n), λ n. none_append cs [] (a.none.1 n) (no_check Q));
    to = λ q f. elim (first_parted cs [] q f) [ inl t ↦ a.to q t | inr t ↦ absurd (nothing_stands q t.1) ];
    back = λ e f. let (q, g, s) = a.back e f in (q, first_stops cs [] q g, s);
  }

  -- a check of the same
  pub stand_one : (q : Q) (P : Type 0) → Stands V (check q P ∷ []) (check (V q) P ∷ [])
  unfolding NoneFails FirstFails
  stand_one q P = record {
    none = (λ n. n, λ n. n);
    to = λ d f. elim f [ inl t ↦ absurd t.1 | inr t ↦ inr (t.0, ap V t.1) ];
    back = λ e f. elim f [ inl t ↦ absurd t.1 | inr t ↦ (q, inr (t.0, refl), t.1) ];
  }

  pub stand_turns : (n : ℕ) (f : ℕ → List (Check Q)) (g : ℕ → List (Check R)) → ((j : ℕ) → Stands V (f j) (g j)) → Stands V (in_turn n f) (in_turn n g)
  unfolding in_turn
  stand_turns zero f g h = stand_none
  stand_turns (suc n) f g h = stand_both (in_turn n f) (f n) (in_turn n g) (g n) (stand_turns n f g h) (h n)

  -- for other checks to which the latter come
  pub stand_then : (cs : List (Check Q)) (rs ss : List (Check R)) → Stands V cs rs → Alike rs ss → Stands V cs ss
  stand_then cs rs ss a b = record {
    none = (λ n. b.none.0 (a.none.0 n), λ n. a.none.1 (b.none.1 n));
    to = λ q f. (b.first (V q)).0 (a.to q f);
    back = λ e f. a.back e ((b.first e).1 f);
  }

  -- one check that none of the former fails, refused with V of the refusal of the first, comes to the latter
  pub stand_alike : (cs : List (Check Q)) (rs : List (Check R)) → Stands V cs rs
      → Alike (record { refusal = λ e. (q : Q) × FirstFails cs q × (e ≡ V q); holds = NoneFails cs } ∷ []) rs
  unfolding NoneFails FirstFails
  stand_alike cs rs a = record {
    none = (λ n. a.none.0 n.0, λ n. (a.none.1 n, tt));
    first = λ e. (
      λ f. elim f [ inl t ↦ absurd t.1 | inr t ↦ let (q, g, s) = t.1 in let P : R → Type 0 = λ r. FirstFails rs r in subst P (sym s) (a.to q g) ],
      λ f. inr (λ n. none_first rs e (a.none.0 n) f, a.back e f),
    );
  }
