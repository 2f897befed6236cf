-- What calls append one after another, over any relation between states that goes along as `appends` of builders does.
use Rattle.std.proofs.Common.{◌≡◌, ℕ, zero, suc, ◌+◌, ◌<◌, List, [], ◌++◌, map, subst, arith, inl, inr}
use Rattle.std.proofs.lemmas.List.{map-append}
use Rattle.std.proofs.lemmas.Bool.{cases_eq}
use Rattle.std.proofs.lemmas.Result.{on_err_weaker}
use Rattle.air_core.specs.Tree.{Tree, Asserted, Interaction, over_base}
use Rattle.air_core.specs.Laws.Appending.{some_of_more, some_after}
use Rattle.air_core.specs.Joined.{joined}
use Rattle.std.specs.Prelude.{Result}
use Rattle.air_core.specs.Laws.Represent.{holds_on_err}
use Rattle.air_core.specs.Appended.{Appended, AppendedSome, OnFailure}

pub on_failure : {T E P : Type 0} {result : Result T E} → P → OnFailure result P
on_failure {result = r} p = record { holds = holds_on_err r p }

pub on_failure_weaker : {T E P Q : Type 0} {result : Result T E} → (P → Q) → OnFailure result P → OnFailure result Q
on_failure_weaker {result = r} f p = record { holds = on_err_weaker r f p.holds }

module _ {S F : Type 0} (G : S → S → List (Asserted F) → List (Interaction F) → Type 0)
    (along : (a b c : S) (s t : List (Asserted F)) (i j : List (Interaction F)) → G a b s i → G b c t j → G a c (s ++ t) (i ++ j)) where
  pub both : {a b c : S} {s t : List (Tree F)} → Appended G a b s → Appended G b c t → Appended G a c (s ++ t)
  both {a = a} {b = b} {c = c} {s = s} {t = t} p q = record { all = rw (map-append over_base s t) (along a b c (map over_base s) (map over_base t) [] [] p.all q.all) }

  -- after calls that appended nothing
  pub after_none : {a b c : S} {t : List (Tree F)} → G a b [] [] → Appended G b c t → Appended G a c t
  after_none {a = a} {b = b} {c = c} {t = t} p q = record { all = along a b c [] (map over_base t) [] [] p q.all }

  pub some_after_none : {a b c : S} {t : List (Tree F)} → G a b [] [] → AppendedSome G b c t → AppendedSome G a c t
  some_after_none {a = a} {b = b} {c = c} {t = t} p q = record { some = some_after along a b c [] (map over_base t) [] [] p q.some }

  pub later : {a b c : S} {s t : List (Tree F)} → Appended G a b s → AppendedSome G b c t → AppendedSome G a c (s ++ t)
  later {a = a} {b = b} {c = c} {s = s} {t = t} p q = record { some = rw (map-append over_base s t) (some_after along a b c (map over_base s) (map over_base t) [] [] p.all q.some) }

  pub front : {a b : S} {s : List (Tree F)} (t : List (Tree F)) → AppendedSome G a b s → AppendedSome G a b (s ++ t)
  front {a = a} {b = b} {s = s} t p = record { some = rw (map-append over_base s t) (some_of_more G a b (map over_base s) (map over_base t) [] [] p.some) }

  -- turns of a loop, of which the last one failed
  pub one_more : {a b c : S} (n : ℕ) (t : ℕ → List (Tree F)) → Appended G a b (joined n t) → Appended G b c (t n) → Appended G a c (joined (n + 1) t)
  unfolding joined
  one_more {a = a} {c = c} n t p q =
      let e : suc n ≡ n + 1 = omega arith in
      subst (λ m. Appended G a c (joined m t)) e (both {s = joined n t} {t = t n} p q)

  pub some_turns : (a b c : S) (n m : ℕ) (t : ℕ → List (Tree F)) → n < m → Appended G a b (joined n t) → AppendedSome G b c (t n) → AppendedSome G a c (joined m t)
  unfolding joined
  some_turns a b c n zero t lt p q = absurd (omega (arith, lt))
  some_turns a b c n (suc m) t lt p q = elim (cases_eq n m) [
    | inl e ↦ subst (λ k. AppendedSome G a c (joined k t ++ t k)) e (later p q)
    | inr d ↦ front (t m) (some_turns a b c n m t (omega (arith, d, lt)) p q)
  ]

  pub no_turns : (a : S) (t : ℕ → List (Tree F)) → G a a [] [] → Appended G a a (joined 0 t)
  unfolding joined
  no_turns a t p = record { all = p }

  pub all_turns : (a b : S) (n m : ℕ) (t : ℕ → List (Tree F)) → n ≡ m → Appended G a b (joined n t) → Appended G a b (joined m t)
  all_turns a b n m t e p = subst (λ k. Appended G a b (joined k t)) e p
