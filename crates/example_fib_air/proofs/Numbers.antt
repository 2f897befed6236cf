-- One more row of the trace.
use Rattle.std.proofs.Common.{◌≡◌, ℕ, suc, ◌+◌, List, [], ◌∷◌, ◌++◌, ◌∙◌, ap, arith}
use Rattle.p3_field.specs.Ring.{Ring}
use Rattle.air_equations.specs.Laws.Rows.{two_more}
use Rattle.air_equations.specs.Rows.{values_of}
use Rattle.example_fib_air.specs.Fib.{fib, fib_row}

-- n rows are there, and the numbers n and n + 1
abbrev pub HaveRows : {F : Type 0} → Ring F → (a : F) (n : ℕ) → List F → (left right : F) → Type 0
HaveRows r a n values left right = (values ≡ values_of (fib_row r a) n) × (left ≡ fib r a n) × (right ≡ fib r a (suc n))

pub next_row : {F : Type 0} (r : Ring F) (a : F) (n : ℕ) (values with_left with_both : List F) (left right next : F) → HaveRows r a n values left right → with_left ≡ values ++ left ∷ [] → with_both ≡ with_left ++ right ∷ []
    → next ≡ r.add left right → HaveRows r a (n + 1) with_both right next
unfolding fib
next_row r a n values with_left with_both left right next h first both sum =
    let e : suc n ≡ n + 1 = omega arith in (
      two_more (fib_row r a) n values with_left with_both left right h.0 first both (λ k. h.1 k ∷ h.2 k ∷ []),
      h.2 ∙ ap (fib r a) e,
      sum ∙ ((λ k. r.add (h.1 k) (h.2 k)) ∙ ap (λ m. fib r a (suc m)) e),
    )
