-- A row of the declared length has each cell that a table declares of the next row.
use Rattle.std.proofs.Common.{◌≡◌, ℕ, ◌<◌, ◌≤◌, List, length, All, true, false, sym, ◌∙◌, inl, inr, arith}
use Rattle.std.specs.Prelude.{IsTrue, nat_lt, nat_eq}
use Rattle.std.proofs.lemmas.Bool.{cases_lt}
use Rattle.std.proofs.lemmas.Bool.Decides.{nat_tests}
use Rattle.std.proofs.lemmas.List.Folds.{list_any_none}
use Rattle.air_core.specs.Shape.{has}

differs_above : (m n w : ℕ) → m < w → w ≤ n → nat_eq m n ≡ false
differs_above m n w h k = grind (arith, nat_tests)

is_below : (m n : ℕ) → m < n → IsTrue (nat_lt m n)
is_below m n h = grind (arith, nat_tests)

false_is_not_true : false ≡ true → ⊥
false_is_not_true e = cc

-- a number of a list is below what all are below
has_below : (ns : List ℕ) (w n : ℕ) → All (λ c. c < w) ns → IsTrue (has ns n) → n < w
has_below ns w n below h = elim (cases_lt n w) [
  | inl less ↦ less
  | inr more ↦ absurd (false_is_not_true (sym (list_any_none (λ m. nat_eq m n) ns (λ k d at. differs_above _ n w (below k d at) more)) ∙ h))
]

-- next cells are those of a row of n cells where these are declared in columns below w
pub next_fits : (ns : List ℕ) (w n : ℕ) → All (λ c. c < w) ns → w ≤ n → (column : ℕ) → IsTrue (has ns column) → IsTrue (nat_lt column n)
next_fits ns w n below long column h = is_below _ _ (omega (arith, long, has_below ns w column below h))
