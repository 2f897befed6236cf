-- What it is that the constraints of a table's lookups vanish on its rows, whatever its permutation columns are (not in Plonky3).
use Rattle.std.specs.Prelude.{◌≡◌, ℕ, ◌+◌, ◌*◌, ◌<◌, true, false, length, All}
use Rattle.std.specs.Prelude.{slice_index_or as get_or}
use Rattle.p3_field.specs.Ring.{Ring}
use Rattle.air_core.specs.declared.cells.Cell.{Cell}
use Rattle.air_core.specs.declared.cells.Cell.TheVariants.{FirstRow, LastRow, Transition}
use Rattle.air_core.specs.declared.cells.ExtCell.{ExtCell}
use Rattle.air_core.specs.declared.cells.ExtCell.TheVariants.{Permutation, Challenge, Terminal}
use Rattle.air_core.specs.Tree.{eval_tree}
use Rattle.p3_lookup.specs.Lookup.{sent}
use Rattle.p3_lookup.specs.Honest.{Argument, running_sum, RowHasInverses}
use Rattle.p3_lookup.specs.Rows.{reading_with, AgreeOnSent}
use Rattle.p3_lookup.specs.Trees.{lookup_trees}

-- The values are those of n rows of a table with this terminal, on which each constraint of its lookups is zero. A selector isn't zero on the row that
-- it marks; the next cell of the running sum is the next row's.
pub record AreVanishingRows {F E : Type 0} (f : Ring F) (embed : F → E) (p : Argument F E) (n : ℕ) (terminal : E) (at : ℕ → Cell → E) (at_ext : ℕ → ExtCell → E) : Type 0 where
  pub first : at 0 FirstRow ≡ p.ring.zero → ⊥
  pub last : (i : ℕ) → i + 1 ≡ n → at i LastRow ≡ p.ring.zero → ⊥
  pub transition : (i : ℕ) → i + 1 < n → at i Transition ≡ p.ring.zero → ⊥
  pub next : (i : ℕ) → i + 1 < n → at_ext i (Permutation true 0) ≡ at_ext (i + 1) (Permutation false 0)
  pub challenge : (i : ℕ) → i < n → (k : ℕ) → k < 2 * length p.lookups → at_ext i (Challenge k) ≡ get_or p.challenges k p.ring.zero
  pub terminal_is : (i : ℕ) → i < n → at_ext i Terminal ≡ terminal
  pub agrees : (i : ℕ) → i < n → All (λ l. All (AgreeOnSent (p.value i) (eval_tree (reading_with p.ring embed (at i) (at_ext i)))) (sent l)) p.lookups
  pub vanish : (i : ℕ) → i < n → All (λ t. eval_tree (reading_with p.ring embed (at i) (at_ext i)) t ≡ p.ring.zero) (lookup_trees f p.lookups)

-- Where the constraints of the lookups vanish on each row of a table that has lookups, and no denominator is zero, the terminal is the sum of all
-- fractions.
abbrev pub VanishingRowsSum : {F E : Type 0} → Ring F → (F → E) → Argument F E → Type 0
VanishingRowsSum {F = F} {E = E} f embed p =
    (n : ℕ) (terminal : E) (at : ℕ → Cell → E) (at_ext : ℕ → ExtCell → E) → 0 < n → 0 < length p.lookups → AreVanishingRows f embed p n terminal at at_ext
    → ((i : ℕ) → i < n → RowHasInverses p i) → terminal ≡ running_sum p n
