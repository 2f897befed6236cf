-- The rows of a table over the base field: those that are committed to, and what is read at rows (not in Plonky3).
use Rattle.std.specs.Prelude.{◌≡◌, ℕ, suc, ◌<◌, true, false, List, [], map}
use Rattle.std.specs.Prelude.{slice_index_or as get_or}
use Rattle.p3_field.specs.Ring.{Ring}
use Rattle.air_core.specs.declared.cells.Cell.{Cell}
use Rattle.air_core.specs.declared.cells.Cell.TheVariants.{Main, Preprocessed, Periodic, Public, FirstRow, LastRow, Transition}
use Rattle.air_core.specs.RowCheck.{Row}
use Rattle.air_core.specs.Shape.{ReadsIn}
use Rattle.air_core.specs.Tree.{Tree}
use Rattle.p3_field.specs.Domain.{point, subgroup}
use Rattle.p3_field.specs.Field.{TwoAdic}
use Rattle.p3_field.specs.Poly.{eval_poly}
use Rattle.law_committed.specs.Committed.{CommittedTable}

-- row i of the main columns: the values of their polynomials at the row's point
abbrev pub main_row : {F E : Type 0} → TwoAdic F → CommittedTable F E → ℕ → List F
main_row f t i = map (λ g. eval_poly f.ring g (point f.ring f.root (subgroup f.ring t.log_height) i)) t.main

-- a row of these cells alone
abbrev pub row_here : {F E : Type 0} → TwoAdic F → CommittedTable F E → ℕ → Row F F
row_here f t i = record {
  main_local = main_row f t i;
  main_next = [];
  preprocessed_local = [];
  preprocessed_next = [];
  periodic = [];
  public_values = [];
  is_first_row = false;
  is_last_row = false;
  permutation_local = [];
  permutation_next = [];
  challenges = [];
  terminals = [];
}

-- the cell is one of this row's main cells
abbrev pub IsMainHere : Cell → Type 0
IsMainHere (Main true column) = ⊥
IsMainHere (Main false column) = Unit {0}
IsMainHere (Preprocessed next column) = ⊥
IsMainHere (Periodic n) = ⊥
IsMainHere (Public n) = ⊥
IsMainHere FirstRow = ⊥
IsMainHere LastRow = ⊥
IsMainHere Transition = ⊥

-- the constraint reads such cells alone
abbrev pub ReadsMainHere : {F : Type 0} → Tree F → Type 0
ReadsMainHere tree = ReadsIn IsMainHere (λ _. ⊥) tree

-- What is read at n rows of a table, over a ring above the field: each row's main cells, those of the next row but in the last
-- one, the public values, and selectors that are zero exactly where they don't select.
pub record ReadRows {F E : Type 0} (f : Ring F) (e : Ring E) (embed : F → E) (n : ℕ) (rows : ℕ → List F) (publics : List F) (at : ℕ → Cell → E) : Type 0 where
  pub here : (j column : ℕ) → j < n → at j (Main false column) ≡ embed (get_or (rows j) column f.zero)
  pub next : (j column : ℕ) → suc j < n → at j (Main true column) ≡ embed (get_or (rows (suc j)) column f.zero)
  pub public : (j m : ℕ) → j < n → at j (Public m) ≡ embed (get_or publics m f.zero)
  pub first : at 0 FirstRow ≡ e.zero → ⊥
  pub first_elsewhere : (j : ℕ) → suc j < n → at (suc j) FirstRow ≡ e.zero
  pub last : (j : ℕ) → suc j ≡ n → at j LastRow ≡ e.zero → ⊥
  pub last_elsewhere : (j : ℕ) → suc j < n → at j LastRow ≡ e.zero
  pub transition : (j : ℕ) → suc j < n → at j Transition ≡ e.zero → ⊥
  pub transition_elsewhere : (j : ℕ) → suc j ≡ n → at j Transition ≡ e.zero
