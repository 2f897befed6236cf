-- What constraints read at a point of the quotient domain, and the quotient's value there. After Plonky3's p3-batch-stark
-- (quotient_values).
use Rattle.std.specs.Prelude.{ℕ, zero, suc, ◌+◌, ◌%◌, List, [], map, Option}
use Rattle.std.specs.Prelude.{slice_index_or as get_or}
use Rattle.p3_field.specs.Ring.{Ring}
use Rattle.p3_field.specs.Poly.{tabulate}
use Rattle.p3_matrix.specs.Matrix.{Rows, cell_at, height, row_at}
use Rattle.air_core.specs.CellValues.{CellValues, reading_at}
use Rattle.air_core.specs.Check.{preprocessed_row}
use Rattle.air_core.specs.Tree.{Tree, eval_tree}
use Rattle.p3_uni_stark.specs.Fold.{fold}
use Rattle.prover_folder.specs.FolderState.{GivenWithLookups, given_cells}

-- how many permutation columns a table with so many lookups has: one for the running sum and one for each lookup; without lookups
-- there is none
abbrev pub permutation_column_count : ℕ → ℕ
permutation_column_count zero = 0
permutation_column_count (suc n) = suc n + 1

-- the values at row i of the periodic columns, of which the table lists the first rows
abbrev pub periodic_at : {F : Type 0} → F → Rows F → ℕ → List F
periodic_at d table_of_values i = tabulate table_of_values.width (λ j. cell_at d table_of_values (i % height table_of_values) j)

-- a table's columns row by row on its quotient domain, the permutation columns over the larger field; the selectors at each point; and
-- what is the same at all of them
pub record QuotientRows (F E : Type 0) : Type 0 where
  pub main : Rows F
  pub preprocessed : Option (Rows F)
  pub permutation : Option (Rows E)
  pub public_values : List F
  pub challenges : List E
  pub terminals : List E
  pub first_row : List F
  pub last_row : List F
  pub transition : List F

-- what a folder is given at row i, where the next row is row n, with these values of the periodic columns and these powers; d, which no
-- place in range reads, stands past the end of a list
abbrev pub given_at : {F E : Type 0} → F → QuotientRows F E → List F → List E → ℕ → ℕ → GivenWithLookups F E
given_at d q periodic powers i n = record {
  plain = record {
    values = record {
      main_local = row_at q.main i;
      main_next = row_at q.main n;
      preprocessed_local = preprocessed_row q.preprocessed i;
      preprocessed_next = preprocessed_row q.preprocessed n;
      periodic = periodic;
      public = q.public_values;
      first_row = get_or q.first_row i d;
      last_row = get_or q.last_row i d;
      transition = get_or q.transition i d;
    };
    powers = powers;
  };
  permutation_local = preprocessed_row q.permutation i;
  permutation_next = preprocessed_row q.permutation n;
  challenges = q.challenges;
  terminals = q.terminals;
}

-- the values of the cells there, where the table lists the periodic columns' values; the powers are no cells
abbrev pub quotient_cells_at : {F E : Type 0} → F → E → (F → E) → QuotientRows F E → Rows F → ℕ → ℕ → CellValues E
quotient_cells_at d z embed q periods i n = given_cells z embed (given_at d q (periodic_at d periods i) [] i n)

-- The fold by alpha of the constraints at row i of so many, where the next row is `step` further, round the domain, times the
-- inverse of the vanishing polynomial's value, of which those at the first `step` points are listed.
abbrev pub quotient_term : {F E : Type 0} → F → Ring E → (F → E) → QuotientRows F E → Rows F → List (Tree F) → List F → (step rows : ℕ) → E → ℕ → E
quotient_term d s embed q periods trees inverses step rows alpha i =
    s.mul (fold s alpha (map (eval_tree (reading_at s embed (quotient_cells_at d s.zero embed q periods i ((i + step) % rows)))) trees)) (embed (get_or inverses (i % step) d))
