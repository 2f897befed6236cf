-- The values of cells at one row, and the values of trees there.
use Rattle.std.specs.Prelude.{◌≡◌, ◌++◌, Bool, true, false, cond, List, length, map}
use Rattle.std.specs.Prelude.{slice_index_or as get_or}
use Rattle.p3_field.specs.Ring.{Ring, sub}
use Rattle.air_core.specs.declared.cells.Cell.{Cell}
use Rattle.air_core.specs.declared.cells.Cell.TheVariants.{Main, Preprocessed, Periodic, Public, FirstRow, LastRow, Transition}
use Rattle.air_core.specs.declared.cells.ExtCell.{ExtCell}
use Rattle.air_core.specs.declared.cells.ExtCell.TheVariants.{Permutation, Challenge, Terminal}
use Rattle.air_core.specs.Shape.{Shape}
use Rattle.air_core.specs.Tree.{Tree, Asserted, Reading, eval_tree}

-- the values of the cells at one row of a table: over the base field, and over the extension
pub record Row (F E : Type 0) : Type 0 where
  pub main_local : List F
  pub main_next : List F
  pub preprocessed_local : List F
  pub preprocessed_next : List F
  pub periodic : List F
  pub public_values : List F
  pub is_first_row : Bool
  pub is_last_row : Bool
  pub permutation_local : List E
  pub permutation_next : List E
  pub challenges : List E
  pub terminals : List E

-- the value of a cell; the selectors are zero or one
abbrev pub cell_value : {F E : Type 0} → Ring F → Row F E → Cell → F
cell_value f r (Main true column) = get_or r.main_next column f.zero
cell_value f r (Main false column) = get_or r.main_local column f.zero
cell_value f r (Preprocessed true column) = get_or r.preprocessed_next column f.zero
cell_value f r (Preprocessed false column) = get_or r.preprocessed_local column f.zero
cell_value f r (Periodic n) = get_or r.periodic n f.zero
cell_value f r (Public n) = get_or r.public_values n f.zero
cell_value f r FirstRow = cond r.is_first_row f.one f.zero
cell_value f r LastRow = cond r.is_last_row f.one f.zero
cell_value f r Transition = cond r.is_last_row f.zero f.one

-- the value of a cell of the extension
abbrev pub ext_cell_value : {F E : Type 0} → E → Row F E → ExtCell → E
ext_cell_value zero r (Permutation true column) = get_or r.permutation_next column zero
ext_cell_value zero r (Permutation false column) = get_or r.permutation_local column zero
ext_cell_value zero r (Challenge n) = get_or r.challenges n zero
ext_cell_value zero r Terminal = get_or r.terminals 0 zero

-- trees over F read at the row, with values in the extension
abbrev pub row_reading : {F E : Type 0} → Ring F → Ring E → (F → E) → Row F E → Reading F E
row_reading f e embed r = record {
  from = embed;
  add = e.add;
  sub = sub e;
  mul = e.mul;
  at = λ c. embed (cell_value f r c);
  at_ext = ext_cell_value e.zero r;
}

-- the value of a tree at the row
abbrev pub tree_value_at_row : {F E : Type 0} → Ring F → Ring E → (F → E) → Row F E → Tree F → E
tree_value_at_row f e embed r t = eval_tree (row_reading f e embed r) t

-- the cells that the row has
abbrev pub row_shape : {F E : Type 0} → Row F E → Shape
row_shape r = record {
  main = length r.main_local;
  main_next = λ _. true;
  preprocessed = length r.preprocessed_local;
  preprocessed_next = λ _. true;
  periodic = length r.periodic;
  public = length r.public_values;
  permutation = length r.permutation_local;
  challenges = length r.challenges;
  terminals = length r.terminals;
}

-- the current and the next row have the same columns
pub record HasRowsOfOneWidth {F E : Type 0} (r : Row F E) : Type 0 where
  pub main : length r.main_next ≡ length r.main_local
  pub preprocessed : length r.preprocessed_next ≡ length r.preprocessed_local
  pub permutation : length r.permutation_next ≡ length r.permutation_local

-- a row, and the values of the asserted trees there, in order
pub record CheckedRow (F E : Type 0) : Type 0 where
  pub row : Row F E
  pub values : List E

-- the second has the first one's row, and the values of these trees after its values
pub record Adds {F E : Type 0} (f : Ring F) (e : Ring E) (embed : F → E) (a b : CheckedRow F E) (ts : List (Asserted F)) : Type 0 where
  pub row : b.row ≡ a.row
  pub values : b.values ≡ a.values ++ map (λ t. tree_value_at_row f e embed a.row t.tree) ts
