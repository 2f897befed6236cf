-- What constraints read at one point: a value of each cell, whether they stand in a field, at a row or at a point, or are the
-- polynomials of which these are values.
use Rattle.std.specs.Prelude.{ℕ, suc, ◌<◌, true, false, cond, List, [], ◌∷◌, length, map, slice_index, All}
use Rattle.std.specs.Prelude.{slice_index_or as get_or}
use Rattle.p3_field.specs.Ring.{Ring}
use Rattle.p3_field.specs.Poly.{DegreeBelow, add_poly, mul_poly, neg_poly}
use Rattle.air_core.specs.declared.cells.Cell.{Cell}
use Rattle.air_core.specs.declared.cells.Cell.TheVariants.{Main, Preprocessed, Periodic, Public, FirstRow, LastRow, Transition}
use Rattle.air_core.specs.declared.cells.ExtCell.{ExtCell}
use Rattle.air_core.specs.declared.cells.ExtCell.TheVariants.{Permutation, Challenge, Terminal}
use Rattle.air_core.specs.Degree.{periodic_degree}
use Rattle.air_core.specs.Maps.{reading_over}
use Rattle.air_core.specs.RowCheck.{Row}
use Rattle.air_core.specs.Tree.{Reading}

-- the values of the columns in this row and in the next, of the periodic columns, of the public values and of the selectors, and of
-- the cells of the extension: the permutation columns, the challenges of the lookups and the terminal, where there is one
pub record CellValues (E : Type 0) : Type 0 where
  pub main_local : List E
  pub main_next : List E
  pub preprocessed_local : List E
  pub preprocessed_next : List E
  pub periodic : List E
  pub public_values : List E
  pub first_row : E
  pub last_row : E
  pub transition : E
  pub permutation_local : List E
  pub permutation_next : List E
  pub challenges : List E
  pub terminals : List E

-- the value of a cell; one that isn't there reads as zero
abbrev pub cell_in : {E : Type 0} → E → CellValues E → Cell → E
cell_in zero v (Main true column) = get_or v.main_next column zero
cell_in zero v (Main false column) = get_or v.main_local column zero
cell_in zero v (Preprocessed true column) = get_or v.preprocessed_next column zero
cell_in zero v (Preprocessed false column) = get_or v.preprocessed_local column zero
cell_in zero v (Periodic n) = get_or v.periodic n zero
cell_in zero v (Public n) = get_or v.public_values n zero
cell_in zero v FirstRow = v.first_row
cell_in zero v LastRow = v.last_row
cell_in zero v Transition = v.transition

-- the value of a cell of the extension
abbrev pub ext_cell_in : {E : Type 0} → E → CellValues E → ExtCell → E
ext_cell_in zero v (Permutation true column) = get_or v.permutation_next column zero
ext_cell_in zero v (Permutation false column) = get_or v.permutation_local column zero
ext_cell_in zero v (Challenge n) = get_or v.challenges n zero
ext_cell_in zero v Terminal = get_or v.terminals 0 zero

-- the one reading of constraints, at these values
abbrev pub reading_at : {F E : Type 0} → Ring E → (F → E) → CellValues E → Reading F E
reading_at r embed v = reading_over r embed (cell_in r.zero v) (ext_cell_in r.zero v)

-- the images of the values
abbrev pub map_values : {E G : Type 0} → (E → G) → CellValues E → CellValues G
map_values f v = record {
  main_local = map f v.main_local;
  main_next = map f v.main_next;
  preprocessed_local = map f v.preprocessed_local;
  preprocessed_next = map f v.preprocessed_next;
  periodic = map f v.periodic;
  public_values = map f v.public_values;
  first_row = f v.first_row;
  last_row = f v.last_row;
  transition = f v.transition;
  permutation_local = map f v.permutation_local;
  permutation_next = map f v.permutation_next;
  challenges = map f v.challenges;
  terminals = map f v.terminals;
}

-- the values at a row, where those of the base field go into the extension by `embed`
abbrev pub row_values_in : {F E : Type 0} → Ring F → (F → E) → Row F E → CellValues E
row_values_in f embed r = record {
  main_local = map embed r.main_local;
  main_next = map embed r.main_next;
  preprocessed_local = map embed r.preprocessed_local;
  preprocessed_next = map embed r.preprocessed_next;
  periodic = map embed r.periodic;
  public_values = map embed r.public_values;
  first_row = embed (cond r.is_first_row f.one f.zero);
  last_row = embed (cond r.is_last_row f.one f.zero);
  transition = embed (cond r.is_last_row f.zero f.one);
  permutation_local = r.permutation_local;
  permutation_next = r.permutation_next;
  challenges = r.challenges;
  terminals = r.terminals;
}

-- The operations on polynomials as those of a ring. The laws of a ring hold of their values and coefficients.
abbrev pub poly_ring : {A : Type 0} → Ring A → Ring (List A)
poly_ring r = record { zero = []; one = r.one ∷ []; add = add_poly r; mul = mul_poly r; neg = neg_poly r }

-- the polynomial of a tree over F, where the cells have these polynomials over E
abbrev pub poly_reading : {F E : Type 0} → Ring E → (F → E) → CellValues (List E) → Reading F (List E)
poly_reading r embed v = reading_at (poly_ring r) (λ x. embed x ∷ []) v

-- The cells' polynomials have at most the degrees that a tree's degree over n rows takes them to have, where periodic column i
-- repeats as many values as `periods` names.
pub record HaveDegrees {E : Type 0} (r : Ring E) (n : ℕ) (periods : List ℕ) (v : CellValues (List E)) : Type 0 where
  pub main_local : All (DegreeBelow r n) v.main_local
  pub main_next : All (DegreeBelow r n) v.main_next
  pub preprocessed_local : All (DegreeBelow r n) v.preprocessed_local
  pub preprocessed_next : All (DegreeBelow r n) v.preprocessed_next
  pub periodic : (i : ℕ) → i < length v.periodic → DegreeBelow r (suc (periodic_degree n (slice_index periods i))) (get_or v.periodic i [])
  pub public_values : All (DegreeBelow r 1) v.public_values
  pub first_row : DegreeBelow r n v.first_row
  pub last_row : DegreeBelow r n v.last_row
  pub transition : DegreeBelow r 2 v.transition
  pub permutation_local : All (DegreeBelow r n) v.permutation_local
  pub permutation_next : All (DegreeBelow r n) v.permutation_next
  pub challenges : All (DegreeBelow r 1) v.challenges
  pub terminals : All (DegreeBelow r 1) v.terminals
