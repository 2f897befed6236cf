-- The values of the base field's cells at one place, be it a row of a table or a point above the field.
use Rattle.std.specs.Prelude.{List, [], ◌∷◌, length, map, nat_lt}
use Rattle.air_core.specs.CellValues.{CellValues, cell_in}
use Rattle.air_core.specs.declared.cells.Cell.{Cell}
use Rattle.air_core.specs.Shape.{Shape}

-- the values of the columns in this row and in the next, of the periodic columns and of the selectors, in E, and the
-- public values, in F
pub record PointValues (F E : Type 0) : Type 0 where
  pub main_local : List E
  pub main_next : List E
  pub preprocessed_local : List E
  pub preprocessed_next : List E
  pub periodic : List E
  pub public : List F
  pub first_row : E
  pub last_row : E
  pub transition : E

-- This as a value of each cell, where public values go into E by `embed`. A table without lookups has no permutation columns and no
-- challenges, and its terminal is the empty sum: cells of the extension read as zero.
abbrev pub point_cells : {F E : Type 0} → E → (F → E) → PointValues F E → CellValues E
point_cells zero embed p = record {
  main_local = p.main_local;
  main_next = p.main_next;
  preprocessed_local = p.preprocessed_local;
  preprocessed_next = p.preprocessed_next;
  periodic = p.periodic;
  public_values = map embed p.public;
  first_row = p.first_row;
  last_row = p.last_row;
  transition = p.transition;
  permutation_local = [];
  permutation_next = [];
  challenges = [];
  terminals = zero ∷ [];
}

-- the value of a cell; one that isn't there reads as zero
abbrev pub point_cell : {F E : Type 0} → E → (F → E) → PointValues F E → Cell → E
point_cell zero embed p c = cell_in zero (point_cells zero embed p) c

-- the cells that are there: a next row's column where that row has it, and the terminal
abbrev pub point_shape : {F E : Type 0} → PointValues F E → Shape
point_shape p = record {
  main = length p.main_local;
  main_next = λ column. nat_lt column (length p.main_next);
  preprocessed = length p.preprocessed_local;
  preprocessed_next = λ column. nat_lt column (length p.preprocessed_next);
  periodic = length p.periodic;
  public = length p.public;
  permutation = 0;
  challenges = 0;
  terminals = 1;
}
