-- The swap table: what it declares, and its constraints.
use Rattle.std.specs.Prelude.{false, true, List, [], ◌∷◌, None}
use Rattle.air_core.specs.declared.cells.Cell.{Cell}
use Rattle.air_core.specs.declared.cells.Cell.TheVariants.{Main, Public, FirstRow, LastRow, Transition}
use Rattle.air_core.specs.Shape.{Declaration}
use Rattle.air_core.specs.Tree.{Tree, cell, difference, product}

-- x and y agree where the selector isn't zero
abbrev pub equal_when : {F : Type 0} → Cell → Cell → Cell → Tree F
equal_when selector x y = product (cell selector) (difference (cell x) (cell y))

-- Two columns l and r: the first row is (a, b), each row after it is the row before it swapped, and x is the last
-- right cell. The public values are a, b and x.
abbrev pub swap_trees : {F : Type 0} → List (Tree F)
swap_trees =
    equal_when FirstRow (Main false 0) (Public 0)
    ∷ equal_when FirstRow (Main false 1) (Public 1)
    ∷ equal_when Transition (Main true 0) (Main false 1)
    ∷ equal_when Transition (Main true 1) (Main false 0)
    ∷ equal_when LastRow (Main false 1) (Public 2)
    ∷ []

abbrev pub swap_declaration : {F : Type 0} → Declaration F
swap_declaration = record {
  width = 2;
  preprocessed = None;
  main_next = 0 ∷ 1 ∷ [];
  preprocessed_next = [];
  public_values = 3;
  periodic = [];
  constraints = None;
  degree_hint = None;
  boolean_trace = false;
}
