-- Equations that are asked for on some rows alone: on the first, on the last, or on each but the last. After Plonky3's p3-air (when_first_row,
-- when_last_row, when_transition, assert_eq).
use Rattle.std.specs.Prelude.{List, map}
use Rattle.air_core.specs.declared.cells.Cell.{Cell}
use Rattle.air_core.specs.Tree.{Tree, cell, difference, product}

-- x and y agree where the selector isn't zero
abbrev pub equal_when : {F : Type 0} → Cell → Tree F → Tree F → Tree F
equal_when selector x y = product (cell selector) (difference x y)

-- an equation, and the selector of its rows
pub record Equation (F : Type 0) : Type 0 where
  pub selector : Cell
  pub left : Tree F
  pub right : Tree F

-- the constraints of equations
abbrev pub equation_trees : {F : Type 0} → List (Equation F) → List (Tree F)
equation_trees equations = map (λ q. equal_when q.selector q.left q.right) equations
