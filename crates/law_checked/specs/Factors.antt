-- Constraints whose selectors are factors. A check of rows and a committed table read a selector by different values, which are zero on the same rows: so such a
-- constraint is zero in one exactly where it is in the other, and another one need not be.
use Rattle.air_core.specs.declared.cells.Cell.{Cell}
use Rattle.air_core.specs.declared.cells.Cell.TheVariants.{Main, Preprocessed, Periodic, Public, FirstRow, LastRow, Transition}
use Rattle.air_core.specs.Shape.{ReadsIn}
use Rattle.air_core.specs.Tree.{Tree, constant, cell, ext_cell, sum, difference, product}

-- the cell is no selector
abbrev pub IsUnselected : Cell → Type 0
IsUnselected (Main next column) = Unit {0}
IsUnselected (Preprocessed next column) = Unit {0}
IsUnselected (Periodic k) = Unit {0}
IsUnselected (Public k) = Unit {0}
IsUnselected FirstRow = ⊥
IsUnselected LastRow = ⊥
IsUnselected Transition = ⊥

-- the expression reads no selector, and no cell of the extension
abbrev pub ReadsUnselected : {F : Type 0} → Tree F → Type 0
ReadsUnselected tree = ReadsIn IsUnselected (λ _. ⊥) tree

-- it reads no cell of the extension, and a selector is multiplied alone: none stands in a sum or a difference
abbrev pub HasSelectorsAsFactors : {F : Type 0} → Tree F → Type 0
HasSelectorsAsFactors (constant x) = Unit {0}
HasSelectorsAsFactors (cell c) = Unit {0}
HasSelectorsAsFactors (ext_cell c) = ⊥
HasSelectorsAsFactors (sum x y) = ReadsUnselected x × ReadsUnselected y
HasSelectorsAsFactors (difference x y) = ReadsUnselected x × ReadsUnselected y
HasSelectorsAsFactors (product x y) = HasSelectorsAsFactors x × HasSelectorsAsFactors y
