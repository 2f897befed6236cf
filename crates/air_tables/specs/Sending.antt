-- The sending table: what it declares, its constraint and its interactions.
use Rattle.std.specs.Prelude.{ℕ, false, List, [], ◌∷◌, None, Some}
use Rattle.air_core.specs.declared.cells.Cell.{Cell}
use Rattle.air_core.specs.declared.cells.Cell.TheVariants.{Main, Preprocessed, Periodic, Public}
use Rattle.air_core.specs.Shape.{Declaration}
use Rattle.air_core.specs.Tree.{Tree, constant, cell, difference, product, Interaction, global, local}

-- One column, which is the product of a preprocessed and a periodic column. Each row sends the pair of
-- its cell and the public value on the bus `words`, once; and within the table its cell, as often as the public value
-- says, and the public value, once.
abbrev pub sending_trees : {F : Type 0} → List (Tree F)
sending_trees = difference (cell (Main false 0)) (product (cell (Preprocessed false 0)) (cell (Periodic 0))) ∷ []

-- the bytes of the bus's name
abbrev pub sending_bus : List ℕ
sending_bus = 119 ∷ 111 ∷ 114 ∷ 100 ∷ 115 ∷ []

-- the pair (x, y) on the bus, once
abbrev pub words_sent : {F : Type 0} → F → Cell → Cell → Interaction F
words_sent one x y = record {
  bus = global sending_bus;
  fields = cell x ∷ cell y ∷ [];
  counts = record { value = constant one; bound = 1 } ∷ [];
}

-- within the table x, as often as y says, and y, once
abbrev pub cells_sent : {F : Type 0} → F → Cell → Cell → Interaction F
cells_sent one x y = record {
  bus = local;
  fields = cell x ∷ cell y ∷ [];
  counts = record { value = cell y; bound = 7 } ∷ record { value = constant one; bound = 1 } ∷ [];
}

abbrev pub sending_interactions : {F : Type 0} → F → List (Interaction F)
sending_interactions one =
    words_sent one (Main false 0) (Public 0) ∷ cells_sent one (Main false 0) (Public 0) ∷ []

abbrev pub sending_declaration : {F : Type 0} → List F → List (List F) → Declaration F
sending_declaration steps periodic = record {
  width = 1;
  preprocessed = Some (record { values = steps; width = 1 });
  main_next = [];
  preprocessed_next = [];
  public_values = 1;
  periodic = periodic;
  constraints = Some 1;
  degree_hint = None;
  boolean_trace = false;
}
