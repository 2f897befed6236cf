-- Values of trees along maps: trees that are read over a ring, and what a map has to keep for a tree's value to go along it.
use Rattle.std.specs.Prelude.{◌≡◌}
use Rattle.p3_field.specs.Ring.{Ring, sub}
use Rattle.air_core.specs.declared.cells.Cell.{Cell}
use Rattle.air_core.specs.declared.cells.ExtCell.{ExtCell}
use Rattle.air_core.specs.Shape.{ReadsIn}
use Rattle.air_core.specs.Tree.{Tree, Reading}

-- trees over F with values in a ring, where constants go into it by `embed` and the cells have these values
abbrev pub reading_over : {F E : Type 0} → Ring E → (F → E) → (Cell → E) → (ExtCell → E) → Reading F E
reading_over r embed at at_ext = record { from = embed; add = r.add; sub = sub r; mul = r.mul; at = at; at_ext = at_ext }

-- the map takes constants, sums, differences and products of the first reading to those of the second
pub record Keeps {F E G : Type 0} (first : Reading F E) (second : Reading F G) (f : E → G) : Type 0 where
  pub from : (x : F) → f (first.from x) ≡ second.from x
  pub add : (x y : E) → f (first.add x y) ≡ second.add (f x) (f y)
  pub sub : (x y : E) → f (first.sub x y) ≡ second.sub (f x) (f y)
  pub mul : (x y : E) → f (first.mul x y) ≡ second.mul (f x) (f y)

-- the map takes the value of each cell that the tree reads to the cell's value in the second reading
abbrev pub AgreeOn : {F E G : Type 0} → Reading F E → Reading F G → (E → G) → Tree F → Type 0
AgreeOn first second f tree = ReadsIn (λ c. f (first.at c) ≡ second.at c) (λ c. f (first.at_ext c) ≡ second.at_ext c) tree
