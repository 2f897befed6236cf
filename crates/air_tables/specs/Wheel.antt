-- The wheel table: what it declares, and its constraint.
use Rattle.std.specs.Prelude.{ℕ, ◌+◌, ◌^◌, false, List, [], ◌∷◌, None, Some}
use Rattle.p3_field.specs.Ring.{Ring, of_nat}
use Rattle.p3_field.specs.Poly.{tabulate}
use Rattle.air_core.specs.declared.cells.Cell.TheVariants.{Main, Preprocessed, Periodic}
use Rattle.air_core.specs.Shape.{Declaration}
use Rattle.air_core.specs.Tree.{Tree, cell, difference, product}

-- the column is the product of the preprocessed column and of the periodic one
abbrev pub wheel_trees : {F : Type 0} → List (Tree F)
wheel_trees = difference (cell (Main false 0)) (product (cell (Preprocessed false 0)) (cell (Periodic 0))) ∷ []

-- the preprocessed column's cell in row i: i + 1
abbrev pub number_in : {F : Type 0} → Ring F → ℕ → F
number_in r i = of_nat r (i + 1)

-- this column of n rows
abbrev pub numbers_to : {F : Type 0} → Ring F → ℕ → List F
numbers_to r n = tabulate n (number_in r)

-- the periodic column
abbrev pub turns : {F : Type 0} → Ring F → List F
turns r = of_nat r 3 ∷ of_nat r 5 ∷ []

-- 2^k rows, with these periodic columns
abbrev pub wheel_over : {F : Type 0} → Ring F → (k : ℕ) → List (List F) → Declaration F
wheel_over r k periodic = record {
  width = 1;
  preprocessed = Some (record { values = numbers_to r (2 ^ k); width = 1 });
  main_next = [];
  preprocessed_next = [];
  public_values = 0;
  periodic = periodic;
  constraints = None;
  degree_hint = None;
  boolean_trace = false;
}

-- the wheel of 2^k rows: the periodic column is 3, 5
abbrev pub wheel_declaration : {F : Type 0} → Ring F → (k : ℕ) → Declaration F
wheel_declaration r k = wheel_over r k (turns r ∷ [])
