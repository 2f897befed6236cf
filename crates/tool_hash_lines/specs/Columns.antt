-- The cells of a row, off the polynomials of a table's columns.
use Rattle.std.specs.Prelude.{List, map}
use Rattle.p3_field.specs.BabyBear.{baby_bear_ring}
use Rattle.p3_field.specs.Poly.{eval_poly}
use Rattle.p3_field.specs.declared.baby_bear.BabyBear.{BabyBear}

-- the values of polynomials at a point
abbrev pub polynomial_cells_at : List (List BabyBear) → (point : BabyBear) → List BabyBear
polynomial_cells_at polynomials point = map (λ f. eval_poly baby_bear_ring f point) polynomials
