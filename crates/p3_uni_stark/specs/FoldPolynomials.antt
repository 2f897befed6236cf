-- The fold of constraints that are polynomials.
use Rattle.std.specs.Prelude.{List, [], ◌∷◌, length}
use Rattle.p3_field.specs.Ring.{Ring, pow}
use Rattle.p3_field.specs.Poly.{add_poly, scale_poly}

-- the sum of a^(n-1-i) times polynomial i of n
unfoldable pub fold_poly : {E : Type 0} → Ring E → E → List (List E) → List E
fold_poly r a [] = []
fold_poly r a (p ∷ ps) = add_poly r (scale_poly r (pow r a (length ps)) p) (fold_poly r a ps)
