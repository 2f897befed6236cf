-- What a table's identity reads in its periodic columns. After Plonky3's p3-commit (PolynomialSpace).
use Rattle.std.specs.Prelude.{◌^◌, List, get_or}
use Rattle.p3_field.specs.Field.{TwoAdic, Extension}
use Rattle.p3_field.specs.Poly.{eval_poly_in}
use Rattle.p3_field.specs.Newton.{newton}
use Rattle.p3_field.specs.Domain.{CosetData, point}
use Rattle.commit_core.specs.Periodic.{over_rows}

-- The value at a point of a periodic column's polynomial over a domain: the interpolant of the column, repeated over the domain's points.
unfoldable pub periodic_value : {F E : Type 0} → TwoAdic F → Extension F E → CosetData F → E → List F → E
periodic_value f e d zeta column = eval_poly_in e (newton f.ring f.inv (2 ^ d.log_size) (point f.ring f.root d) (λ i. get_or (over_rows (2 ^ d.log_size) column) i f.ring.zero)) zeta
