-- How a challenger takes in a plain commitment.
use Rattle.std.specs.Prelude.{List, ◌∷◌, length, flat_map}
use Rattle.p3_field.specs.Ring.{Ring, of_nat}
use Rattle.p3_matrix.specs.Matrix.{Rows, height}
use Rattle.plain_pcs.specs.Scheme.{PlainCommitmentData}

-- the field elements that a commitment is observed as: the number of matrices, then per matrix its width, its height and
-- its values row by row
abbrev pub matrix_elements : {F : Type 0} → Ring F → Rows F → List F
matrix_elements r m = of_nat r m.width ∷ of_nat r (height m) ∷ m.values

unfoldable pub commitment_elements : {F : Type 0} → Ring F → PlainCommitmentData F → List F
commitment_elements r c = of_nat r (length c.matrices) ∷ flat_map (matrix_elements r) c.matrices
