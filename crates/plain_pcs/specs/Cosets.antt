-- Matrices with the coset that belongs to their height.
use Rattle.std.specs.Prelude.{◌≡◌, ◌^◌}
use Rattle.p3_field.specs.Domain.{CosetData}
use Rattle.p3_matrix.specs.Matrix.{Rows, height}

-- e is the matrix m with a coset that has this shift and a point for each row
pub record IsOnCoset {F : Type 0} (shift : F) (m : Rows F) (e : CosetData F × Rows F) : Type 0 where
  pub matrix_is : e.1 ≡ m
  pub shift_is : e.0.shift ≡ shift
  pub height_is : height m ≡ 2 ^ e.0.log_size
