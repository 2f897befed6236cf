-- A matrix that was extended, column by column.
use Rattle.std.specs.Prelude.{◌≡◌, ℕ, ◌<◌}
use Rattle.p3_field.specs.Ring.{Ring}
use Rattle.p3_matrix.specs.Matrix.{Rows, column}
use Rattle.p3_dft.specs.Transform.{IsExtension}

-- w has, at the n points q, the values of the interpolants of m's columns on the points p
pub record AreExtended {F : Type 0} (r : Ring F) (p : ℕ → F) (m : Rows F) (n : ℕ) (q : ℕ → F) (w : Rows F) : Type 0 where
  pub width_is : w.width ≡ m.width
  pub each : (j : ℕ) → j < m.width → IsExtension r p q n (column r.zero m j) (column r.zero w j)
