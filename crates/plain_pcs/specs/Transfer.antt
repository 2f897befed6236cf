-- Values of polynomials taken from one domain to another.
use Rattle.std.specs.Prelude.{◌≡◌, ℕ, ◌-◌, ◌^◌, ◌%◌, ◌<◌, ◌≤◌, List, Some, length, get_or, slice_get}
use Rattle.p3_field.specs.Ring.{Ring, pow}
use Rattle.p3_field.specs.Domain.{CosetData, point}
use Rattle.p3_matrix.specs.Matrix.{Rows, height, cell_at, column}
use Rattle.p3_dft.specs.Transform.{values_at}

-- The matrix v is as wide as m and has a row for each point of e. Where a column of m has a polynomial's values on d, and
-- the polynomial has no more coefficients than d has points, the column of v at its place has its values on e.
pub record IsTransfer {F : Type 0} (r : Ring F) (root : ℕ → F) (d e : CosetData F) (m v : Rows F) : Type 0 where
  pub width_is : v.width ≡ m.width
  pub height_is : height v ≡ 2 ^ e.log_size
  pub column_is : (j : ℕ) (f : List F) → j < m.width → length f ≤ 2 ^ d.log_size → column r.zero m j ≡ values_at r (point r root d) (2 ^ d.log_size) f
      → column r.zero v j ≡ values_at r (point r root e) (2 ^ e.log_size) f

-- m has n rows and a column for each periodic one, repeated over them
pub record IsRepeated {F : Type 0} (z : F) (n : ℕ) (columns : List (List F)) (m : Rows F) : Type 0 where
  pub width_is : m.width ≡ length columns
  pub height_is : 0 < length columns → height m ≡ n
  pub cell_is : (i j : ℕ) (c : List F) → i < n → slice_get columns j ≡ Some c → cell_at z m i j ≡ get_or c (i % length c) z

-- the domain of the powers of d's points to 2^a
abbrev pub folded : {F : Type 0} → Ring F → ℕ → CosetData F → CosetData F
folded r a d = record { shift = pow r d.shift (2 ^ a); log_size = d.log_size - a }
