-- The rows of a committed table (not in Plonky3).
use Rattle.std.specs.Prelude.{◌≡◌, ℕ, ◌^◌, ◌<◌, List, length}
use Rattle.p3_field.specs.BabyBear.{baby_bear_ring, baby_bear_root}
use Rattle.p3_field.specs.Domain.{point, subgroup}
use Rattle.p3_field.specs.declared.baby_bear.BabyBear.{BabyBear}
use Rattle.p3_matrix.specs.Matrix.{Rows, height, row_at}
use Rattle.plain_pcs.specs.Scheme.{PlainCommitmentData}
use Rattle.law_soundness.specs.Commitment.{polynomials_at}
use Rattle.tool_hash_lines.specs.Columns.{polynomial_cells_at}
use Rattle.tool_statement.specs.Config.{tool_scheme}

-- The matrix has the 2^k rows of columns with these polynomials: each row has their values at its point.
pub record HasRowsOf (k : ℕ) (polynomials : List (List BabyBear)) (m : Rows BabyBear) : Type 0 where
  pub width_is : m.width ≡ length polynomials
  pub height_is : height m ≡ 2 ^ k
  pub rows : (row : ℕ) → row < 2 ^ k → row_at m row ≡ polynomial_cells_at polynomials (point baby_bear_ring baby_bear_root (subgroup baby_bear_ring k) row)

-- so of the columns that a matrix is committed to by
abbrev pub AreRowsOf : (k : ℕ) → PlainCommitmentData BabyBear → (matrix : ℕ) → Rows BabyBear → Type 0
AreRowsOf k commitment matrix m = HasRowsOf k (polynomials_at tool_scheme k commitment matrix) m
