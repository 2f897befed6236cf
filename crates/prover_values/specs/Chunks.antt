-- The chunks of a table's quotient by their values, each with its domain. After Plonky3's p3-batch-stark, whose prover splits what
-- quotient_values gives.
use Rattle.std.specs.Prelude.{◌≡◌, ℕ, ◌<◌, List}
use Rattle.p3_field.specs.Field.{TwoAdic, Extension}
use Rattle.p3_field.specs.Poly.{tabulate}
use Rattle.p3_field.specs.Domain.{CosetData}
use Rattle.p3_matrix.specs.Matrix.{Rows, column, height}
use Rattle.air_core.specs.Tree.{Tree}
use Rattle.law_committed.specs.Committed.{CommittedTable, row_count_of}
use Rattle.law_committed.specs.Quotient.{chunk_cell, chunk_domain}

-- The matrix is chunk i of the honest quotient on its domain: it has a row for each row of the table and a column for each
-- coefficient, and row j of chunk i has the coefficients of the quotient's value at point i + C j of the quotient domain, for C chunks.
pub record IsChunk {F E : Type 0} (f : TwoAdic F) (e : Extension F E) (t : CommittedTable F E) (shift : F) (log_chunks : ℕ) (trees : List (Tree F)) (alpha : E) (i : ℕ) (p : CosetData F × Rows F) : Type 0 where
  pub domain : p.0 ≡ chunk_domain f e t shift log_chunks i
  pub width : p.1.width ≡ e.dimension
  pub height : height p.1 ≡ row_count_of t
  pub cells : (k : ℕ) → k < e.dimension → column f.ring.zero p.1 k ≡ tabulate (row_count_of t) (chunk_cell f e t shift log_chunks trees alpha i k)
