-- The lines that `verify` prints of a statement's hash tables.
use Rattle.std.specs.Prelude.{◌≡◌, ℕ, ◌+◌, ◌^◌, ◌<◌, ◌≤◌, List, [], length, Some, slice_get}
use Rattle.std.specs.Prelude.{slice_index_or as get_or}
use Rattle.air_core.specs.Joined.{joined}
use Rattle.p3_field.specs.declared.baby_bear.BabyBear.{BabyBear}
use Rattle.p3_matrix.specs.Matrix.{height}
use Rattle.law_committed.specs.BaseRows.{main_row}
use Rattle.law_soundness.specs.Commitment.{matrix_at}
use Rattle.law_soundness.specs.CommittedBatch.{committed_table_at}
use Rattle.tool_proof_text.specs.ProofText.{ToolProofData}
use Rattle.transcript_version.specs.declared.TranscriptVersion.TheVariants.{V1}
use Rattle.tool_statement.specs.Config.{tool_setting}
use Rattle.tool_statement.specs.StatedTables.{tool_statement}
use Rattle.tool_statement.specs.declared.table.TableStatement.{TableStatement}
use Rattle.tool_statement.specs.declared.table.TableStatement.TheVariants.{Swap, Wheel, Take, Give, Hash}
use Rattle.tool_hash_lines.specs.RowText.{row_line}

-- the cells of a row of table i: the values of its committed columns over the base field at the row's point, in which the transcript's version has
-- no part
abbrev pub committed_cells : List TableStatement → ToolProofData → (i row : ℕ) → List BabyBear
committed_cells tables p i row = main_row (tool_setting V1).field (committed_table_at (tool_setting V1) 1 (tool_statement tables) p i) row

-- the lines of table i, where it is stated as this: of a hash table one for each row, and none of others
abbrev pub table_lines : List TableStatement → ToolProofData → (i : ℕ) → TableStatement → List ℕ
table_lines tables p i (Swap k a b x) = []
table_lines tables p i (Wheel k) = []
table_lines tables p i (Take k) = []
table_lines tables p i (Give k) = []
table_lines tables p i (Hash k) = joined (2 ^ k) (λ row. row_line row (committed_cells tables p i row))

-- the lines of all tables in order; no place after the last is read
unfoldable pub printed_rows : List TableStatement → ToolProofData → List ℕ
printed_rows tables p = joined (length tables) (λ i. table_lines tables p i (get_or tables i (Take 0)))

-- The proof's main commitment has matrix i, of a table of 2^k rows with so many columns: twice as high, on one of the field's domains, and with these columns.
-- Its degree bits are k.
pub record HasMainMatrix (p : ToolProofData) (i k width : ℕ) : Type 0 where
  pub exists : i < length p.commitments.main.matrices
  pub degree_is : get_or p.degree_bits i 0 ≡ k
  pub fits : k + 1 ≤ 27
  pub height_is : height (matrix_at p.commitments.main i) ≡ 2 ^ (k + 1)
  pub width_is : (matrix_at p.commitments.main i).width ≡ width

-- so of each hash table, which has a column for each cell of a compression's row
abbrev pub HasHashMatrices : List TableStatement → ToolProofData → Type 0
HasHashMatrices tables p = (i k : ℕ) → slice_get tables i ≡ Some (Hash k) → HasMainMatrix p i k 9168
