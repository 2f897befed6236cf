-- The cells of a committed row, off the polynomials that its table is committed to by.
use Rattle.std.proofs.Common.{◌≡◌, ℕ, ◌^◌, ◌<◌, List, Some, length, get_or, refl, sym, ◌∙◌, ap}
use Rattle.std.proofs.lemmas.Option.{get_or_from_slice_get, slice_get-get_or, slice_get_read}
use Rattle.air_core.specs.Joined.{joined}
use Rattle.p3_field.specs.BabyBear.{baby_bear_ring, baby_bear_root}
use Rattle.p3_field.specs.Domain.{point, subgroup}
use Rattle.p3_field.specs.declared.baby_bear.BabyBear.{BabyBear}
use Rattle.law_soundness.specs.Commitment.{polynomials_at}
use Rattle.tool_proof_text.specs.ProofText.{ToolProofData}
use Rattle.tool_statement.specs.Config.{tool_scheme, tool_setting}
use Rattle.tool_statement.specs.declared.table.TableStatement.{TableStatement}
use Rattle.tool_statement.specs.declared.table.TableStatement.TheVariants.{Hash, Take}
use Rattle.tool_hash_lines.specs.Columns.{polynomial_cells_at}
use Rattle.tool_hash_lines.specs.PrintedRows.{HasHashMatrices, HasMainMatrix, committed_cells, table_lines}
use Rattle.tool_hash_lines.specs.RowText.{row_line}

module _ (tables : List TableStatement) (p : ToolProofData) (i k : ℕ) (degree : get_or p.degree_bits i 0 ≡ k) where
  cells_are : (row : ℕ) → committed_cells tables p i row ≡ polynomial_cells_at (polynomials_at tool_scheme k p.commitments.main i) (point baby_bear_ring baby_bear_root (subgroup baby_bear_ring k) row)
  unfolding tool_setting
  cells_are row = ap (λ n. polynomial_cells_at (polynomials_at tool_scheme n p.commitments.main i) (point baby_bear_ring baby_bear_root (subgroup baby_bear_ring n) row)) degree

  -- the lines of a hash table, off polynomials that are these
  pub lines_are : (fs : List (List BabyBear)) → fs ≡ polynomials_at tool_scheme k p.commitments.main i → get_or tables i (Take 0) ≡ Hash k
      → joined (2 ^ k) (λ row. row_line row (polynomial_cells_at fs (point baby_bear_ring baby_bear_root (subgroup baby_bear_ring k) row))) ≡ table_lines tables p i (get_or tables i (Take 0))
  lines_are fs e here =
      let off : joined (2 ^ k) (λ row. row_line row (polynomial_cells_at fs (point baby_bear_ring baby_bear_root (subgroup baby_bear_ring k) row))) ≡ table_lines tables p i (Hash k)
      = ap (λ gs. joined (2 ^ k) (λ row. row_line row (polynomial_cells_at gs (point baby_bear_ring baby_bear_root (subgroup baby_bear_ring k) row)))) e ∙ (λ j. joined (2 ^ k) (λ row. row_line row (sym (cells_are row) j))) in
      off ∙ ap (table_lines tables p i) (sym here)

-- a table that is read at its place
pub hash_at : (tables : List TableStatement) (i k : ℕ) (x : TableStatement) → i < length tables → x ≡ get_or tables i x → x ≡ Hash k → get_or tables i (Take 0) ≡ Hash k
hash_at tables i k x below read is = get_or_from_slice_get tables i x (Take 0) (slice_get_read tables (length tables) i x refl below read) ∙ is

-- a hash table's matrix, by the table's place
pub matrix_there : (tables : List TableStatement) (p : ToolProofData) → HasHashMatrices tables p → (i k : ℕ) → i < length tables → get_or tables i (Take 0) ≡ Hash k → HasMainMatrix p i k 9168
matrix_there tables p h i k below e = h i k (slice_get-get_or tables i (Take 0) below ∙ ap Some e)
