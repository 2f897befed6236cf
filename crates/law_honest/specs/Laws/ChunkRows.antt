-- The rows and the columns of a chunk of an honest quotient.
use Rattle.std.proofs.Common.{◌≡◌, ℕ, ◌+◌, ◌*◌, ◌^◌, ◌<◌, List, length, get_or, sym, ◌∙◌, ap, arith}
use Rattle.p3_field.specs.Laws.Tabulate.{get_or-tabulate, length-tabulate, tabulate_same}
use Rattle.p3_field.specs.Poly.{tabulate}
use Rattle.p3_matrix.specs.Matrix.{FillsRows, cell_at, column, height, row_at}
use Rattle.p3_matrix.specs.Laws.Transposed.{get_or-row_at}
use Rattle.batch_config.specs.Setting.{Setting}
use Rattle.law_committed.specs.Fields.{FieldsLaws}
use Rattle.law_committed.specs.Quotient.{chunk_cell}
use Rattle.law_valid.specs.Laws.Columns.{pieces_height, pieces_row, pieces_tall}
use Rattle.law_valid.specs.Traced.{TracedTable, constraints, log_parts, log_rows, quotient_shift}
use Rattle.law_honest.specs.HonestProof.{Prover, chunk_rows, committed_table, quotient_row}

module _ {S F E C : Type 0} (c : Setting S F E C) (p : Prover F E C) (t : TracedTable F) (challenges : List E) (L : FieldsLaws c.field c.extension c.two_adicity p.inverse) (alpha : E) where
  abbrev rows : ℕ
  rows = 2 ^ log_rows c t

  abbrev row_of_chunk : ℕ → ℕ → List F
  row_of_chunk n j = quotient_row c p t challenges alpha (n + 2 ^ log_parts c t * j)

  row_long : (n j : ℕ) → length (row_of_chunk n j) ≡ c.extension.dimension
  row_long n j = L.vector.coefficients_length _

  abbrev places : List ℕ
  places = tabulate rows (λ j. j)

  counted : length places ≡ rows
  counted = length-tabulate rows (λ j. j)

  -- a chunk has a row for each of the table's
  pub chunk_tall : (n : ℕ) → height (chunk_rows c p t challenges alpha n) ≡ rows
  chunk_tall n = pieces_height (row_of_chunk n) c.extension.dimension (row_long n) L.vector.positive places ∙ counted

  pub chunk_fills : (n : ℕ) → FillsRows (chunk_rows c p t challenges alpha n).values (chunk_rows c p t challenges alpha n).width
  chunk_fills n = (pieces_tall (row_of_chunk n) c.extension.dimension (row_long n) L.vector.positive rows places counted).fills

  pub chunk_row : (n j : ℕ) → j < rows → row_at (chunk_rows c p t challenges alpha n) j ≡ row_of_chunk n j
  chunk_row n j b =
      pieces_row (row_of_chunk n) c.extension.dimension (row_long n) places j 0 (let q = counted in omega (arith, b, q))
      ∙ ap (row_of_chunk n) (get_or-tabulate rows (λ j. j) j 0 b)

  -- and its columns are those whose interpolants are the honest chunk's polynomials
  pub chunk_column : (n i : ℕ) → i < c.extension.dimension
      → column c.field.ring.zero (chunk_rows c p t challenges alpha n) i
      ≡ tabulate rows (chunk_cell c.field c.extension (committed_table c p t challenges) (quotient_shift c) (log_parts c t) (constraints c t) alpha n i)
  unfolding column
  chunk_column n i below =
      let m = chunk_rows c p t challenges alpha n in
      let z = c.field.ring.zero in
      ap (λ h. tabulate h (λ j. cell_at z m j i)) (chunk_tall n)
      ∙ tabulate_same rows (λ j. cell_at z m j i) (λ j. get_or (row_of_chunk n j) i z)
      (λ j b. sym (get_or-row_at m j i z below) ∙ ap (λ r. get_or r i z) (chunk_row n j b))
