-- Chunks of the honest quotient's values are those of the honest proof.
use Rattle.std.proofs.Common.{◌≡◌, ℕ, ◌+◌, ◌^◌, ◌<◌, List, length, get_or, All, sym, ◌∙◌, ap, subst, arith}
use Rattle.std.proofs.lemmas.Option.{slice_get-get_or}
use Rattle.p3_field.specs.Domain.{CosetData, subgroup}
use Rattle.p3_field.specs.Field.{Extension, TwoAdic}
use Rattle.p3_field.specs.Laws.Tabulate.{length-tabulate, tabulate_items, tabulate_same}
use Rattle.p3_matrix.specs.Matrix.{FillsRows, Rows}
use Rattle.p3_matrix.specs.Laws.Cells.{same_matrix}
use Rattle.commit_core.specs.Space.{EachOf}
use Rattle.air_core.specs.Tree.{Tree}
use Rattle.prover_values.specs.Chunks.{IsChunk}
use Rattle.prover_values.specs.Evaluations.{quotient_values_on}
use Rattle.batch_config.specs.Setting.{Setting}
use Rattle.law_committed.specs.Committed.{CommittedTable}
use Rattle.law_committed.specs.Fields.{FieldsLaws}
use Rattle.law_committed.specs.Quotient.{chunk_domain}
use Rattle.law_valid.specs.Traced.{TracedTable, constraints, log_parts, log_rows, no_rows, quotient_shift}
use Rattle.law_honest.specs.HonestProof.{Prover, chunk_matrices, chunk_rows, committed_table}
use Rattle.law_honest.specs.Laws.ChunkRows.{chunk_column, chunk_fills, chunk_tall}

-- a quotient has a value for each point
pub values_count : {F E : Type 0} (f : TwoAdic F) (e : Extension F E) (t : CommittedTable F E) (trees : List (Tree F)) (alpha : E) (d : CosetData F) (values : List E)
    → values ≡ quotient_values_on f e t trees alpha d → length values ≡ 2 ^ d.log_size
values_count f e t trees alpha d values are = ap length are ∙ length-tabulate (2 ^ d.log_size) _

module _ {S F E C : Type 0} (c : Setting S F E C) (p : Prover F E C) (t : TracedTable F) (challenges : List E) (L : FieldsLaws c.field c.extension c.two_adicity p.inverse) (alpha : E) where
  abbrev k : CommittedTable F E
  k = committed_table c p t challenges

  abbrev parts : ℕ
  parts = 2 ^ log_parts c t

  abbrev chunk : ℕ → CosetData F × Rows F
  chunk n = (chunk_domain c.field c.extension k (quotient_shift c) (log_parts c t) n, chunk_rows c p t challenges alpha n)

  one_chunk : (n : ℕ) (x : CosetData F × Rows F) → FillsRows x.1.values x.1.width
      → IsChunk c.field c.extension k (quotient_shift c) (log_parts c t) (constraints c t) alpha n x → x ≡ chunk n
  unfolding committed_table
  one_chunk n x fills K =
      let m : x.1 ≡ chunk_rows c p t challenges alpha n =
      same_matrix c.field.ring.zero (chunk_rows c p t challenges alpha n) x.1 (chunk_fills c p t challenges L alpha n) fills K.width (K.height ∙ sym (chunk_tall c p t challenges L alpha n))
      (λ j l. K.cells j l ∙ sym (chunk_column c p t challenges L alpha n j l)) in
      λ i. (K.domain i, m i)

  -- chunks whose matrices fill their rows are the honest ones
  pub chunks_are : (pieces : List (CosetData F × Rows F)) → EachOf parts pieces (IsChunk c.field c.extension k (quotient_shift c) (log_parts c t) (constraints c t) alpha)
      → All (λ (e : CosetData F × Rows F). FillsRows e.1.values e.1.width) pieces → pieces ≡ chunk_matrices c p t challenges alpha
  chunks_are pieces A fill =
      let none : CosetData F × Rows F = (subgroup c.field.ring 0, no_rows) in
      tabulate_items none pieces parts A.count
      ∙ tabulate_same parts (λ n. get_or pieces n none) chunk (λ n b.
      let inside : n < length pieces = let q = A.count in omega (arith, b, q) in
      one_chunk n (get_or pieces n none) (fill n none inside) (A.each n (get_or pieces n none) (slice_get-get_or pieces n none inside)))

  -- the chunks of what are the honest quotient's values
  pub chunks_from : (pieces : List (CosetData F × Rows F)) (d : CosetData F) (m : ℕ) (values : List E) → d ≡ record { shift = quotient_shift c; log_size = log_rows c t + log_parts c t } → m ≡ log_parts c t
      → values ≡ quotient_values_on c.field c.extension k (constraints c t) alpha d → All (λ (e : CosetData F × Rows F). FillsRows e.1.values e.1.width) pieces
      → ((u : CommittedTable F E) (trees : List (Tree F)) (folding : E) → d.log_size ≡ u.log_height + m → values ≡ quotient_values_on c.field c.extension u trees folding d
      → EachOf (2 ^ m) pieces (IsChunk c.field c.extension u d.shift m trees folding))
      → pieces ≡ chunk_matrices c p t challenges alpha
  unfolding committed_table
  chunks_from pieces d m values place size are fill given =
      let high : d.log_size ≡ log_rows c t + m = ap (λ x. x.log_size) place ∙ ap (λ n. log_rows c t + n) (sym size) in
      let own = given k (constraints c t) alpha high are in
      chunks_are pieces
      (subst (λ (n : ℕ). EachOf (2 ^ n) pieces (IsChunk c.field c.extension k (quotient_shift c) n (constraints c t) alpha)) size
      (subst (λ (x : F). EachOf (2 ^ m) pieces (IsChunk c.field c.extension k x m (constraints c t) alpha)) (ap (λ x. x.shift) place) own))
      fill
