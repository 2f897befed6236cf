-- What an accepted proof of stated tables means: each table holds unless a challenge is unlucky, swap tables end as they should, and rows of hash tables are
-- printed as compressions.
use Rattle.std.proofs.Common.{◌≡◌, ℕ, ◌^◌, ◌<◌, List, [], ◌∷◌, length, get_or, map, All, Some, refl, sym, ◌∙◌, ap, subst, arith}
use Rattle.std.specs.Prelude.{nat_eq, slice_get}
use Rattle.std.proofs.lemmas.List.{get_or-map, length-map}
use Rattle.std.proofs.lemmas.List.Elements.{All-map}
use Rattle.std.proofs.lemmas.Option.{get_or_from_slice_get, slice_get_within}
use Rattle.p3_field.specs.BabyBear.{baby_bear_ring}
use Rattle.p3_field.specs.Laws.BabyBearField.{baby_bear_eq_same, baby_bear_same_eq}
use Rattle.p3_field.specs.Quartic.{of_baby_bear_value, quartic_inv, quartic_ring}
use Rattle.p3_field.specs.declared.baby_bear.BabyBear.{BabyBear}
use Rattle.p3_field.specs.declared.quartic.QuarticExtension.{QuarticExtension}
use Rattle.air_core.specs.Laws.Lists.{all_of_tabulate}
use Rattle.air_core.specs.Shape.{ReadsDeclared, declared_shape}
use Rattle.blake3_compress.specs.Compress.{Input}
use Rattle.blake3_compress.specs.TraceRow.{AreWords, trace_row}
use Rattle.blake3_prime.specs.Laws.Reads.{blake3_read}
use Rattle.blake3_prime.specs.Meanings.{RowMeans}
use Rattle.blake3_prime.specs.Trees.{blake3_trees}
use Rattle.p3_lookup.specs.Trees.{lookup_trees}
use Rattle.plain_pcs.specs.Scheme.{PlainCommitmentData}
use Rattle.law_committed.specs.Batch.{DividedTable}
use Rattle.law_committed.specs.Committed.{CommittedTable, Holds}
use Rattle.law_committed.specs.Fields.{FieldsLaws, baby_bear_field, quartic_extension}
use Rattle.batch_statement.specs.Statement.{Statement, AirTable, WellFormed}
use Rattle.batch_statement.specs.Words.{no_table}
use Rattle.verifier_batch.specs.BatchChecks.{Accepted}
use Rattle.law_soundness.specs.CommittedBatch.{ReadDeclared, committed_at, committed_batch, committed_table_at, lookups_at, stated_table}
use Rattle.law_soundness.specs.Laws.Accepted.{batch_holds, batch_low, heights_fit}
use Rattle.law_balance.specs.Laws.Accepted.{accepted_balance}
use Rattle.law_soundness.specs.Laws.Bound.{Binds}
use Rattle.law_soundness.specs.Laws.Counts.{few_batch_alphas, few_batch_zetas}
use Rattle.law_soundness.specs.Laws.Opened.{columns_declared}
use Rattle.law_soundness.specs.Laws.Swap.{holds_before}
use Rattle.law_soundness.specs.Laws.SwapTables.{first_of, swaps_end}
use Rattle.law_soundness.specs.Meaning.{HoldUnlessUnlucky, IsAlphaUnlucky, IsZetaUnlucky}
use Rattle.law_soundness.specs.PlainSetting.{plain_scheme}
use Rattle.law_soundness.specs.Swapped.{EndsSwapped}
use Rattle.law_hash_soundness.specs.Laws.Hashes.{row_is_compression}
use Rattle.transcript_version.specs.declared.TranscriptVersion.{TranscriptVersion}
use Rattle.tool_tables.specs.Laws.Tool.{tool-read}
use Rattle.air_tables.specs.Laws.Wheel.{wheel-read}
use Rattle.air_tables.specs.Wheel.{turns}
use Rattle.tool_tables.specs.declared.tool.ToolAir.TheVariants.{Swap as SwapTable, Words as WordsTable}
use Rattle.tool_tables.specs.declared.words.WordsAir.TheVariants.{Take as Taking, Give as Giving}
use Rattle.tool_statement.specs.Config.{tool_backend, tool_scheme, tool_setting}
use Rattle.tool_statement.specs.StatedTables.{HaveStatedHeights, publics_of, source_of_table, air_table_of, tool_common, tool_statement}
use Rattle.tool_statement.specs.declared.table.TableStatement.{TableStatement}
use Rattle.tool_statement.specs.declared.table.TableStatement.TheVariants.{Swap, Wheel, Take, Give, Hash}
use Rattle.tool_proof_text.specs.ProofText.{ToolProofData}
use Rattle.tool_hash_lines.specs.Laws.Compressions.{line_of_compression}
use Rattle.tool_hash_lines.specs.Laws.Matrices.{binds_of_tool, degree, laws_of_tool, plain_tool, stated_degree}
use Rattle.tool_hash_lines.specs.PrintedRows.{committed_cells}
use Rattle.tool_verifier.specs.FileAnswer.{FewAreUnlucky, PrintCompressions, SwapsEnd, SwapsEndByBits, TablesBalance}

-- the tables' constraints read declared cells
table_read : (t : TableStatement) → All (ReadsDeclared (declared_shape (source_of_table t).declaration)) (source_of_table t).trees
table_read (Swap k a b x) = tool-read baby_bear_ring (SwapTable (record {}))
table_read (Wheel k) = wheel-read baby_bear_ring k (turns baby_bear_ring ∷ []) refl
table_read (Take k) = tool-read baby_bear_ring (WordsTable Taking)
table_read (Give k) = tool-read baby_bear_ring (WordsTable Giving)
table_read (Hash k) = blake3_read baby_bear_ring

module _ (version : TranscriptVersion) (tables : List TableStatement) (p : ToolProofData) (L : FieldsLaws baby_bear_field quartic_extension 27 quartic_inv) (B : Binds tool_scheme quartic_ring of_baby_bear_value)
    (formed : WellFormed (map (λ (t : AirTable BabyBear). t.declaration) (map air_table_of tables)) (tool_common tables)) (accepted : Accepted (tool_setting version) tool_backend (tool_statement tables) p) where
  abbrev s : Statement BabyBear (PlainCommitmentData BabyBear)
  s = tool_statement tables

  fields : FieldsLaws (tool_setting version).field (tool_setting version).extension (tool_setting version).two_adicity quartic_inv
  fields = laws_of_tool version quartic_inv L

  binds : Binds (plain_scheme (tool_setting version) 1) (tool_setting version).extension.ring (tool_setting version).extension.embed
  binds = binds_of_tool version B

  reads : ReadDeclared s
  reads = All-map (λ (t : AirTable BabyBear). All (ReadsDeclared (declared_shape t.declaration)) t.trees) air_table_of tables (λ k t l. table_read _)

  -- all tables hold, or a challenge is unlucky
  pub tables_hold : HoldUnlessUnlucky (tool_setting version) 1 s p
  tables_hold = batch_holds (tool_setting version) tool_backend 1 s p quartic_inv fields (plain_tool version) binds formed accepted reads

  -- few challenges are unlucky
  pub few_unlucky : FewAreUnlucky version tables p
  few_unlucky =
      let c = tool_setting version in
      let batch = committed_batch c 1 s p in
      let fit = heights_fit c tool_backend 1 s p quartic_inv fields (plain_tool version) binds formed accepted in
      let low = batch_low c tool_backend 1 s p quartic_inv fields (plain_tool version) binds formed accepted in
      record {
        alphas = λ alphas distinct unlucky. few_batch_alphas c.field c.extension c.two_adicity quartic_inv fields batch alphas distinct unlucky;
        zetas = λ alpha zetas distinct unlucky. few_batch_zetas c.field c.extension c.two_adicity quartic_inv fields batch alpha zetas fit low distinct unlucky;
      }

  -- what they send balances, or a challenge is unlucky
  pub tables_balance : TablesBalance version tables p
  tables_balance =
      accepted_balance (tool_setting version) tool_backend 1 s p quartic_inv fields (plain_tool version) binds formed accepted (λ x y. nat_eq x.value y.value) baby_bear_same_eq baby_bear_eq_same reads

  -- a table at its place
  module _ (i : ℕ) (t : TableStatement) (at : slice_get tables i ≡ Some t) where
    within : i < length tables
    within = slice_get_within tables i t at

    here : get_or tables i (Take 0) ≡ t
    here = get_or_from_slice_get tables i t (Take 0) at

    placed : i < length s.tables
    placed = let n = length-map tables air_table_of in let l = within in omega (arith, n, l)

    stated_is : stated_table s i ≡ air_table_of t
    stated_is = get_or-map air_table_of tables i (Take 0) no_table within ∙ ap air_table_of here

    publics_are : get_or s.publics i [] ≡ publics_of t
    publics_are = get_or-map publics_of tables i (Take 0) [] within ∙ ap publics_of here

  -- swap tables, by the proof's degree bits
  pub swaps_by_bits : SwapsEndByBits version tables p
  swaps_by_bits no_alpha no_zeta i k a b x at =
      swaps_end (tool_setting version) 1 s p quartic_inv fields (first_of tables_hold no_alpha no_zeta) (heights_fit (tool_setting version) tool_backend 1 s p quartic_inv fields (plain_tool version) binds formed accepted) i a b x
      (placed i (Swap k a b x) at) (ap (λ (t : AirTable BabyBear). t.trees) (stated_is i (Swap k a b x) at)) (publics_are i (Swap k a b x) at)

  -- and by the stated heights
  pub swaps : HaveStatedHeights tables p.degree_bits → SwapsEnd version tables p
  swaps heights no_alpha no_zeta i k a b x at =
      subst (λ (n : ℕ). EndsSwapped n a b x) (stated_degree version tables p quartic_inv L B formed accepted heights i (Swap k a b x) at) (swaps_by_bits no_alpha no_zeta i k a b x at)

  -- the constraints of a hash table
  trees_of_hash : (i k : ℕ) → slice_get tables i ≡ Some (Hash k) → Holds (tool_setting version).field (tool_setting version).extension (committed_table_at (tool_setting version) 1 s p i) (stated_table s i).trees
      → Holds (tool_setting version).field (tool_setting version).extension (committed_table_at (tool_setting version) 1 s p i) (blake3_trees (tool_setting version).field.ring)
  unfolding tool_setting
  trees_of_hash i k at h = subst (λ (u : AirTable BabyBear). Holds (tool_setting version).field (tool_setting version).extension (committed_table_at (tool_setting version) 1 s p i) u.trees) (stated_is i (Hash k) at) h

  -- rows of hash tables
  rows_are_compressions : RowMeans (tool_setting version).field.ring → HaveStatedHeights tables p.degree_bits
      → (IsAlphaUnlucky (tool_setting version) 1 s p → ⊥) → (IsZetaUnlucky (tool_setting version) 1 s p → ⊥) → (i k row : ℕ) → slice_get tables i ≡ Some (Hash k) → row < 2 ^ k
      → (x : Input) × AreWords x × (committed_cells tables p i row ≡ trace_row (tool_setting version).field.ring x)
  unfolding tool_setting
  rows_are_compressions means heights no_alpha no_zeta i k row at inside =
      let t : CommittedTable BabyBear QuarticExtension = committed_table_at (tool_setting version) 1 s p i in
      let below = placed i (Hash k) at in
      let holds = first_of tables_hold no_alpha no_zeta in
      let own = all_of_tabulate (λ (t : DividedTable BabyBear QuarticExtension). Holds (tool_setting version).field (tool_setting version).extension t.table t.trees) (length s.tables) (committed_at (tool_setting version) 1 s p) holds i below in
      let first = holds_before (tool_setting version).field (tool_setting version).extension t (stated_table s i).trees (lookup_trees (tool_setting version).field.ring (lookups_at s i)) own in
      let columns = (columns_declared (tool_setting version) tool_backend 1 s p quartic_inv fields (plain_tool version) binds formed accepted i below).main in
      let wide = ap (λ (u : AirTable BabyBear). u.declaration.width) (stated_is i (Hash k) at) in
      row_is_compression (tool_setting version).field (tool_setting version).extension (tool_setting version).two_adicity quartic_inv fields t means (columns ∙ wide) (trees_of_hash i k at first) row
      (subst (λ n. row < 2 ^ n) (sym (degree version tables p quartic_inv L B formed accepted heights i k at)) inside)

  -- so each is printed as a compression
  pub hashes : RowMeans baby_bear_ring → HaveStatedHeights tables p.degree_bits → PrintCompressions version tables p
  unfolding tool_setting
  hashes means heights no_alpha no_zeta i k row at inside =
      let (x, words, cells) = rows_are_compressions means heights no_alpha no_zeta i k row at inside in
      (x, words, line_of_compression row (committed_cells tables p i row) x words cells)
