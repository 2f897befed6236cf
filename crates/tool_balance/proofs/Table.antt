-- One table that is read off its matrix, and what it sends.
use Rattle.std.proofs.Common.{◌≡◌, ℕ, ◌+◌, ◌^◌, ◌<◌, ◌≤◌, List, [], ◌∷◌, ◌++◌, length, get_or, None, refl, sym, ◌∙◌, ap, subst, arith}
use Rattle.std.specs.Prelude.{All}
use Rattle.std.proofs.lemmas.List.{append-nil, get_or-map, length-map}
use Rattle.std.proofs.lemmas.Option.{get_or_from_slice_get, slice_get_read}
use Rattle.p3_field.specs.BabyBear.{baby_bear_ring}
use Rattle.p3_field.specs.declared.baby_bear.BabyBear.{BabyBear}
use Rattle.p3_matrix.specs.Matrix.{Rows, height}
use Rattle.p3_lookup.specs.Generated.{sent_shape}
use Rattle.p3_lookup.specs.Lookup.{IsLookup}
use Rattle.p3_lookup.specs.Messages.{Message, table_messages}
use Rattle.p3_lookup.specs.Written.{Written, read, read_all}
use Rattle.plain_pcs.specs.Scheme.{PlainCommitmentData}
use Rattle.stark_balance.specs.Sender.{sender_over}
use Rattle.law_soundness.specs.Commitment.{matrix_at}
use Rattle.batch_statement.specs.Statement.{Common, WrittenCommon, read_common}
use Rattle.transcript_version.specs.declared.TranscriptVersion.{TranscriptVersion}
use Rattle.tool_hash_lines.specs.Laws.Matrices.{length-polynomials_at}
use Rattle.tool_proof_text.specs.ProofText.{ToolProofData}
use Rattle.tool_statement.specs.StatedTables.{log_height_of, packed_lookups_at, source_of_table, tool_common}
use Rattle.tool_statement.specs.declared.table.TableStatement.{TableStatement}
use Rattle.tool_statement.specs.declared.table.TableStatement.TheVariants.{Swap, Wheel, Take, Give, Hash}
use Rattle.tool_balance.proofs.Lookups.{common_at, common_count, lookups_fit, lookups_of_table, one_at_most, packed_at_is, table_at}
use Rattle.tool_balance.proofs.Sent.{nothing_sent, sent_by_rows}
use Rattle.tool_balance.specs.Rows.{AreRowsOf}
use Rattle.tool_balance.specs.Senders.{HasMatrixOf, sender_at}

-- a table with lookups has columns
some_columns : (t : TableStatement) → 0 < length (lookups_of_table t) → 0 < (source_of_table t).declaration.width
some_columns (Swap k a b x) some = absurd (omega (arith, some))
some_columns (Wheel k) some = absurd (omega (arith, some))
some_columns (Take k) some = omega arith
some_columns (Give k) some = omega arith
some_columns (Hash k) some = absurd (omega (arith, some))

no_items : {X : Type 0} (xs : List X) → length xs ≡ 0 → xs ≡ []
no_items [] e = refl
no_items (x ∷ xs) e = absurd (omega (arith, e))

module _ (tables : List TableStatement) (p : ToolProofData) (i : ℕ) (below : i < length tables) (matrix : HasMatrixOf tables p i) where
  abbrev t : TableStatement
  t = table_at tables i

  -- the height of a table that is read at its place
  pub height_here : (x : TableStatement) (k : ℕ) → x ≡ get_or tables i x → k ≡ log_height_of x → k ≡ log_height_of t
  height_here x k read e = e ∙ ap log_height_of (sym (get_or_from_slice_get tables i x (Take 0) (slice_get_read tables (length tables) i x refl below read)))

  module _ (c : PlainCommitmentData BabyBear) (main : p.commitments.main ≡ c) (k : ℕ) (log : k ≡ log_height_of t) where
    pub exists : i < length c.matrices
    exists = subst (λ (d : PlainCommitmentData BabyBear). i < length d.matrices) main matrix.exists

    pub fits : k + 1 ≤ 27
    fits = subst (λ n. n + 1 ≤ 27) (sym log) matrix.fits

    pub high : height (matrix_at c i) ≡ 2 ^ (k + 1)
    high = subst (λ (d : PlainCommitmentData BabyBear). height (matrix_at d i) ≡ 2 ^ (k + 1)) main (matrix.height_is ∙ ap (λ n. 2 ^ (n + 1)) (sym log))

    wide : (matrix_at c i).width ≡ (source_of_table t).declaration.width
    wide = subst (λ (d : PlainCommitmentData BabyBear). (matrix_at d i).width ≡ (source_of_table t).declaration.width) main matrix.width_is

    module _ (ws : List (Written BabyBear)) (packed : read_all ws ≡ packed_lookups_at tables i) where
      own : read_all ws ≡ lookups_of_table t
      own = packed ∙ packed_at_is tables i below

      many : length (lookups_of_table t) ≡ length ws
      many = ap length (sym own) ∙ length-map ws read

      pub columns : 0 < length ws → 0 < (matrix_at c i).width
      columns some = let n = some_columns t (omega (arith, some, many)) in omega (arith, n, wide)

      pub one : 0 < length ws → length ws ≡ 1
      one some = let n = one_at_most t (omega (arith, some, many)) in omega (arith, n, many)

      module _ (m : Rows BabyBear) (are : AreRowsOf k c i m) where
        pub fit : All (IsLookup (sent_shape m None [])) (read_all ws)
        fit = subst (All (IsLookup (sent_shape m None []))) (sym own) (lookups_fit t m (are.width_is ∙ (length-polynomials_at k c i ∙ wide)))

        rows_of_table : AreRowsOf (log_height_of t) p.commitments.main i m
        rows_of_table = subst (λ n. AreRowsOf n p.commitments.main i m) log (subst (λ (d : PlainCommitmentData BabyBear). AreRowsOf k d i m) (sym main) are)

        pub sent : (version : TranscriptVersion) → table_messages (sender_over baby_bear_ring m None [] (read_all ws) (0 ∷ [])) ≡ table_messages (sender_at version tables p i)
        sent version = sent_by_rows version tables p i below matrix m rows_of_table (read_all ws) packed

  -- nothing is sent without lookups
  pub none : (ws : List (Written BabyBear)) → read_all ws ≡ packed_lookups_at tables i → length ws ≡ 0 → (version : TranscriptVersion) (old : List (Message BabyBear))
      → old ≡ old ++ table_messages (sender_at version tables p i)
  none ws packed empty version old =
      let nothing : packed_lookups_at tables i ≡ [] = sym packed ∙ ap read_all (no_items ws empty) in
      sym (append-nil old) ∙ ap (λ ms. old ++ ms) (sym (nothing_sent version tables p i below nothing))

-- the lookups of the data that are made of the tables
module _ (tables : List TableStatement) (w : WrittenCommon BabyBear (PlainCommitmentData BabyBear)) (same : read_common w ≡ tool_common tables) where
  pub written_count : length w.lookups ≡ length tables
  written_count = sym (length-map w.lookups read_all) ∙ (ap (λ (c : Common BabyBear (PlainCommitmentData BabyBear)). length c.lookups) same ∙ common_count tables)

  pub written_at : (i : ℕ) (ws : List (Written BabyBear)) → i < length tables → ws ≡ get_or w.lookups i ws → read_all ws ≡ packed_lookups_at tables i
  written_at i ws below there =
      let within : i < length w.lookups = let n = written_count in omega (arith, below, n) in
      ap read_all there
      ∙ (sym (get_or-map read_all w.lookups i ws [] within) ∙ (ap (λ (c : Common BabyBear (PlainCommitmentData BabyBear)). get_or c.lookups i []) same ∙ common_at tables i below))
