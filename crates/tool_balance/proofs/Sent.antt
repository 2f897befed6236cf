-- What a table sends, off its rows.
use Rattle.std.proofs.Common.{◌≡◌, ℕ, zero, suc, ◌+◌, ◌^◌, ◌<◌, List, [], ◌∷◌, ◌++◌, length, get_or, None, refl, sym, ◌∙◌, ap, arith}
use Rattle.std.specs.List.{flat_map}
use Rattle.std.proofs.lemmas.List.{flat_map_more}
use Rattle.p3_field.specs.BabyBear.{baby_bear_ring, baby_bear_root}
use Rattle.p3_field.specs.Domain.{point, subgroup}
use Rattle.p3_field.specs.Laws.Tabulate.{tabulate_more}
use Rattle.p3_field.specs.Poly.{tabulate}
use Rattle.p3_field.specs.Ring.{sub}
use Rattle.p3_field.specs.declared.baby_bear.BabyBear.{BabyBear}
use Rattle.p3_matrix.specs.Matrix.{Rows}
use Rattle.air_core.specs.Check.{table_row, table_traces}
use Rattle.air_core.specs.RowCheck.{Row}
use Rattle.p3_lookup.specs.Bus.{bus_in}
use Rattle.p3_lookup.specs.Lookup.{LookupData}
use Rattle.p3_lookup.specs.Messages.{Message, messages_from, table_messages}
use Rattle.stark_balance.specs.Sender.{sender_over, sent_in_row}
use Rattle.law_balance.specs.CommittedRows.{sent_row}
use Rattle.law_committed.specs.BaseRows.{main_row}
use Rattle.law_soundness.specs.Commitment.{polynomials_at}
use Rattle.law_soundness.specs.CommittedBatch.{committed_table_at}
use Rattle.batch_statement.specs.Words.{bits_at}
use Rattle.transcript_version.specs.declared.TranscriptVersion.{TranscriptVersion}
use Rattle.tool_hash_lines.specs.Columns.{polynomial_cells_at}
use Rattle.tool_proof_text.specs.ProofText.{ToolProofData}
use Rattle.tool_statement.specs.Config.{tool_scheme, tool_setting}
use Rattle.tool_statement.specs.StatedTables.{log_height_of, packed_lookups_at, tool_common, tool_statement}
use Rattle.tool_statement.specs.declared.table.TableStatement.{TableStatement}
use Rattle.tool_statement.specs.declared.table.TableStatement.TheVariants.{Swap, Wheel, Take, Give, Hash}
use Rattle.tool_balance.proofs.Lookups.{common_at, common_count, lookups_of_table, on_bus_zero, packed_at_is, table_at}
use Rattle.tool_balance.specs.FileBalance.{sent_messages}
use Rattle.tool_balance.specs.Rows.{AreRowsOf}
use Rattle.tool_balance.specs.Senders.{HasMatrixOf, sender_at}

-- rows that send the same
same_rows : {M : Type 0} (f g : ℕ → List M) (n : ℕ) (h : ℕ → ℕ) → ((i : ℕ) → i < n → f (h i) ≡ g (h i)) → flat_map f (tabulate n h) ≡ flat_map g (tabulate n h)
same_rows f g zero h same = refl
same_rows f g (suc n) h same = λ j. same zero (omega arith) j ++ same_rows f g n (λ i. h (suc i)) (λ i l. same (suc i) (omega (arith, l))) j

none_sent : {M : Type 0} (xs : List ℕ) → flat_map {X = ℕ} {A = M} (λ x. []) xs ≡ []
none_sent [] = refl
none_sent (x ∷ xs) = none_sent xs

-- the message of a row that takes its word, and of one that gives it
abbrev taking : ℕ → List BabyBear → List (Message BabyBear)
taking bus cells = record { bus = bus; tuple = get_or cells 0 baby_bear_ring.zero ∷ []; count = baby_bear_ring.one } ∷ []

abbrev giving : ℕ → List BabyBear → List (Message BabyBear)
giving bus cells = record { bus = bus; tuple = get_or cells 0 baby_bear_ring.zero ∷ []; count = sub baby_bear_ring baby_bear_ring.zero (get_or cells 1 baby_bear_ring.zero) } ∷ []

-- what a row sends by its own cells
row_sends : (t : TableStatement) (r s : Row BabyBear BabyBear) (b c : ℕ → ℕ) → r.main_local ≡ s.main_local → (0 < length (lookups_of_table t) → b 0 ≡ c 0)
    → messages_from (sent_in_row baby_bear_ring r) b 0 (lookups_of_table t) ≡ messages_from (sent_in_row baby_bear_ring s) c 0 (lookups_of_table t)
row_sends (Swap k a b x) r s bus other cells on = refl
row_sends (Wheel k) r s bus other cells on = refl
row_sends (Take k) r s bus other cells on = let here = on (omega arith) in λ j. taking (here j) (cells j)
row_sends (Give k) r s bus other cells on = let here = on (omega arith) in λ j. giving (here j) (cells j)
row_sends (Hash k) r s bus other cells on = refl

module _ (version : TranscriptVersion) (tables : List TableStatement) (p : ToolProofData) (i : ℕ) (below : i < length tables) where
  abbrev k : ℕ
  k = log_height_of (table_at tables i)

  -- a row of the committed table
  row_is : bits_at p.degree_bits i ≡ k → (row : ℕ)
      → main_row (tool_setting version).field (committed_table_at (tool_setting version) 1 (tool_statement tables) p i) row
      ≡ polynomial_cells_at (polynomials_at tool_scheme k p.commitments.main i) (point baby_bear_ring baby_bear_root (subgroup baby_bear_ring k) row)
  unfolding tool_setting
  row_is degree row = ap (λ n. polynomial_cells_at (polynomials_at tool_scheme n p.commitments.main i) (point baby_bear_ring baby_bear_root (subgroup baby_bear_ring n) row)) degree

  -- it sends what its rows send
  pub sent_by_rows : HasMatrixOf tables p i → (m : Rows BabyBear) → AreRowsOf k p.commitments.main i m → (ls : List (LookupData BabyBear)) → ls ≡ packed_lookups_at tables i
      → table_messages (sender_over baby_bear_ring m None [] ls (0 ∷ [])) ≡ table_messages (sender_at version tables p i)
  unfolding tool_setting
  sent_by_rows matrix m are ls e =
      let own = lookups_of_table (table_at tables i) in
      let bus = bus_in (tool_common tables).lookups i in
      let committed = committed_table_at (tool_setting version) 1 (tool_statement tables) p i in
      let field = (tool_setting version).field in
      let here = λ (row : ℕ). table_row baby_bear_ring.zero (table_traces m None [] []) row in
      let there = λ (row : ℕ). sent_row field committed row in
      let first : ls ≡ own = e ∙ packed_at_is tables i below in
      let second : get_or (tool_common tables).lookups i [] ≡ own = common_at tables i below ∙ packed_at_is tables i below in
      let zeros : ℕ → ℕ = λ n. get_or (0 ∷ []) n 0 in
      let low : table_messages (sender_over baby_bear_ring m None [] ls (0 ∷ [])) ≡ flat_map (λ row. messages_from (sent_in_row baby_bear_ring (here row)) zeros 0 own) (tabulate (2 ^ k) (λ j. j)) =
      λ q. flat_map (λ row. messages_from (sent_in_row baby_bear_ring (here row)) zeros 0 (first q)) (tabulate (are.height_is q) (λ j. j)) in
      let high : table_messages (sender_at version tables p i) ≡ flat_map (λ row. messages_from (sent_in_row baby_bear_ring (there row)) bus 0 own) (tabulate (2 ^ k) (λ j. j)) =
      λ q. flat_map (λ row. messages_from (sent_in_row baby_bear_ring (there row)) bus 0 (second q)) (tabulate (2 ^ matrix.degree_is q) (λ j. j)) in
      low
      ∙ (same_rows (λ row. messages_from (sent_in_row baby_bear_ring (here row)) zeros 0 own) (λ row. messages_from (sent_in_row baby_bear_ring (there row)) bus 0 own) (2 ^ k) (λ j. j)
      (λ row l. row_sends (table_at tables i) (here row) (there row) zeros bus (are.rows row l ∙ sym (row_is matrix.degree_is row)) (λ some. sym (on_bus_zero tables i below some)))
      ∙ sym high)

  -- nothing, where it has no lookup
  pub nothing_sent : packed_lookups_at tables i ≡ [] → table_messages (sender_at version tables p i) ≡ []
  nothing_sent none =
      let s = sender_at version tables p i in
      let e : get_or (tool_common tables).lookups i [] ≡ [] = common_at tables i below ∙ none in
      let rows = tabulate s.rows (λ (j : ℕ). j) in
      (λ q. flat_map (λ row. messages_from (s.value row) s.bus 0 (e q)) rows) ∙ none_sent rows

module _ (version : TranscriptVersion) (tables : List TableStatement) (p : ToolProofData) where
  -- what the first tables send
  abbrev pub sent_before : ℕ → List (Message BabyBear)
  sent_before n = flat_map table_messages (tabulate n (sender_at version tables p))

  pub sent_next : (n : ℕ) → sent_before n ++ table_messages (sender_at version tables p n) ≡ sent_before (n + 1)
  sent_next n =
      flat_map_more table_messages [] (tabulate n (sender_at version tables p)) (sender_at version tables p n) ∙ ap (flat_map table_messages) (tabulate_more n (sender_at version tables p))

  -- all of them send the proof's messages
  pub all_sent : sent_before (length tables) ≡ sent_messages version tables p
  all_sent = ap sent_before (sym (common_count tables))
