-- The tables of a proof file fit the program's configuration.
use Rattle.std.specs.Int.{◌∣◌}
use Rattle.std.proofs.Common.{◌≡◌, ℕ, zero, suc, ◌-◌, ◌*◌, ◌^◌, ◌<◌, ◌≤◌, List, [], ◌∷◌, length, get_or, map, replicate, Option, None, refl, sym, ◌∙◌, ap, subst, arith, inl, inr}
use Rattle.std.specs.Prelude.{All}
use Rattle.std.proofs.Math.Nat.{dvd-mul_right}
use Rattle.std.proofs.Math.Pow.{pow_mono}
use Rattle.std.proofs.lemmas.Bool.{cases_lt}
use Rattle.std.proofs.lemmas.List.{get_or-map, get_or_past, length-map}
use Rattle.std.proofs.lemmas.Nat.{pow_pos}
use Rattle.p3_field.specs.BabyBear.{baby_bear_ring}
use Rattle.p3_field.specs.Domain.{CosetData}
use Rattle.p3_field.specs.Laws.Coset.{double_power}
use Rattle.p3_field.specs.Laws.Tabulate.{get_or-tabulate, length-tabulate, tabulate_items, tabulate_same}
use Rattle.p3_field.specs.declared.baby_bear.BabyBear.{BabyBear}
use Rattle.p3_matrix.specs.Matrix.{Rows}
use Rattle.commit_core.specs.Periodic.{IsPeriod}
use Rattle.p3_lookup.specs.Bound.{HaveLoadsBelow}
use Rattle.p3_lookup.specs.Lookup.{LookupData}
use Rattle.plain_pcs.specs.Scheme.{PlainCommitmentData}
use Rattle.plain_pcs.specs.declared.error.PlainError.{PlainError}
use Rattle.batch_statement.specs.Words.{bits_at, no_table}
use Rattle.verifier_claims.specs.ClaimChecks.{HasDegreeBits}
use Rattle.verifier_batch.specs.OpeningChecks.{log_chunks_of_table}
use Rattle.batch_setup.specs.Packed.{no_source, packed_at, packed_lookups}
use Rattle.verifier_shape.specs.ShapeChecks.{HaveItemForEachTable, chunks_of_table, heights_of}
use Rattle.batch_statement.specs.Statement.{AirTable, Statement, entry_of}
use Rattle.batch_statement.specs.declared.error.BatchVerificationError.{BatchVerificationError}
use Rattle.batch_statement.specs.declared.preprocessed.PreprocessedInstanceMeta.{PreprocessedInstanceMeta}
use Rattle.law_valid.specs.Laws.Made.{entry_bits}
use Rattle.verifier_batch.specs.BatchChecks.{FirstFault}
use Rattle.transcript_version.specs.declared.TranscriptVersion.{TranscriptVersion}
use Rattle.tool_proof_text.specs.ProofText.{ToolProofData}
use Rattle.tool_statement.specs.Config.{tool_backend, tool_setting}
use Rattle.tool_statement.specs.StatedTables.{HaveStatedHeights, TableWithin, air_table_of, entries_of, log_height_of, log_heights_of, preprocessed_commitment_of, preprocessed_traces, publics_of, source_of_table, sources_of, tool_common, tool_statement}
use Rattle.tool_statement.specs.declared.table.TableStatement.{TableStatement}
use Rattle.tool_statement.specs.declared.table.TableStatement.TheVariants.{Swap, Wheel, Take, Give, Hash}
use Rattle.law_tool_valid.specs.Job.{JobTable, swap_of, wheel_of, take_of, give_of, hash_of, job_table}
use Rattle.law_tool_valid.specs.Laws.Fits.{job_chunks}
use Rattle.law_tool_valid.specs.Laws.Loads.{job_bounded}
use Rattle.law_tool_valid.specs.Laws.Messages.{own_lookups}
use Rattle.law_tool_refusals.specs.Possible.{MayCome}
use Rattle.law_tool_refusals.proofs.Batch.{BatchFits, TableFits, first_may_come}

-- a job's table of the same kind, which has the same constraints and lookups
abbrev kind_of : TableStatement → JobTable BabyBear
kind_of (Swap k a b x) = swap_of k a b
kind_of (Wheel k) = wheel_of k
kind_of (Take k) = take_of []
kind_of (Give k) = give_of []
kind_of (Hash k) = hash_of []

abbrev lookups_of_kind : TableStatement → List (LookupData BabyBear)
lookups_of_kind t = own_lookups baby_bear_ring (kind_of t)

same_table : (t : TableStatement) → air_table_of t ≡ job_table baby_bear_ring (kind_of t)
same_table (Swap k a b x) = refl
same_table (Wheel k) = refl
same_table (Take k) = refl
same_table (Give k) = refl
same_table (Hash k) = refl

-- one lookup at most is packed as it is
same_lookups : (t : TableStatement) (bits asked : ℕ) → packed_lookups baby_bear_ring 0 bits asked (source_of_table t) ≡ lookups_of_kind t
same_lookups (Swap k a b x) bits asked = refl
same_lookups (Wheel k) bits asked = refl
same_lookups (Take k) bits asked = refl
same_lookups (Give k) bits asked = refl
same_lookups (Hash k) bits asked = refl

-- the limits of a table
few_bits : (t : TableStatement) → TableWithin t → log_height_of t ≤ 10
few_bits (Swap k a b x) w = w
few_bits (Wheel k) w = w.1
few_bits (Take k) w = w
few_bits (Give k) w = w
few_bits (Hash k) w = omega (arith, w)

stated_publics : (t : TableStatement) → length (publics_of t) ≡ (air_table_of t).declaration.public_values
stated_publics (Swap k a b x) = refl
stated_publics (Wheel k) = refl
stated_publics (Take k) = refl
stated_publics (Give k) = refl
stated_publics (Hash k) = refl

-- two goes into each power of two but one
two_divides : (k : ℕ) → 1 ≤ k → IsPeriod (2 ^ k) 2
two_divides zero some = absurd (omega (arith, some))
two_divides (suc k) some =
    let twice : 2 * 2 ^ k ≡ 2 ^ suc k = let d = double_power k in omega (arith, d) in
    ((1, refl), subst (λ n. 2 ∣ n) twice (dvd-mul_right 2 (2 ^ k)))

-- so the columns of wheels are periodic, and no other table has such columns
no_periods : (n : ℕ) → All (IsPeriod n) []
no_periods n i d l = absurd (omega (arith, l))

wheel_periods : (k : ℕ) → 1 ≤ k → All (IsPeriod (2 ^ k)) (2 ∷ [])
wheel_periods k some zero d l = two_divides k some
wheel_periods k some (suc i) d l = absurd (omega (arith, l))

own_periods : (t : TableStatement) → TableWithin t → All (IsPeriod (2 ^ log_height_of t)) (map length (air_table_of t).declaration.periodic)
own_periods (Swap k a b x) w = no_periods (2 ^ k)
own_periods (Wheel k) w = wheel_periods k w.0
own_periods (Take k) w = no_periods (2 ^ k)
own_periods (Give k) w = no_periods (2 ^ k)
own_periods (Hash k) w = no_periods (2 ^ k)

-- the entry of a table in the commitment to preprocessed traces is that of the list, where something is committed
entry_in : (bits : ℕ) (entries : List (Option PreprocessedInstanceMeta)) (traces : List (CosetData BabyBear × Rows BabyBear)) (i : ℕ) → HasDegreeBits bits (get_or entries i None)
    → HasDegreeBits bits (entry_of (preprocessed_commitment_of entries traces) i)
entry_in bits entries [] i h = tt
entry_in bits entries (t ∷ ts) i h = h

module _ (version : TranscriptVersion) (tables : List TableStatement) where
  abbrev s : Statement BabyBear (PlainCommitmentData BabyBear)
  s = tool_statement tables

  abbrev table_at : ℕ → TableStatement
  table_at i = get_or tables i (Take 0)

  stated_count : length s.tables ≡ length tables
  stated_count = length-map tables air_table_of

  stated_at : (i : ℕ) → i < length tables → get_or s.tables i no_table ≡ air_table_of (table_at i)
  stated_at i l = get_or-map air_table_of tables i (Take 0) no_table l

  lookups_are : (tool_common tables).lookups ≡ map (own_lookups baby_bear_ring) (map kind_of tables)
  unfolding tool_common
  lookups_are =
      let n = length tables in
      let kinds = map kind_of tables in
      let budgets : List ℕ = replicate n 0 in
      let many : length kinds ≡ n = length-map tables kind_of in
      let inside : (i : ℕ) → i < n → i < length kinds = λ i l. omega (arith, l, many) in
      let kind_at : (i : ℕ) → i < n → get_or kinds i (take_of []) ≡ kind_of (table_at i) = λ i l. get_or-map kind_of tables i (Take 0) (take_of []) l in
      tabulate_same n (packed_at baby_bear_ring 0 (sources_of tables) (log_heights_of tables) budgets) (λ i. get_or (map (own_lookups baby_bear_ring) kinds) i []) (λ i l.
      ap (packed_lookups baby_bear_ring 0 (get_or (log_heights_of tables) i 0) (get_or budgets i 0)) (get_or-map source_of_table tables i (Take 0) no_source l)
      ∙ (same_lookups (table_at i) (get_or (log_heights_of tables) i 0) (get_or budgets i 0)
      ∙ (ap (own_lookups baby_bear_ring) (sym (kind_at i l)) ∙ sym (get_or-map (own_lookups baby_bear_ring) kinds i (take_of []) [] (inside i l)))))
      ∙ sym (tabulate_items [] (map (own_lookups baby_bear_ring) kinds) n (length-map kinds (own_lookups baby_bear_ring) ∙ many))

  lookups_at : (i : ℕ) → i < length tables → get_or (tool_common tables).lookups i [] ≡ lookups_of_kind (table_at i)
  lookups_at i l =
      ap (λ ls. get_or ls i []) lookups_are
      ∙ (get_or-map (own_lookups baby_bear_ring) (map kind_of tables) i (take_of []) [] (let n = length-map tables kind_of in omega (arith, l, n))
      ∙ ap (own_lookups baby_bear_ring) (get_or-map kind_of tables i (Take 0) (take_of []) l))

  module _ (within : All TableWithin tables) (few : length tables ≤ 8) (p : ToolProofData) (heights : HaveStatedHeights tables p.degree_bits) (listed : HaveItemForEachTable s p) where
    bits_are : (i : ℕ) → i < length tables → get_or (log_heights_of tables) i 0 ≡ bits_at p.degree_bits i
    bits_are i l =
        let many = listed.degree_bits in
        let count = stated_count in
        heights i (omega (arith, l, many, count))

    height_at : (i : ℕ) → i < length tables → bits_at p.degree_bits i ≡ log_height_of (table_at i)
    height_at i l = sym (bits_are i l) ∙ get_or-map log_height_of tables i (Take 0) 0 l

    low_bits : (i : ℕ) → i < length tables → bits_at p.degree_bits i ≤ 10
    low_bits i l = let h = height_at i l in let few = few_bits (table_at i) (within i (Take 0) l) in omega (arith, h, few)

    -- two chunks at most
    few_chunks : (i : ℕ) → i < length tables → log_chunks_of_table (tool_setting version) s p i ≤ 1
    unfolding tool_setting
    few_chunks i l =
        let n = 2 ^ (bits_at p.degree_bits i - 0) in
        let own : chunks_of_table baby_bear_ring 0 n (get_or s.tables i no_table) (get_or (tool_common tables).lookups i []) ≡ chunks_of_table baby_bear_ring 0 n (job_table baby_bear_ring (kind_of (table_at i))) (lookups_of_kind (table_at i)) =
        λ q. chunks_of_table baby_bear_ring 0 n ((stated_at i l ∙ same_table (table_at i)) q) (lookups_at i l q) in
        subst (λ m. m ≤ 1) (sym own) (job_chunks baby_bear_ring (kind_of (table_at i)) n (pow_pos (bits_at p.degree_bits i - 0)))

    buses_are : HaveLoadsBelow 2013265921 (tool_common tables).lookups (heights_of 0 p.degree_bits (length s.tables))
    buses_are =
        let n = length s.tables in
        let hs = heights_of 0 p.degree_bits n in
        let height : ℕ → ℕ = λ i. 2 ^ (bits_at p.degree_bits i - 0) in
        let long : length hs ≡ n = length-tabulate n height in
        let count = stated_count in
        let jobs : length (map kind_of tables) ≡ length tables = length-map tables kind_of in
        subst (λ ls. HaveLoadsBelow 2013265921 ls hs) (sym lookups_are)
        (job_bounded baby_bear_ring 2013265921 (map kind_of tables) hs (omega arith) (omega (arith, few, jobs)) (λ i l.
        let inside : i < n = omega (arith, l, long) in
        let low = low_bits i (omega (arith, inside, count)) in
        let few_here : bits_at p.degree_bits i - 0 ≤ 10 = omega (arith, low) in
        let small : 2 ^ (bits_at p.degree_bits i - 0) ≤ 2 ^ 10 = pow_mono few_here in
        let is : get_or hs i 0 ≡ height i = get_or-tabulate n height i 0 inside in
        omega (arith, is, small)))

    listed_bits : (i : ℕ) → HasDegreeBits (bits_at p.degree_bits i) (get_or (entries_of tables) i None)
    listed_bits i = elim (cases_lt i (length tables)) [
      | inl l ↦
          subst (λ k. HasDegreeBits k (get_or (entries_of tables) i None)) (bits_are i l) (entry_bits baby_bear_ring.one (sources_of tables) (log_heights_of tables) (length tables) i l)
      | inr l ↦
          let n = length (entries_of tables) in
          let none : get_or (entries_of tables) i None ≡ None = get_or_past (entries_of tables) i None (let q : n ≡ length tables = length-tabulate _ _ in omega (arith, l, q)) in
          subst (λ (e : Option PreprocessedInstanceMeta). HasDegreeBits (bits_at p.degree_bits i) e) (sym none) tt
    ]

    entries_are : (i : ℕ) → HasDegreeBits (bits_at p.degree_bits i) (entry_of (tool_common tables).preprocessed i)
    unfolding tool_common
    entries_are i = entry_in (bits_at p.degree_bits i) (entries_of tables) (preprocessed_traces tables) i (listed_bits i)

    publics_are : (i : ℕ) → i < length tables → length (get_or s.publics i []) ≡ (get_or s.tables i no_table).declaration.public_values
    publics_are i l =
        ap length (get_or-map publics_of tables i (Take 0) [] l)
        ∙ (stated_publics (table_at i) ∙ ap (λ (t : AirTable BabyBear). t.declaration.public_values) (sym (stated_at i l)))

    periods_are : (i : ℕ) → i < length tables → All (IsPeriod (2 ^ (bits_at p.degree_bits i - 0))) (map length (get_or s.tables i no_table).declaration.periodic)
    periods_are i l =
        let h : log_height_of (table_at i) ≡ bits_at p.degree_bits i - 0 = let e = height_at i l in omega (arith, e) in
        subst (λ (t : AirTable BabyBear). All (IsPeriod (2 ^ (bits_at p.degree_bits i - 0))) (map length t.declaration.periodic)) (sym (stated_at i l))
        (subst (λ k. All (IsPeriod (2 ^ k)) (map length (air_table_of (table_at i)).declaration.periodic)) h (own_periods (table_at i) (within i (Take 0) l)))

    table_fits : (i : ℕ) → i < length tables → TableFits (tool_setting version) s p i
    unfolding tool_setting
    table_fits i l =
        let bits = low_bits i l in
        let chunks = few_chunks i l in
        record {
          least = omega arith;
          most = omega (arith, bits);
          parts = omega (arith, chunks);
          power = omega (arith, bits, chunks);
          domain = omega (arith, bits, chunks);
          publics = publics_are i l;
          periods = periods_are i l;
        }

    fits : BatchFits (tool_setting version) s p
    unfolding tool_setting
    fits = record {
      tables = λ i l. table_fits i (let n = stated_count in omega (arith, l, n));
      buses = buses_are;
      entries = entries_are;
      lookup_bits = λ none. omega (arith, none);
      ood_bits = λ none. omega (arith, none);
    }

  -- So of the tables of a file a batch is refused only with what may come.
  pub tables_may_come : All TableWithin tables → length tables ≤ 8 → (p : ToolProofData) → HaveStatedHeights tables p.degree_bits → (e : BatchVerificationError PlainError)
      → FirstFault (tool_setting version) tool_backend s p e → MayCome e
  tables_may_come within few p heights = first_may_come (tool_setting version) tool_backend s p (fits within few p heights)
