-- What is set up for a job is the batch of the job, which is valid.
use Rattle.std.proofs.Common.{◌≡◌, ℕ, zero, suc, ◌+◌, ◌<◌, cond, List, [], ◌∷◌, length, get_or, map, replicate, Option, None, Some, refl, sym, ◌∙◌, ap, subst, arith}
use Rattle.std.specs.Prelude.{All}
use Rattle.std.proofs.lemmas.List.{get_or-map, length-map}
use Rattle.p3_field.specs.BabyBear.{baby_bear_inv, baby_bear_ring, baby_bear_root, reduce}
use Rattle.p3_field.specs.Domain.{CosetData}
use Rattle.p3_field.specs.Poly.{tabulate}
use Rattle.p3_field.specs.Quartic.{quartic_inv}
use Rattle.p3_field.specs.declared.baby_bear.BabyBear.{BabyBear}
use Rattle.p3_field.specs.declared.quartic.QuarticExtension.{QuarticExtension}
use Rattle.p3_matrix.specs.Matrix.{Rows, height}
use Rattle.commit_core.specs.Commitments.{Committed, IsCommitment}
use Rattle.plain_pcs.specs.Extension.{commitment_of}
use Rattle.plain_pcs.specs.Scheme.{Blowup, PlainCommitmentData, Scheme, scheme}
use Rattle.batch_config.specs.Setting.{masks}
use Rattle.batch_setup.specs.Laws.Logarithms.{log_of_power}
use Rattle.batch_setup.specs.Packed.{Source, no_source, packed_at, source_of}
use Rattle.batch_setup.specs.Preprocessed.{IsPrepared, committed_trace_at, committed_below, entry_at, on_domain}
use Rattle.batch_setup.specs.Setup.{Instance, bits_of, instances_of, log_of}
use Rattle.batch_setup.specs.Setup.{airs_of as airs_in}
use Rattle.batch_statement.specs.Statement.{statement_with, Common, PreprocessedTracesData, Statement, WellFormed, WrittenCommon, read_common, tables_of}
use Rattle.batch_statement.specs.declared.preprocessed.PreprocessedInstanceMeta.{PreprocessedInstanceMeta}
use Rattle.law_valid.specs.Laws.Made.{matrices_are}
use Rattle.law_valid.specs.Traced.{TracedTable, declared, preprocessed_matrices}
use Rattle.law_valid.specs.Valid.{Valid}
use Rattle.law_honest.specs.HonestProof.{Prover}
use Rattle.prover_answer.specs.Batch.{HasProverData, batch_of, preprocessed_all, table_at}
use Rattle.prover_answer.specs.PlainBackend.{baby_bear_prover}
use Rattle.transcript_version.specs.declared.TranscriptVersion.{TranscriptVersion}
use Rattle.tool_jobs.specs.Jobs.{JobWithin}
use Rattle.tool_jobs.specs.Laws.Airs.{are-airs}
use Rattle.tool_jobs.specs.Laws.Statements.{statements-heights, statements-publics, statements-sources}
use Rattle.tool_jobs.specs.Stated.{statement_of}
use Rattle.tool_jobs.specs.Unbalanced.{same_word}
use Rattle.tool_statement.specs.Config.{tool_scheme, tool_setting}
use Rattle.tool_statement.specs.StatedTables.{entries_of, log_heights_of, preprocessed_traces, publics_lists, publics_of as publics_of_table, source_of_table, sources_of, air_table_of, tool_common, tool_statement}
use Rattle.tool_statement.specs.declared.table.TableStatement.{TableStatement}
use Rattle.tool_tables.specs.Tool.{tool_declaration, tool_interactions, tool_trees}
use Rattle.tool_tables.specs.declared.tool.ToolAir.{ToolAir}
use Rattle.tool_verifier.specs.Laws.Stated.{ToolSetting, same_tables}
use Rattle.law_tool_valid.specs.Job.{AreAirsOf, IsBalancedJob, IsJobTableWithin, JobTable, take_of, job_log_height_of, job_publics_of, source_of_job, trace_of}
use Rattle.law_tool_valid.specs.Laws.Program.{set_up_is_valid}
use Rattle.law_tool_valid.specs.Laws.Traced.{job_rows}
use Rattle.tool_prover.specs.JobBatch.{job_batch, tool_prover}
use Rattle.tool_prover.specs.Laws.JobTables.{table_is, tool_serves}

-- the plain scheme with this blowup, and the prover over it
abbrev pub scheme_with : Blowup → Scheme BabyBear
scheme_with b = scheme baby_bear_ring baby_bear_inv baby_bear_root (reduce 31) 27 b

abbrev pub prover_with : Blowup → Prover BabyBear QuarticExtension (PlainCommitmentData BabyBear)
prover_with b = baby_bear_prover (scheme_with b)

abbrev pub one_bit : Blowup
one_bit = record { log_blowup = 1 }

abbrev pub source_of_air : ToolAir BabyBear → Source BabyBear
source_of_air = source_of (tool_declaration baby_bear_ring) (tool_trees baby_bear_ring) (tool_interactions baby_bear_ring)

-- the AIRs, traces and public values of instances of as many
airs_back : {A F : Type 0} (airs : List A) (traces : List (Rows F)) (publics : List (List F)) → length traces ≡ length airs → length publics ≡ length airs → airs_in (instances_of airs traces publics) ≡ airs
airs_back [] ts ps a b = refl
airs_back (x ∷ airs) [] ps a b = absurd (omega (arith, a))
airs_back (x ∷ airs) (t ∷ ts) [] a b = absurd (omega (arith, b))
airs_back (x ∷ airs) (t ∷ ts) (p ∷ ps) a b = ap (λ l. x ∷ l) (airs_back airs ts ps (omega (arith, a)) (omega (arith, b)))

traces_back : {A F : Type 0} (airs : List A) (traces : List (Rows F)) (publics : List (List F)) → length traces ≡ length airs → length publics ≡ length airs → map (λ i. i.trace) (instances_of airs traces publics) ≡ traces
traces_back [] [] ps a b = refl
traces_back [] (t ∷ ts) ps a b = absurd (omega (arith, a))
traces_back (x ∷ airs) [] ps a b = absurd (omega (arith, a))
traces_back (x ∷ airs) (t ∷ ts) [] a b = absurd (omega (arith, b))
traces_back (x ∷ airs) (t ∷ ts) (p ∷ ps) a b = ap (λ l. t ∷ l) (traces_back airs ts ps (omega (arith, a)) (omega (arith, b)))

publics_back : {A F : Type 0} (airs : List A) (traces : List (Rows F)) (publics : List (List F)) → length traces ≡ length airs → length publics ≡ length airs → map (λ i. i.public_values) (instances_of airs traces publics) ≡ publics
publics_back [] ts [] a b = refl
publics_back [] ts (p ∷ ps) a b = absurd (omega (arith, b))
publics_back (x ∷ airs) [] ps a b = absurd (omega (arith, a))
publics_back (x ∷ airs) (t ∷ ts) [] a b = absurd (omega (arith, b))
publics_back (x ∷ airs) (t ∷ ts) (p ∷ ps) a b = ap (λ l. p ∷ l) (publics_back airs ts ps (omega (arith, a)) (omega (arith, b)))

-- the degree bits of instances are those of their traces
bits_map : {A F : Type 0} (m : ℕ) (instances : List (Instance A F)) → bits_of m instances ≡ map (λ t. log_of (height t) + m) (map (λ i. i.trace) instances)
bits_map m [] = refl
bits_map m (i ∷ is) = ap (λ l. (log_of (height i.trace) + m) ∷ l) (bits_map m is)

-- a job's table has the stated height
bits_there : (j : JobTable BabyBear) → IsJobTableWithin j → log_of (height (trace_of baby_bear_ring j)) ≡ job_log_height_of j
bits_there j W = log_of_power (height (trace_of baby_bear_ring j)) (job_log_height_of j) (job_rows baby_bear_ring {E = QuarticExtension} j W).tall

-- what is prepared is kept
kept_with : {T C P : Type 0} (commits : List T → C × P → Type 0) (entries : List (Option PreprocessedInstanceMeta)) (es : List T) (p : Option (PreprocessedTracesData C)) (kept : Option P) → IsPrepared commits entries es p kept
    → HasProverData commits es p kept
kept_with commits entries [] p kept h = subst (λ q. HasProverData commits [] q kept) (sym h.0) (subst (HasProverData commits [] None) (sym h.1) tt)
kept_with commits entries (e ∷ es) None kept h = absurd h
kept_with commits entries (e ∷ es) (Some g) None h = absurd h
kept_with commits entries (e ∷ es) (Some g) (Some d) h = h.2

pub same_prover : (b : Blowup) → b ≡ one_bit → prover_with b ≡ tool_prover
unfolding tool_prover
same_prover b e = ap prover_with e

-- as many AIRs, traces and lists of public values as tables
pub airs_count : (job : List (JobTable BabyBear)) (airs : List (ToolAir BabyBear)) → map source_of_air airs ≡ sources_of (map statement_of job) → length airs ≡ length job
airs_count job airs e = sym (length-map airs source_of_air) ∙ (ap length e ∙ (length-map (map statement_of job) source_of_table ∙ length-map job statement_of))

pub traces_count : (job : List (JobTable BabyBear)) (traces : List (Rows BabyBear)) → traces ≡ map (trace_of baby_bear_ring) job → length traces ≡ length job
traces_count job traces e = ap length e ∙ length-map job (trace_of baby_bear_ring)

pub publics_count : (job : List (JobTable BabyBear)) (publics : List (List BabyBear)) → publics ≡ publics_lists (map statement_of job) → length publics ≡ length job
publics_count job publics e = ap length e ∙ (length-map (map statement_of job) publics_of_table ∙ length-map job statement_of)

module _ (version : TranscriptVersion) (job : List (JobTable BabyBear)) (within : JobWithin job) where
  abbrev tables : List TableStatement
  tables = map statement_of job

  abbrev bits : List ℕ
  bits = map job_log_height_of job

  abbrev no_job_table : JobTable BabyBear
  no_job_table = take_of []

  -- the preprocessed traces of the job's tables
  matrix_there : (i : ℕ) → i < length tables → on_domain baby_bear_ring.one (table_at (job_batch version job) i).degree_bits (declared (table_at (job_batch version job) i)).preprocessed
      ≡ committed_trace_at baby_bear_ring.one (sources_of tables) (log_heights_of tables) i
  matrix_there i l =
      let inside : i < length job = let n = length-map job statement_of in omega (arith, l, n) in
      let height_is : get_or (log_heights_of tables) i 0 ≡ job_log_height_of (get_or job i no_job_table) = ap (λ hs. get_or hs i 0) (statements-heights job) ∙ get_or-map (job_log_height_of {F = BabyBear}) job i no_job_table 0 inside in
      let source_is : get_or (sources_of tables) i no_source ≡ source_of_job baby_bear_ring (get_or job i no_job_table) =
      ap (λ xs. get_or xs i no_source) (statements-sources job) ∙ get_or-map (source_of_job baby_bear_ring) job i no_job_table no_source inside in
      ap (λ (t : TracedTable BabyBear). on_domain baby_bear_ring.one t.degree_bits (declared t).preprocessed) (table_is version job i inside)
      ∙ (λ k. on_domain baby_bear_ring.one (sym height_is k) (sym source_is k).declaration.preprocessed)

  matrices_there : preprocessed_traces tables ≡ preprocessed_all (job_batch version job)
  unfolding tool_setting
  matrices_there =
      matrices_are baby_bear_ring.one (sources_of tables) (log_heights_of tables) (table_at (job_batch version job)) (length tables) matrix_there
      ∙ ap (λ n. preprocessed_matrices baby_bear_ring.one (tabulate n (table_at (job_batch version job)))) (sym (length-map tables air_table_of))

  module _ (airs : List (ToolAir BabyBear)) (airs_are : map source_of_air airs ≡ sources_of tables) (common : Common BabyBear (PlainCommitmentData BabyBear)) (common_is : common ≡ tool_common tables) where
    job_airs : AreAirsOf baby_bear_ring job airs
    job_airs = are-airs baby_bear_ring job airs (airs_are ∙ statements-sources job)

    module _ {P : Type 0} (points : CosetData BabyBear → ℕ) (point_at : CosetData BabyBear → ℕ → BabyBear) (made : P → Type 0) (holds : P → PlainCommitmentData BabyBear → List (Committed BabyBear) → Type 0) (kept : Option P) where
      abbrev Commits : List (CosetData BabyBear × Rows BabyBear) → PlainCommitmentData BabyBear × P → Type 0
      Commits es w = IsCommitment baby_bear_ring points point_at (λ es c. c ≡ commitment_of tool_scheme es) made holds es w

      module _ (prepared : IsPrepared Commits (entries_of tables) (preprocessed_traces tables) common.preprocessed kept) where
        tables_long : length tables ≡ length airs
        tables_long = length-map job statement_of ∙ sym (airs_count job airs airs_are)

        prepared_airs : IsPrepared Commits (tabulate (length airs) (entry_at baby_bear_ring.one (map source_of_air airs) bits)) (committed_below baby_bear_ring.one (map source_of_air airs) bits (length airs)) common.preprocessed kept
        prepared_airs =
            subst (λ es. IsPrepared Commits es (committed_below baby_bear_ring.one (map source_of_air airs) bits (length airs)) common.preprocessed kept)
            (λ i. tabulate (tables_long i) (entry_at baby_bear_ring.one (sym airs_are i) (statements-heights job i)))
            (subst (λ ms. IsPrepared Commits (entries_of tables) ms common.preprocessed kept) (λ i. committed_below baby_bear_ring.one (sym airs_are i) (statements-heights job i) (tables_long i)) prepared)

        lookups_there : common.lookups ≡ tabulate (length airs) (packed_at baby_bear_ring 0 (map source_of_air airs) bits (replicate (length tables) 0))
        unfolding tool_common
        lookups_there =
            ap (λ (d : Common BabyBear (PlainCommitmentData BabyBear)). d.lookups) common_is
            ∙ (λ i. tabulate (tables_long i) (packed_at baby_bear_ring 0 (sym airs_are i) (statements-heights job i) (replicate (length tables) 0)))

        -- it is valid
        pub valid : IsBalancedJob same_word job → WellFormed (map (tool_declaration baby_bear_ring) airs) common → (let b = job_batch version job in Valid b.setting same_word b.prover.commitment_of b.statement b.traces b.degree_bits)
        unfolding tool_setting tool_prover
        valid balanced formed =
            let s : Statement BabyBear (PlainCommitmentData BabyBear) = tool_statement tables in
            let same : record { tables = tables_of (tool_declaration baby_bear_ring) (tool_trees baby_bear_ring) airs; publics = map job_publics_of job; common = common } ≡ s =
            λ i. record { tables = same_tables tables airs airs_are i; publics = sym (statements-publics job) i; common = common_is i } in
            subst (λ (u : Statement BabyBear (PlainCommitmentData BabyBear)). Valid (tool_setting version) same_word (commitment_of tool_scheme) u (map (trace_of baby_bear_ring) job) bits) same
            (set_up_is_valid (tool_setting version) quartic_inv (tool_serves version) same_word job (record { few = within.0.1; within = within.1; balanced = balanced }) airs job_airs (replicate (length tables) 0) points point_at
            (λ es c. c ≡ commitment_of tool_scheme es) made holds (commitment_of tool_scheme) (λ es w e. e) common kept prepared_airs lookups_there formed)

        -- its preprocessed traces are those of the job
        pub kept_there : HasProverData Commits (preprocessed_all (job_batch version job)) common.preprocessed kept
        unfolding tool_setting
        kept_there = subst (λ ms. HasProverData Commits ms common.preprocessed kept) matrices_there (kept_with Commits (entries_of tables) (preprocessed_traces tables) common.preprocessed kept prepared)

-- the same of each table
all_bits : (job : List (JobTable BabyBear)) → All IsJobTableWithin job → map (λ t. log_of (height t) + 0) (map (trace_of baby_bear_ring) job) ≡ map job_log_height_of job
all_bits [] W = refl
all_bits (j ∷ job) W =
    let none : (n : ℕ) → n + 0 ≡ n = λ n. omega arith in
    λ i. (none (log_of (height (trace_of baby_bear_ring j))) ∙ bits_there j (W zero j (omega arith))) i ∷ all_bits job (λ k d l. W (suc k) d (omega (arith, l))) i

-- so the batch that is proved is the job's
module _ (version : TranscriptVersion) (job : List (JobTable BabyBear)) (within : JobWithin job) (airs : List (ToolAir BabyBear)) (airs_are : map source_of_air airs ≡ sources_of (map statement_of job))
    (traces : List (Rows BabyBear)) (traces_are : traces ≡ map (trace_of baby_bear_ring) job) (publics : List (List BabyBear)) (publics_are : publics ≡ publics_lists (map statement_of job))
    (written : WrittenCommon BabyBear (PlainCommitmentData BabyBear)) (common_is : read_common written ≡ tool_common (map statement_of job))
    (instances : List (Instance (ToolAir BabyBear) BabyBear)) (instances_are : instances ≡ instances_of airs traces publics) (c : ToolSetting) (c_is : c ≡ (tool_setting version)) (b : Blowup) (b_is : b ≡ one_bit) where
  traces_long : length traces ≡ length airs
  traces_long = traces_count job traces traces_are ∙ sym (airs_count job airs airs_are)

  publics_long : length publics ≡ length airs
  publics_long = publics_count job publics publics_are ∙ sym (airs_count job airs airs_are)

  pub airs_in_them : airs_in instances ≡ airs
  airs_in_them = ap airs_in instances_are ∙ airs_back airs traces publics traces_long publics_long

  pub publics_in_them : map (λ i. i.public_values) instances ≡ publics
  publics_in_them = ap (map (λ (i : Instance (ToolAir BabyBear) BabyBear). i.public_values)) instances_are ∙ publics_back airs traces publics traces_long publics_long

  traces_in_them : map (λ i. i.trace) instances ≡ map (trace_of baby_bear_ring) job
  traces_in_them = ap (map (λ (i : Instance (ToolAir BabyBear) BabyBear). i.trace)) instances_are ∙ (traces_back airs traces publics traces_long publics_long ∙ traces_are)

  pub instances_long : length instances ≡ length job
  instances_long = sym (length-map instances (λ (i : Instance (ToolAir BabyBear) BabyBear). i.trace)) ∙ (ap length traces_in_them ∙ length-map job (trace_of baby_bear_ring))

  none_masked : masks c ≡ 0
  none_masked = ap (λ (d : ToolSetting). masks d) c_is ∙ ap (λ z. cond z 1 0) (tool_serves version).plain

  bits_in_them : bits_of (masks c) instances ≡ map job_log_height_of job
  bits_in_them =
      ap (λ m. bits_of m instances) none_masked
      ∙ (bits_map 0 instances ∙ (ap (map (λ t. log_of (height t) + 0)) traces_in_them ∙ all_bits job within.1))

  pub statement_is : statement_with (tables_of (tool_declaration baby_bear_ring) (tool_trees baby_bear_ring) (airs_in instances)) (map (λ i. i.public_values) instances) written ≡ tool_statement (map statement_of job)
  statement_is = λ i. record {
    tables = (ap (tables_of (tool_declaration baby_bear_ring) (tool_trees baby_bear_ring)) airs_in_them ∙ same_tables (map statement_of job) airs airs_are) i;
    publics = (publics_in_them ∙ publics_are) i;
    common = common_is i;
  }

  pub same_batch : batch_of c (prover_with b) (tool_declaration baby_bear_ring) (tool_trees baby_bear_ring) instances written ≡ job_batch version job
  same_batch = λ i. record { setting = c_is i; prover = same_prover b b_is i; statement = statement_is i; traces = traces_in_them i; degree_bits = bits_in_them i }
