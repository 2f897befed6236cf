-- The tables of a job's batch are those of the job: each is traced, has the sizes that the program allows, and a quotient of one chunk or two.
use Rattle.std.proofs.Common.{◌≡◌, ℕ, ◌^◌, ◌<◌, ◌≤◌, List, [], ◌∷◌, length, get_or, map, replicate, refl, sym, ◌∙◌, ap, subst, arith}
use Rattle.std.specs.Prelude.{All}
use Rattle.std.proofs.lemmas.List.{get_or-map, length-map}
use Rattle.std.proofs.lemmas.Nat.{pow_pos}
use Rattle.p3_field.specs.BabyBear.{baby_bear_ring}
use Rattle.p3_field.specs.Laws.Tabulate.{tabulate_items, tabulate_same}
use Rattle.p3_field.specs.Poly.{tabulate}
use Rattle.p3_field.specs.Quartic.{quartic_inv}
use Rattle.p3_field.specs.declared.baby_bear.BabyBear.{BabyBear}
use Rattle.p3_challenger.specs.Sha256Functions.{sha256_functions}
use Rattle.air_core.specs.Shape.{width_of}
use Rattle.plain_pcs.specs.Observing.{commitment_elements}
use Rattle.batch_config.specs.Setting.{masks}
use Rattle.batch_setup.specs.Packed.{Source, no_source, packed_at, packed_lookups}
use Rattle.batch_statement.specs.Words.{no_table}
use Rattle.batch_statement.specs.Statement.{AirTable}
use Rattle.law_valid.specs.Traced.{TracedTable, declared, log_parts, log_rows, no_rows}
use Rattle.law_valid.specs.Valid.{HasQuotientDomain, IsTraced}
use Rattle.transcript_version.specs.declared.TranscriptVersion.{TranscriptVersion}
use Rattle.tool_statement.specs.Config.{tool_setting}
use Rattle.tool_statement.specs.StatedTables.{log_heights_of, air_table_of, tool_common}
use Rattle.tool_statement.specs.declared.table.TableStatement.{TableStatement}
use Rattle.law_tool_valid.specs.Job.{IsJobTableWithin, JobTable, swap_of, wheel_of, take_of, give_of, hash_of, job_table, job_log_height_of, source_of_job, trace_of, traced_job}
use Rattle.law_tool_valid.specs.Job.{job_publics_of as table_publics}
use Rattle.law_tool_valid.specs.Laws.BabyBear.{baby_bear_serves}
use Rattle.law_tool_valid.specs.Laws.Fits.{job_chunks}
use Rattle.law_tool_valid.specs.Laws.Messages.{own_lookups}
use Rattle.law_tool_valid.specs.Laws.Tables.{job_domain, job_traced, small_height}
use Rattle.law_tool_valid.specs.Serves.{ServesJobs}
use Rattle.prover_answer.specs.Batch.{table_at, table_count}
use Rattle.tool_prover.specs.JobBatch.{job_batch}
use Rattle.tool_jobs.specs.Stated.{statement_of}
use Rattle.tool_jobs.specs.Laws.Statements.{statements-publics, statements-sources}

-- the program's configuration serves for jobs
pub tool_serves : (version : TranscriptVersion) → ServesJobs (tool_setting version) quartic_inv
unfolding tool_setting
tool_serves version =
    baby_bear_serves (sha256_functions (commitment_elements baby_bear_ring)) (record { chain = replicate 32 0; left = 0 }) 26 4 4 version (omega arith)

-- one lookup at most is packed as it is
own_packed : (j : JobTable BabyBear) (masks bits asked : ℕ) → packed_lookups baby_bear_ring masks bits asked (source_of_job baby_bear_ring j) ≡ own_lookups baby_bear_ring j
own_packed (swap_of k a b) masks bits asked = refl
own_packed (wheel_of k) masks bits asked = refl
own_packed (take_of words) masks bits asked = refl
own_packed (give_of pairs) masks bits asked = refl
own_packed (hash_of rows) masks bits asked = refl

abbrev source_table : Source BabyBear → AirTable BabyBear
source_table x = record { declaration = x.declaration; trees = x.trees }

own_tables : (job : List (JobTable BabyBear)) → map air_table_of (map statement_of job) ≡ map (job_table baby_bear_ring) job
own_tables [] = refl
own_tables (j ∷ job) = λ i. own_table j i ∷ own_tables job i
  where
    own_table : (j : JobTable BabyBear) → air_table_of (statement_of j) ≡ job_table baby_bear_ring j
    own_table (swap_of k a b) = refl
    own_table (wheel_of k) = refl
    own_table (take_of words) = refl
    own_table (give_of pairs) = refl
    own_table (hash_of rows) = refl

-- at most one lookup, and at most as many columns as a compression has
few_lookups : (j : JobTable BabyBear) → length (traced_job baby_bear_ring j).lookups ≤ 1
few_lookups (swap_of k a b) = omega arith
few_lookups (wheel_of k) = omega arith
few_lookups (take_of words) = omega arith
few_lookups (give_of pairs) = omega arith
few_lookups (hash_of rows) = omega arith

few_columns : (j : JobTable BabyBear) → (declared (traced_job baby_bear_ring j)).width ≤ 9168
few_columns (swap_of k a b) = omega arith
few_columns (wheel_of k) = omega arith
few_columns (take_of words) = omega arith
few_columns (give_of pairs) = omega arith
few_columns (hash_of rows) = omega arith

-- what bounds a table of a job: its rows, its columns, its lookups, and the chunks of its quotient
pub record IsSmall (version : TranscriptVersion) (t : TracedTable BabyBear) : Type 0 where
  pub rows : t.degree_bits ≤ 10
  pub columns : (declared t).width ≤ 9168
  pub preprocessed : width_of (declared t).preprocessed ≤ 1
  pub lookups : length t.lookups ≤ 1
  pub parts : log_parts (tool_setting version) t ≤ 1

few_prepared : (j : JobTable BabyBear) → width_of (declared (traced_job baby_bear_ring j)).preprocessed ≤ 1
few_prepared (swap_of k a b) = omega arith
few_prepared (wheel_of k) = omega arith
few_prepared (take_of words) = omega arith
few_prepared (give_of pairs) = omega arith
few_prepared (hash_of rows) = omega arith

few_parts : (version : TranscriptVersion) (j : JobTable BabyBear) → log_parts (tool_setting version) (traced_job baby_bear_ring j) ≤ 1
unfolding tool_setting
few_parts version j =
    let t = traced_job baby_bear_ring j in
    let few = job_chunks baby_bear_ring j (2 ^ log_rows (tool_setting version) t) (pow_pos (log_rows (tool_setting version) t)) in
    omega (arith, few)

job_small : (version : TranscriptVersion) (j : JobTable BabyBear) → IsJobTableWithin j → IsSmall version (traced_job baby_bear_ring j)
job_small version j W = record { rows = small_height j W; columns = few_columns j; preprocessed = few_prepared j; lookups = few_lookups j; parts = few_parts version j }

module _ (version : TranscriptVersion) (job : List (JobTable BabyBear)) where
  abbrev stated : List TableStatement
  stated = map statement_of job

  abbrev no_job_table : JobTable BabyBear
  no_job_table = take_of []

  lookups_are : (tool_common stated).lookups ≡ map (own_lookups baby_bear_ring) job
  unfolding tool_common
  lookups_are =
      let n = length stated in
      let budgets = replicate n 0 in
      let bits = log_heights_of stated in
      (λ i. tabulate (length-map job statement_of i) (packed_at baby_bear_ring 0 (statements-sources job i) bits budgets))
      ∙ (tabulate_same (length job) (packed_at baby_bear_ring 0 (map (source_of_job baby_bear_ring) job) bits budgets) (λ i. get_or (map (own_lookups baby_bear_ring) job) i []) (λ i l.
      ap (packed_lookups baby_bear_ring 0 (get_or bits i 0) (get_or budgets i 0)) (get_or-map (source_of_job baby_bear_ring) job i no_job_table no_source l)
      ∙ (own_packed (get_or job i no_job_table) 0 (get_or bits i 0) (get_or budgets i 0) ∙ sym (get_or-map (own_lookups baby_bear_ring) job i no_job_table [] l)))
      ∙ sym (tabulate_items [] (map (own_lookups baby_bear_ring) job) (length job) (length-map job (own_lookups baby_bear_ring))))

  pub as_many : table_count (job_batch version job) ≡ length job
  as_many = length-map (map statement_of job) air_table_of ∙ length-map job statement_of

  pub table_is : (i : ℕ) → i < length job → table_at (job_batch version job) i ≡ traced_job baby_bear_ring (get_or job i no_job_table)
  table_is i h = λ q. record {
    table = (ap (λ ts. get_or ts i no_table) (own_tables job) ∙ get_or-map (job_table baby_bear_ring) job i no_job_table no_table h) q;
    lookups = (ap (λ ls. get_or ls i []) lookups_are ∙ get_or-map (own_lookups baby_bear_ring) job i no_job_table [] h) q;
    publics = (ap (λ ps. get_or ps i []) (statements-publics job) ∙ get_or-map (table_publics {F = BabyBear}) job i no_job_table [] h) q;
    trace = get_or-map (trace_of baby_bear_ring) job i no_job_table no_rows h q;
    degree_bits = get_or-map (job_log_height_of {F = BabyBear}) job i no_job_table 0 h q;
  }

  module _ (within : All IsJobTableWithin job) where
    -- what holds of each table of a job holds of each table of its batch
    pub each : (P : TracedTable BabyBear → Type 0) → ((j : JobTable BabyBear) → IsJobTableWithin j → P (traced_job baby_bear_ring j)) → (i : ℕ) → i < table_count (job_batch version job) → P (table_at (job_batch version job) i)
    each P all i h =
        let l : i < length job = let e = as_many in omega (arith, h, e) in
        subst P (sym (table_is i l)) (all (get_or job i no_job_table) (within i no_job_table l))

    pub tables_traced : (i : ℕ) → i < table_count (job_batch version job) → IsTraced (tool_setting version) (table_at (job_batch version job) i)
    unfolding tool_setting
    tables_traced = each (IsTraced (tool_setting version)) (job_traced (tool_setting version) quartic_inv (tool_serves version))

    pub tables_divided : (i : ℕ) → i < table_count (job_batch version job) → HasQuotientDomain (tool_setting version) (table_at (job_batch version job) i)
    unfolding tool_setting
    tables_divided = each (HasQuotientDomain (tool_setting version)) (job_domain (tool_setting version) quartic_inv (tool_serves version))

    pub tables_sized : (i : ℕ) → i < table_count (job_batch version job) → IsSmall version (table_at (job_batch version job) i)
    tables_sized = each (IsSmall version) (job_small version)
