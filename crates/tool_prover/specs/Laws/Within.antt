-- The honest proof of a job within its limits is within those of proof files.
use Rattle.std.proofs.Common.{◌≡◌, ℕ, zero, suc, ◌+◌, ◌*◌, ◌^◌, ◌<◌, ◌≤◌, false, List, [], ◌∷◌, length, get_or, map, Option, None, Some, refl, sym, subst, arith}
use Rattle.std.specs.Prelude.{All, option_to_list}
use Rattle.std.specs.List.{flat_map}
use Rattle.std.proofs.lemmas.List.{get_or-map, length-append, length-map}
use Rattle.std.proofs.lemmas.Nat.{pow_pos}
use Rattle.p3_field.specs.Domain.{CosetData, subgroup}
use Rattle.p3_field.specs.Laws.Tabulate.{length-tabulate}
use Rattle.p3_field.specs.Poly.{tabulate}
use Rattle.p3_field.specs.declared.baby_bear.BabyBear.{BabyBear}
use Rattle.p3_field.specs.declared.quartic.QuarticExtension.{QuarticExtension}
use Rattle.p3_matrix.specs.Matrix.{Rows}
use Rattle.air_core.specs.Laws.Lists.{all_tabulate}
use Rattle.transcript_version.specs.declared.TranscriptVersion.{TranscriptVersion}
use Rattle.transcript_version.specs.declared.TranscriptVersion.TheVariants.{V1}
use Rattle.tool_proof_files.specs.Laws.Files.{version-within}
use Rattle.tool_lines.specs.Texts.{Between, ListWithin, OptionWithin, Unlimited}
use Rattle.tool_proof_text.specs.Matrices.{MatrixWithin}
use Rattle.tool_proof_text.specs.Openings.{InstanceWithin}
use Rattle.tool_proof_text.specs.ProofText.{CommitmentWithin, ProofWithin, ToolProofData}
use Rattle.plain_pcs.specs.Extension.{IsCommittable, commitment_of, extended_domain, extension_of}
use Rattle.plain_pcs.specs.Laws.Evaluations.{evaluations-fill}
use Rattle.plain_pcs.specs.Laws.Extensions.{height-extension, length-polynomials, polynomials, width-extension}
use Rattle.plain_pcs.specs.Laws.OpenedCommitments.{power_within}
use Rattle.plain_pcs.specs.declared.commitment.PlainProof.{PlainProof}
use Rattle.law_valid.specs.Traced.{TracedTable, declared}
use Rattle.law_committed.specs.Fields.{FieldsLaws}
use Rattle.law_committed.specs.Laws.Degrees.{all_images}
use Rattle.law_honest.specs.HonestProof.{IsBuilt, alpha, challenges_at, committed_where, honest_proof, opened_of, honest_terminal, where_some, zeta}
use Rattle.tool_statement.specs.Config.{tool_scheme, tool_setting}
use Rattle.law_tool_valid.specs.Job.{IsJobTableWithin, JobTable, take_of, job_log_height_of}
use Rattle.law_tool_valid.specs.Laws.Tables.{small_height}
use Rattle.prover_answer.specs.Batch.{all_chunks, all_permutations, chunks_of, log_parts_at, main_matrices, table_at, table_count}
use Rattle.tool_proof_files.specs.Files.{FileWithin}
use Rattle.tool_jobs.specs.Jobs.{JobWithin}
use Rattle.tool_jobs.specs.Laws.Statements.{statements-within}
use Rattle.tool_jobs.specs.Stated.{statement_of}
use Rattle.tool_prover.specs.JobAnswer.{IsJobProof, file_of}
use Rattle.tool_prover.specs.JobBatch.{job_batch, tool_prover}
use Rattle.tool_prover.specs.Laws.Granted.{all_chunks_sized, all_permutations_sized, mains_sized}
use Rattle.tool_prover.specs.Laws.JobTables.{as_many, tables_divided, tables_sized, tables_traced, tool_serves}
use Rattle.tool_prover.specs.Laws.OpenedSizes.{opened_within}
use Rattle.tool_prover.specs.Laws.Sized.{IsSized}

-- the extension of a matrix of one to 9168 columns and up to 2^10 rows
pub matrix_within : (e : CosetData BabyBear × Rows BabyBear) → IsSized 10 9168 e → MatrixWithin (extension_of tool_scheme e.0 e.1)
unfolding tool_setting extension_of
matrix_within e Z =
    let s = tool_scheme in
    let L = (tool_serves V1).fields in
    let low = Z.low in
    let C : IsCommittable s e.0 e.1 = record { has_columns = Z.has_columns; height_is = Z.height_is; fits = omega (arith, low) } in
    let wide = width-extension s L.below L.below_field L.roots e.0 e.1 C in
    let tall = height-extension s L.below L.below_field L.roots e.0 e.1 C in
    let some = Z.has_columns in
    let narrow = Z.narrow in
    let few : 2 ^ (e.0.log_size + 1) ≤ 2 ^ 11 = power_within (e.0.log_size + 1) 11 (omega (arith, low)) in
    let pos : 0 < 2 ^ (e.0.log_size + 1) = pow_pos (e.0.log_size + 1) in
    record {
      columns = omega (arith, wide, narrow);
      rows = omega (arith, tall, few);
      empty = (λ h. absurd (omega (arith, h, tall, pos)), λ h. absurd (omega (arith, h, wide, some)));
      fills = evaluations-fill s.field (extended_domain s e.0.log_size) (polynomials s e.0 e.1) (let n = length-polynomials s e.0 e.1 in omega (arith, n, some));
    }

-- a commitment to such matrices
pub commitment_within : (es : List (CosetData BabyBear × Rows BabyBear)) → length es ≤ 16 → All (IsSized 10 9168) es → CommitmentWithin (commitment_of tool_scheme es)
commitment_within es few all =
    let ext : CosetData BabyBear × Rows BabyBear → Rows BabyBear = λ e. extension_of tool_scheme e.0 e.1 in
    let long = length-map es ext in
    ((omega arith, omega (arith, long, few)), all_images (IsSized 10 9168) MatrixWithin ext matrix_within es all)

pub some_within : (es : List (CosetData BabyBear × Rows BabyBear)) → length es ≤ 16 → All (IsSized 10 9168) es → OptionWithin CommitmentWithin (committed_where (commitment_of tool_scheme) es)
some_within [] few all = tt
some_within (e ∷ es) few all = commitment_within (e ∷ es) few all

-- lists of at most two items, one for each table
pub flat_few : {Y : Type 0} (g : ℕ → List Y) (n : ℕ) (q : ℕ → ℕ) → ((i : ℕ) → i < n → length (g (q i)) ≤ 2) → length (flat_map g (tabulate n q)) ≤ 2 * n
flat_few g zero q h = omega arith
flat_few g (suc n) q h =
    let first = h zero (omega arith) in
    let rest = flat_few g n (λ i. q (suc i)) (λ i l. h (suc i) (omega (arith, l))) in
    omega (arith, first, rest, length-append (g (q zero)) (flat_map g (tabulate n (λ i. q (suc i)))))

pub where_few : {A Y : Type 0} (ls : List A) (y : Y) → length (option_to_list (where_some ls y)) ≤ 2
where_few [] y = omega arith
where_few (l ∷ ls) y = omega arith

pub any_option : {A : Type 0} (o : Option A) → OptionWithin Unlimited o
any_option None = tt
any_option (Some x) = tt

-- a value of the extension has four coefficients, and nothing is masked
pub four : (version : TranscriptVersion) → (tool_setting version).extension.dimension ≤ 4
unfolding tool_setting
four version = omega arith

pub unmasked : (version : TranscriptVersion) → (tool_setting version).zk ≡ false
unmasked version = (tool_serves version).plain

module _ (version : TranscriptVersion) (job : List (JobTable BabyBear)) (many : length job ≤ 8) (within : All IsJobTableWithin job) where
  pub few_tables : table_count (job_batch version job) ≤ 8
  few_tables = let n = as_many version job in omega (arith, n, many)

  pub fields : FieldsLaws (tool_setting version).field (tool_setting version).extension (tool_setting version).two_adicity (job_batch version job).prover.inverse
  unfolding tool_prover
  fields = (tool_serves version).fields

  bits_within : ListWithin 0 1024 (Between 0 255) (map job_log_height_of job)
  bits_within =
      let n = length-map job (job_log_height_of {F = BabyBear}) in (
        (omega arith, omega (arith, n, many)),
        λ i d l.
            let room : i < length job = omega (arith, l, n) in
            let e = get_or-map (job_log_height_of {F = BabyBear}) job i (take_of []) d room in
            let low = small_height (get_or job i (take_of [])) (within i (take_of []) room) in
            (omega arith, omega (arith, e, low)),
      )

  pub low : (i : ℕ) → i < table_count (job_batch version job) → (table_at (job_batch version job) i).degree_bits ≤ 10
  low i l = (tables_sized version job within i l).rows

  pub narrow : (i : ℕ) → i < table_count (job_batch version job) → (declared (table_at (job_batch version job) i)).width ≤ 9168
  narrow i l = let n = (tables_sized version job within i l).columns in omega (arith, n)

  pub few_flat : (i : ℕ) → i < table_count (job_batch version job) → (length (table_at (job_batch version job) i).lookups + 1) * (tool_setting version).extension.dimension ≤ 9168
  unfolding tool_setting
  few_flat i l = let n = (tables_sized version job within i l).lookups in omega (arith, n)

  mains : All (IsSized 10 9168) (main_matrices (job_batch version job))
  unfolding tool_setting
  mains =
      mains_sized tool_scheme (tool_serves version).fields.below (tool_serves version).fields.below_field (tool_serves version).fields.roots (job_batch version job) fields (unmasked version) (tables_traced version job within) 10 9168 (omega arith) low narrow few_flat (let n = (four version) in omega (arith, n))

  pub mains_few : length (main_matrices (job_batch version job)) ≤ 8
  mains_few =
      let n = few_tables in
      let at : ℕ → TracedTable BabyBear = table_at (job_batch version job) in
      let long = length-tabulate (table_count (job_batch version job)) at in
      let on : TracedTable BabyBear → CosetData BabyBear × Rows BabyBear = λ t. (subgroup (tool_setting version).field.ring t.degree_bits, t.trace) in
      let laid = length-map (tabulate (table_count (job_batch version job)) at) on in
      omega (arith, n, long, laid)

  module _ (w : Option BabyBear) (z : BabyBear) where
    abbrev folding : QuarticExtension
    folding = let b = job_batch version job in alpha b.setting b.prover b.statement b.traces b.degree_bits w

    abbrev drawn : QuarticExtension
    drawn = let b = job_batch version job in zeta b.setting b.prover b.statement b.traces b.degree_bits w z

    abbrev challenges : ℕ → List QuarticExtension
    challenges i = let b = job_batch version job in challenges_at b.setting b.prover b.statement b.traces b.degree_bits w i

    instance_within : (i : ℕ) → i < table_count (job_batch version job) → InstanceWithin (opened_of (tool_setting version) (job_batch version job).prover (table_at (job_batch version job) i) (challenges i) folding drawn)
    instance_within i l =
        let small = tables_sized version job within i l in
        opened_within (tool_setting version) (job_batch version job).prover (table_at (job_batch version job) i) (challenges i) fields (tables_divided version job within i l) (tables_traced version job within i l) (four version) small.columns small.preprocessed small.lookups small.parts
        folding drawn

    permutations : All (IsSized 10 9168) (all_permutations (job_batch version job) w)
    unfolding tool_setting
    permutations =
        all_permutations_sized tool_scheme (tool_serves version).fields.below (tool_serves version).fields.below_field (tool_serves version).fields.roots (job_batch version job) fields (unmasked version) (tables_traced version job within) 10 9168 (omega arith) low narrow few_flat (let n = (four version) in omega (arith, n)) w

    pub permutations_few : length (all_permutations (job_batch version job) w) ≤ 16
    permutations_few =
        let n = few_tables in
        let m : length (all_permutations (job_batch version job) w) ≤ 2 * table_count (job_batch version job) = flat_few _ (table_count (job_batch version job)) (λ i. i) (λ i l. where_few (table_at (job_batch version job) i).lookups _) in
        omega (arith, n, m)

    chunks : All (IsSized 10 9168) (all_chunks (job_batch version job) w)
    unfolding tool_setting
    chunks =
        all_chunks_sized tool_scheme (tool_serves version).fields.below (tool_serves version).fields.below_field (tool_serves version).fields.roots (job_batch version job) fields (unmasked version) (tables_traced version job within) 10 9168 (omega arith) low narrow few_flat (let n = (four version) in omega (arith, n)) w

    few_chunks : (i : ℕ) → i < table_count (job_batch version job) → length (chunks_of (job_batch version job) w i) ≤ 2
    few_chunks i l =
        let two : 2 ^ log_parts_at (job_batch version job) i ≤ 2 ^ 1 = power_within (log_parts_at (job_batch version job) i) 1 (tables_sized version job within i l).parts in
        let n : length (chunks_of (job_batch version job) w i) ≡ 2 ^ log_parts_at (job_batch version job) i = length-tabulate (2 ^ log_parts_at (job_batch version job) i) _ in
        omega (arith, two, n)

    pub chunks_few : length (all_chunks (job_batch version job) w) ≤ 16
    chunks_few = let n = few_tables in let m = flat_few (chunks_of (job_batch version job) w) (table_count (job_batch version job)) (λ i. i) few_chunks in omega (arith, n, m)

    built_within : (opening : PlainProof) → ProofWithin (let b = job_batch version job in honest_proof b.setting b.prover b.statement b.traces b.degree_bits w z opening)
    unfolding honest_proof tool_prover
    built_within opening =
        let n = table_count (job_batch version job) in
        let few = few_tables in
        let long = length-tabulate n (λ i. opened_of (tool_setting version) (job_batch version job).prover (table_at (job_batch version job) i) (challenges i) folding drawn) in
        let ended = length-tabulate n (λ i. honest_terminal (tool_setting version) (job_batch version job).prover (table_at (job_batch version job) i) (challenges i)) in
        record {
          commitments = record {
            main = commitment_within (main_matrices (job_batch version job)) (let m = mains_few in omega (arith, m)) mains;
            permutation = some_within (all_permutations (job_batch version job) w) permutations_few permutations;
            quotient_chunks = commitment_within (all_chunks (job_batch version job) w) chunks_few chunks;
            random = tt;
          };
          instances = ((omega arith, omega (arith, few, long)), all_tabulate InstanceWithin n _ instance_within);
          lookup_terminals = ((omega arith, omega (arith, few, ended)), λ i d l. any_option _);
          degree_bits = bits_within;
        }

  -- so is a proof that is built honestly
  pub proof_within : (q : ToolProofData) → (let b = job_batch version job in IsBuilt b.setting b.prover b.statement b.traces b.degree_bits q) → ProofWithin q
  proof_within q B = subst ProofWithin (sym B.proof_is) (built_within q.lookup_pow_witness q.ood_pow_witness q.opening_proof)

-- so is the proof file
pub job_proof_within : (version : TranscriptVersion) (job : List (JobTable BabyBear)) → JobWithin job → (q : ToolProofData) → IsJobProof version job q → FileWithin (file_of version job q)
job_proof_within version job h q B =
    let n = length-map job statement_of in
    record {
      version = version-within version;
      tables = ((let l = h.0.0 in omega (arith, n, l), let l = h.0.1 in omega (arith, n, l)), statements-within job h.1);
      proof = proof_within version job h.0.1 h.1 q B;
    }
