-- What comes of proving a job, from what the prover of batches answers for what is set up.
use Rattle.std.proofs.Common.{◌≡◌, ◌↔◌, ℕ, ◌^◌, ◌<◌, true, false, IsTrue, List, length, get_or, map, Option, Some, Result, Ok, Err, refl, sym, ◌∙◌, ap, subst, arith}
use Rattle.std.specs.Prelude.{All, IfErr}
use Rattle.std.specs.Result.{IsErrAnd}
use Rattle.p3_challenger.specs.declared.sha256_challenger.Sha256Challenger.{Sha256Challenger}
use Rattle.p3_field.specs.BabyBear.{baby_bear_ring, baby_bear_root}
use Rattle.p3_field.specs.Domain.{CosetData, point}
use Rattle.p3_field.specs.declared.baby_bear.BabyBear.{BabyBear}
use Rattle.p3_field.specs.declared.quartic.QuarticExtension.{QuarticExtension}
use Rattle.p3_matrix.specs.Matrix.{Rows}
use Rattle.plain_pcs.specs.Extension.{commitment_of}
use Rattle.plain_pcs.specs.Holding.{AreHolding, IsMade}
use Rattle.plain_pcs.specs.Scheme.{Blowup, PlainCommitmentData}
use Rattle.plain_pcs.specs.declared.commitment.PlainProof.{PlainProof}
use Rattle.plain_pcs.specs.declared.error.PlainProverError.{PlainProverError}
use Rattle.batch_setup.specs.Preprocessed.{IsPrepared}
use Rattle.batch_setup.specs.Setup.{Instance, instances_of}
use Rattle.batch_statement.specs.Statement.{statement_with, Statement, WellFormed, WrittenCommon, read_common, tables_of}
use Rattle.law_valid.specs.Valid.{Valid}
use Rattle.verifier_batch.specs.BatchChecks.{Accepted}
use Rattle.law_acceptance.specs.Honest.{HaveFewRows, IsOutsideRows}
use Rattle.law_acceptance.specs.Laws.Airs.{few_rows}
use Rattle.law_honest.specs.HonestProof.{IsBuilt, honest_proof, zeta}
use Rattle.law_soundness.specs.Meaning.{HoldUnlessUnlucky}
use Rattle.prover_answer.specs.Backend.{ProverBackend}
use Rattle.prover_answer.specs.Batch.{Batch, HasProverData, IsTracedAll, batch_of, preprocessed_all, table_at}
use Rattle.prover_answer.specs.Laws.Telling.{refusal_tells}
use Rattle.prover_answer.specs.PlainBackend.{plain_commits, plain_prover_backend}
use Rattle.prover_answer.specs.Proving.{AvoidsExcluded, IsHonestProof, proving_checks}
use Rattle.prover_answer.specs.Telling.{Tells}
use Rattle.prover_answer.specs.Verdict.{IsAnswerRefusal}
use Rattle.prover_answer.specs.declared.error.ProvingError.{ProvingError}
use Rattle.prover_answer.specs.declared.error.ProvingError.TheVariants.{LookupDenominatorZero, MultiplicityBound, OutOfMemory, Pcs, WitnessNotFound}
use Rattle.transcript_version.specs.declared.TranscriptVersion.{TranscriptVersion}
use Rattle.tool_proof_text.specs.ProofText.{ToolProofData}
use Rattle.tool_jobs.specs.Jobs.{JobWithin}
use Rattle.tool_jobs.specs.Laws.Statements.{statements-heights}
use Rattle.tool_jobs.specs.Stated.{statement_of}
use Rattle.tool_jobs.specs.Unbalanced.{same_word}
use Rattle.tool_statement.specs.Config.{backend_of, tool_backend, tool_scheme, tool_setting}
use Rattle.tool_statement.specs.StatedTables.{HaveStatedHeights, entries_of, log_heights_of, preprocessed_traces, publics_lists, sources_of, air_table_of, tool_common, tool_statement}
use Rattle.tool_statement.specs.declared.table.TableStatement.{TableStatement}
use Rattle.tool_tables.specs.Tool.{tool_declaration, tool_trees}
use Rattle.tool_tables.specs.declared.tool.ToolAir.{ToolAir}
use Rattle.law_tool_valid.specs.Job.{IsBalancedJob, JobTable, job_log_height_of, trace_of}
use Rattle.tool_verifier.specs.FileAnswer.{FewAreUnlucky, IsFileAnswer, PrintCompressions, SwapsEnd, TablesBalance}
use Rattle.tool_prover.specs.JobAnswer.{DrawsInside, DrawsOutside, IsJobProof, IsProvingOutcome, IsTold, drawn_point}
use Rattle.tool_prover.specs.JobBatch.{job_batch}
use Rattle.tool_prover.specs.Outside.{AvoidsRows}
use Rattle.tool_prover.specs.Laws.Drawn.{outside_is}
use Rattle.tool_prover.specs.Laws.Refused.{told}
use Rattle.tool_verifier.specs.Laws.Stated.{ToolSetting, formed_is}
use Rattle.tool_prover.proofs.Setup.{airs_in_them, instances_long, kept_there, one_bit, prover_with, publics_in_them, same_batch, scheme_with, source_of_air, statement_is, valid}

-- the prover's side of the plain scheme with this blowup
abbrev pub backend_with : Blowup → ProverBackend Sha256Challenger BabyBear QuarticExtension (PlainCommitmentData BabyBear) (List (CosetData BabyBear × Rows BabyBear)) PlainProof PlainProverError
backend_with b = plain_prover_backend (scheme_with b)

abbrev ToolBatch : Type 0
ToolBatch = Batch Sha256Challenger BabyBear QuarticExtension (PlainCommitmentData BabyBear)

-- the points of a domain, and how many there are
abbrev pub points : CosetData BabyBear → ℕ
points d = 2 ^ d.log_size

abbrev pub point_at : CosetData BabyBear → ℕ → BabyBear
point_at d i = point baby_bear_ring baby_bear_root d i

-- what commits to matrices: a commitment with prover data that holds them
abbrev pub commits_with : Blowup → List (CosetData BabyBear × Rows BabyBear) → PlainCommitmentData BabyBear × List (CosetData BabyBear × Rows BabyBear) → Type 0
commits_with b = plain_commits (scheme_with b)

-- What is set up for a job: the configuration, AIRs, traces, public values, common data with what is kept of it, and instances.
pub record IsSetUp (version : TranscriptVersion) (job : List (JobTable BabyBear)) (tables : List TableStatement) (c : ToolSetting) (b : Blowup) (airs : List (ToolAir BabyBear)) (traces : List (Rows BabyBear)) (publics : List (List BabyBear))
    (written : WrittenCommon BabyBear (PlainCommitmentData BabyBear)) (kept : Option (List (CosetData BabyBear × Rows BabyBear))) (instances : List (Instance (ToolAir BabyBear) BabyBear)) : Type 0 where
  pub within : JobWithin job
  pub balanced : IsBalancedJob same_word job
  pub tables_are : tables ≡ map statement_of job
  pub setting_is : c ≡ tool_setting version
  pub scheme_is : b ≡ one_bit
  pub airs_are : map source_of_air airs ≡ sources_of tables
  pub traces_are : traces ≡ map (trace_of baby_bear_ring) job
  pub publics_are : publics ≡ publics_lists tables
  pub common_is : read_common written ≡ tool_common tables
  pub formed : WellFormed (map (tool_declaration baby_bear_ring) airs) (read_common written)
  pub prepared : IsPrepared (commits_with one_bit) (entries_of tables) (preprocessed_traces tables) written.preprocessed kept
  pub instances_are : instances ≡ instances_of airs traces publics

module _ (version : TranscriptVersion) (job : List (JobTable BabyBear)) (tables : List TableStatement) (c : ToolSetting) (b : Blowup) (airs : List (ToolAir BabyBear)) (traces : List (Rows BabyBear)) (publics : List (List BabyBear))
    (written : WrittenCommon BabyBear (PlainCommitmentData BabyBear)) (kept : Option (List (CosetData BabyBear × Rows BabyBear))) (instances : List (Instance (ToolAir BabyBear) BabyBear))
    (U : IsSetUp version job tables c b airs traces publics written kept instances) where
  -- in terms of the job
  airs_there : map source_of_air airs ≡ sources_of (map statement_of job)
  airs_there = U.airs_are ∙ ap sources_of U.tables_are

  common_there : read_common written ≡ tool_common (map statement_of job)
  common_there = U.common_is ∙ ap tool_common U.tables_are

  publics_there : publics ≡ publics_lists (map statement_of job)
  publics_there = U.publics_are ∙ ap publics_lists U.tables_are

  prepared_there : IsPrepared (commits_with one_bit) (entries_of (map statement_of job)) (preprocessed_traces (map statement_of job)) written.preprocessed kept
  prepared_there =
      subst (λ ts. IsPrepared (commits_with one_bit) (entries_of ts) (preprocessed_traces ts) written.preprocessed kept) U.tables_are U.prepared

  -- the batch
  abbrev pub batch : ToolBatch
  batch = batch_of c (prover_with b) (tool_declaration baby_bear_ring) (tool_trees baby_bear_ring) instances written

  batch_is : batch ≡ job_batch version job
  batch_is = same_batch version job U.within airs airs_there traces U.traces_are publics publics_there written common_there instances U.instances_are c U.setting_is b U.scheme_is

  job_valid : let b = job_batch version job in Valid b.setting same_word b.prover.commitment_of b.statement b.traces b.degree_bits
  job_valid = valid version job U.within airs airs_there (read_common written) common_there points point_at IsMade (AreHolding tool_scheme) kept prepared_there U.balanced U.formed

  pub batch_valid : Valid batch.setting same_word batch.prover.commitment_of batch.statement batch.traces batch.degree_bits
  batch_valid = subst (λ (B : ToolBatch). Valid B.setting same_word B.prover.commitment_of B.statement B.traces B.degree_bits) (sym batch_is) job_valid

  pub batch_traced : IsTracedAll batch
  batch_traced = batch_valid.batch

  pub batch_kept : HasProverData (commits_with b) (preprocessed_all batch) batch.statement.common.preprocessed kept
  batch_kept =
      subst (λ (B : ToolBatch). HasProverData (commits_with b) (preprocessed_all B) written.preprocessed kept) (sym batch_is)
      (subst (λ x. HasProverData (commits_with x) (preprocessed_all (job_batch version job)) written.preprocessed kept) (sym U.scheme_is)
      (kept_there version job U.within airs airs_there (read_common written) common_there points point_at IsMade (AreHolding tool_scheme) kept prepared_there))

  -- its refusal tells why
  answer_tells : (B : ToolBatch) (e : ProvingError PlainProverError) → IsAnswerRefusal (proving_checks (plain_prover_backend tool_scheme) B) e → Tells (plain_prover_backend tool_scheme) B e
  answer_tells B (Pcs phase source) h = refusal_tells (plain_prover_backend tool_scheme) B (Pcs phase source) h
  answer_tells B (MultiplicityBound bus) h = refusal_tells (plain_prover_backend tool_scheme) B (MultiplicityBound bus) h
  answer_tells B (LookupDenominatorZero i row) h = refusal_tells (plain_prover_backend tool_scheme) B (LookupDenominatorZero i row) h
  answer_tells B (WitnessNotFound step) h = refusal_tells (plain_prover_backend tool_scheme) B (WitnessNotFound step) h
  answer_tells B OutOfMemory h = tt

  told_there : (e : ProvingError PlainProverError) → IsAnswerRefusal (proving_checks (backend_with b) batch) e → IsTold version job e
  told_there e h =
      told version job U.within.0.1 U.within.1 job_valid.bounded e
      (answer_tells (job_batch version job) e
      (subst (λ (B : ToolBatch). IsAnswerRefusal (proving_checks (backend_with one_bit) B) e) batch_is
      (subst (λ x. IsAnswerRefusal (proving_checks (backend_with x) batch) e) U.scheme_is h)))

  pub refusal_there : {T : Type 0} (r : Result T (ProvingError PlainProverError)) (e : ProvingError PlainProverError) → IsErrAnd r (λ y. y ≡ e) → IsAnswerRefusal (proving_checks (backend_with b) batch) e → IfErr r (IsTold version job)
  refusal_there (Err y) e p h = subst (IsTold version job) (sym p) (told_there e h)
  refusal_there (Ok t) e p h = absurd p

  -- its proof is the job's
  pub proof_there : (q : ToolProofData) → IsHonestProof (backend_with b) batch q → IsJobProof version job q
  proof_there q P = subst (λ (B : ToolBatch). IsBuilt B.setting B.prover B.statement B.traces B.degree_bits q) batch_is P.built

  point_there : (q : ToolProofData) (x : QuarticExtension) → x ≡ zeta batch.setting batch.prover batch.statement batch.traces batch.degree_bits q.lookup_pow_witness q.ood_pow_witness → x ≡ drawn_point version job q
  point_there q x e = e ∙ ap (λ (B : ToolBatch). zeta B.setting B.prover B.statement B.traces B.degree_bits q.lookup_pow_witness q.ood_pow_witness) batch_is

  drawn_there : (q : ToolProofData) (x : QuarticExtension) → x ≡ zeta batch.setting batch.prover batch.statement batch.traces batch.degree_bits q.lookup_pow_witness q.ood_pow_witness
      → DrawsOutside version job q ↔ All (AvoidsRows x) (log_heights_of tables)
  drawn_there q x e =
      subst (λ ts. DrawsOutside version job q ↔ All (AvoidsRows x) (log_heights_of ts)) (sym U.tables_are)
      (subst (λ y. DrawsOutside version job q ↔ All (AvoidsRows y) (log_heights_of (map statement_of job))) (sym (point_there q x e)) (outside_is version job q))

  -- the point lies on the rows of a table,
  pub inside_there : (q : ToolProofData) (x : QuarticExtension) → IsHonestProof (backend_with b) batch q → x ≡ zeta batch.setting batch.prover batch.statement batch.traces batch.degree_bits q.lookup_pow_witness q.ood_pow_witness
      → IsTrue false ↔ All (AvoidsRows x) (log_heights_of tables) → DrawsInside version job
  inside_there q x P e out = (q, proof_there q P, λ d. let h : false ≡ true = out.1 ((drawn_there q x e).0 d) in cc)

  -- or of none
  pub outside_there : (q : ToolProofData) (x : QuarticExtension) → x ≡ zeta batch.setting batch.prover batch.statement batch.traces batch.degree_bits q.lookup_pow_witness q.ood_pow_witness
      → IsTrue true ↔ All (AvoidsRows x) (log_heights_of tables) → DrawsOutside version job q
  outside_there q x e out = (drawn_there q x e).1 (out.0 refl)

  -- its proof is accepted where it does so
  outside_in : (q : ToolProofData) → DrawsOutside version job q → (i : ℕ) → i < length instances
      → IsOutsideRows batch.setting (table_at batch i) (zeta batch.setting batch.prover batch.statement batch.traces batch.degree_bits q.lookup_pow_witness q.ood_pow_witness)
  outside_in q d i l =
      let n = instances_long version job U.within airs airs_there traces U.traces_are publics publics_there written common_there instances U.instances_are c U.setting_is b U.scheme_is in
      subst (λ (B : ToolBatch). IsOutsideRows B.setting (table_at B i) (zeta B.setting B.prover B.statement B.traces B.degree_bits q.lookup_pow_witness q.ood_pow_witness)) (sym batch_is) (d i (omega (arith, l, n)))

  low_there : c.two_adicity < 63
  unfolding tool_setting
  low_there = subst (λ (x : ToolSetting). x.two_adicity < 63) (sym U.setting_is) (omega arith)

  few_there : HaveFewRows batch.setting batch.statement batch.traces batch.degree_bits
  few_there = few_rows batch.setting batch.prover.commitment_of batch.statement batch.traces batch.degree_bits low_there batch_traced

  abbrev AcceptsThen : ToolProofData → Type 0
  AcceptsThen q =
      HaveFewRows batch.setting batch.statement batch.traces batch.degree_bits
      → Valid batch.setting same_word batch.prover.commitment_of batch.statement batch.traces batch.degree_bits
      → ((i : ℕ) → i < length instances → IsOutsideRows batch.setting (table_at batch i) (zeta batch.setting batch.prover batch.statement batch.traces batch.degree_bits q.lookup_pow_witness q.ood_pow_witness))
      → AvoidsExcluded (backend_with b) batch q.lookup_pow_witness q.ood_pow_witness → Accepted batch.setting (backend_of (scheme_with b)) batch.statement q

  accepted_batch : (q : ToolProofData) → AcceptsThen q → DrawsOutside version job q → Accepted c (backend_of (scheme_with b)) batch.statement q
  accepted_batch q h d = h few_there batch_valid (outside_in q d) (λ i o l j p m k x n f. f)

  accepted_there : (q : ToolProofData) → AcceptsThen q → DrawsOutside version job q → Accepted (tool_setting version) tool_backend (tool_statement (map statement_of job)) q
  unfolding tool_backend
  accepted_there q h d =
      let same = statement_is version job U.within airs airs_there traces U.traces_are publics publics_there written common_there instances U.instances_are c U.setting_is b U.scheme_is in
      subst (λ (s : Statement BabyBear (PlainCommitmentData BabyBear)). Accepted (tool_setting version) (backend_of tool_scheme) s q) same
      (subst (λ (x : ToolSetting). Accepted x (backend_of tool_scheme) batch.statement q) U.setting_is
      (subst (λ (x : Blowup). Accepted c (backend_of (scheme_with x)) batch.statement q) U.scheme_is (accepted_batch q h d)))

  -- with the stated heights
  heights_there : (q : ToolProofData) → IsJobProof version job q → HaveStatedHeights (map statement_of job) q.degree_bits
  unfolding honest_proof
  heights_there q B j l =
      let bits : q.degree_bits ≡ map job_log_height_of job = ap (λ (r : ToolProofData). r.degree_bits) B.proof_is in
      ap (λ (hs : List ℕ). get_or hs j 0) (statements-heights job ∙ sym bits)

  -- what the common data is well-formed for
  pub formed_there : WellFormed (map (λ t. t.declaration) (map air_table_of tables)) (tool_common tables)
  formed_there = formed_is tables airs (read_common written) (tool_common tables) U.airs_are U.common_is U.formed

  pub accepted_for : (q : ToolProofData) → AcceptsThen q → DrawsOutside version job q → Accepted (tool_setting version) tool_backend (tool_statement tables) q
  accepted_for q h d = subst (λ ts. Accepted (tool_setting version) tool_backend (tool_statement ts) q) (sym U.tables_are) (accepted_there q h d)

  -- so `verify` writes `accepted` for it
  pub outcome_there : (q : ToolProofData) → IsHonestProof (backend_with b) batch q → DrawsOutside version job q → AcceptsThen q
      → HoldUnlessUnlucky (tool_setting version) 1 (tool_statement tables) q → (HaveStatedHeights tables q.degree_bits → SwapsEnd version tables q) → (HaveStatedHeights tables q.degree_bits → PrintCompressions version tables q) → FewAreUnlucky version tables q
      → TablesBalance version tables q → IsProvingOutcome version job (Some q)
  unfolding IsFileAnswer
  outcome_there q P d h holds swaps hashes few balance =
      let B = proof_there q P in
      let heights = heights_there q B in
      let same : tables ≡ map statement_of job = U.tables_are in (
        B,
        d,
        (
          (heights, accepted_there q h d),
          record {
            holds = subst (λ ts. HoldUnlessUnlucky (tool_setting version) 1 (tool_statement ts) q) same holds;
            swaps = subst (λ ts. HaveStatedHeights ts q.degree_bits → SwapsEnd version ts q) same swaps heights;
            hashes = subst (λ ts. HaveStatedHeights ts q.degree_bits → PrintCompressions version ts q) same hashes heights;
            few = subst (λ ts. FewAreUnlucky version ts q) same few;
            balance = subst (λ ts. TablesBalance version ts q) same balance;
          },
          refl,
        ),
      )
