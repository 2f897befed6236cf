-- What `prove` answers for a job: a status and a text.
use Rattle.std.specs.Prelude.{◌≡◌, ◌⊎◌, ℕ, ◌<◌, List, [], ◌∷◌, length, map, codes, Option, None, Some, ⊤}
use Rattle.p3_field.specs.declared.baby_bear.BabyBear.{BabyBear}
use Rattle.transcript_version.specs.declared.TranscriptVersion.{TranscriptVersion}
use Rattle.tool_lines.specs.Texts.{line_text}
use Rattle.law_acceptance.specs.Honest.{IsOutsideRows}
use Rattle.law_honest.specs.HonestProof.{IsBuilt, IsDenominatorZero, LacksLookupGround, LacksOodGround, zeta}
use Rattle.p3_field.specs.declared.quartic.QuarticExtension.{QuarticExtension}
use Rattle.plain_pcs.specs.declared.error.PlainProverError.{PlainProverError}
use Rattle.batch_transcript.specs.declared.failure.GrindStep.TheVariants.{Lookup, Ood}
use Rattle.prover_answer.specs.Batch.{table_at}
use Rattle.prover_answer.specs.declared.error.ProvingError.{ProvingError}
use Rattle.prover_answer.specs.declared.error.ProvingError.TheVariants.{LookupDenominatorZero, MultiplicityBound, OutOfMemory, Pcs, WitnessNotFound}
use Rattle.tool_statement.specs.Config.{tool_setting}
use Rattle.tool_proof_files.specs.Files.{FileData, FileWithin, file_numbers, version_number}
use Rattle.tool_proof_text.specs.ProofText.{ToolProofData}
use Rattle.tool_jobs.specs.Unbalanced.{IsFirstUnbalanced, same_word}
use Rattle.tool_jobs.specs.Stated.{statement_of}
use Rattle.law_tool_valid.specs.Job.{IsBalancedJob, JobTable}
use Rattle.tool_verifier.specs.FileAnswer.{IsFileAnswer, accepted_text}
use Rattle.tool_verifier.specs.Refusals.{refused_text}
use Rattle.tool_verifier.specs.declared.status.Status.{Status}
use Rattle.tool_verifier.specs.declared.status.Status.TheVariants.{Done, Refused, Usage, BadInput, ReadFault, WriteFault, TooLarge, OutOfMemory as NoMemory}
use Rattle.tool_prover.specs.JobBatch.{job_batch}

-- the proof file of a job: the version, what is stated of its tables, and a proof
abbrev pub file_of : TranscriptVersion → List (JobTable BabyBear) → ToolProofData → FileData
file_of version job q = record { version = version_number version; tables = map statement_of job; proof = q }

module _ (version : TranscriptVersion) (job : List (JobTable BabyBear)) where
  -- the proof is the honest one of the job's traces
  abbrev pub IsJobProof : ToolProofData → Type 0
  IsJobProof q = let b = job_batch version job in IsBuilt b.setting b.prover b.statement b.traces b.degree_bits q

  -- the point of its openings
  abbrev pub drawn_point : ToolProofData → QuarticExtension
  drawn_point q = let b = job_batch version job in zeta b.setting b.prover b.statement b.traces b.degree_bits q.lookup_pow_witness q.ood_pow_witness

  -- which lies on the rows of no table
  abbrev pub DrawsOutside : ToolProofData → Type 0
  DrawsOutside q = (i : ℕ) → i < length job → IsOutsideRows (tool_setting version) (table_at (job_batch version job) i) (drawn_point q)

  -- there is an honest proof, whose point lies on the rows of a table
  abbrev pub DrawsInside : Type 0
  DrawsInside = (q : ToolProofData) × IsJobProof q × (DrawsOutside q → ⊥)

  -- The text is that of the job's honest proof, whose point lies outside. It is a proof file's text, for which `verify` writes `accepted`.
  pub record IsHonestProofFile (text : List ℕ) : Type 0 where
    pub balanced : IsBalancedJob same_word job
    pub proof : ToolProofData
    pub honest : IsJobProof proof
    pub outside : DrawsOutside proof
    pub within : FileWithin (file_of version job proof)
    pub text_is : text ≡ line_text (file_numbers (file_of version job proof))
    pub accepted : IsFileAnswer version (map statement_of job) proof Done (accepted_text (map statement_of job) proof)

  -- Why there is none, as the line that says so. The least value that isn't taken as often as it is given:
  abbrev pub IsUnbalancedText : List ℕ → Type 0
  IsUnbalancedText text = (v : BabyBear) × IsFirstUnbalanced job v × (text ≡ refused_text (codes "Unbalanced") (v.value ∷ []))

  -- or of a balanced job: no number passes the grind before the lookups' pair;
  abbrev pub LacksLookupText : List ℕ → Type 0
  LacksLookupText text = let b = job_batch version job in
      LacksLookupGround b.setting b.prover b.statement b.traces b.degree_bits × (text ≡ codes "refused WitnessNotFound lookup\n")

  -- a denominator is zero, by its table and its row;
  abbrev pub IsZeroText : List ℕ → Type 0
  IsZeroText text = let b = job_batch version job in
      (i : ℕ) × (row : ℕ) × IsDenominatorZero b.setting b.prover b.statement b.traces b.degree_bits i row × (text ≡ refused_text (codes "LookupDenominatorZero") (i ∷ row ∷ []))

  -- no number passes the grind before the point is drawn;
  abbrev pub LacksOodText : List ℕ → Type 0
  LacksOodText text = let b = job_batch version job in
      LacksOodGround b.setting b.prover b.statement b.traces b.degree_bits × (text ≡ codes "refused WitnessNotFound ood\n")

  -- the point of the honest proof lies on the rows of a table
  abbrev pub IsInsideText : List ℕ → Type 0
  IsInsideText text = DrawsInside × (text ≡ codes "refused OodPointInDomain\n")

  abbrev pub IsRefusedText : List ℕ → Type 0
  IsRefusedText text =
      IsUnbalancedText text ⊎ (IsBalancedJob same_word job × (LacksLookupText text ⊎ (IsZeroText text ⊎ (LacksOodText text ⊎ IsInsideText text))))

  -- what a prover's refusal of a balanced job tells: one of the events, with its place
  abbrev pub IsTold : ProvingError PlainProverError → Type 0
  IsTold (Pcs phase source) = ⊥
  IsTold (MultiplicityBound bus) = ⊥
  IsTold (LookupDenominatorZero i row) = let b = job_batch version job in IsDenominatorZero b.setting b.prover b.statement b.traces b.degree_bits i row
  IsTold (WitnessNotFound Lookup) = let b = job_batch version job in LacksLookupGround b.setting b.prover b.statement b.traces b.degree_bits
  IsTold (WitnessNotFound Ood) = let b = job_batch version job in LacksOodGround b.setting b.prover b.statement b.traces b.degree_bits
  IsTold OutOfMemory = ⊤

  -- what comes of proving a balanced job where there is an honest proof: this, for which `verify` writes `accepted`, or nothing
  abbrev pub IsProvingOutcome : Option ToolProofData → Type 0
  IsProvingOutcome None = DrawsInside
  IsProvingOutcome (Some q) = IsJobProof q × DrawsOutside q × IsFileAnswer version (map statement_of job) q Done (accepted_text (map statement_of job) q)

  -- the status and the text
  unfoldable pub IsJobAnswer : Status → List ℕ → Type 0
  IsJobAnswer Done text = IsHonestProofFile text
  IsJobAnswer Refused text = IsRefusedText text
  IsJobAnswer Usage text = ⊥
  IsJobAnswer BadInput text = ⊥
  IsJobAnswer ReadFault text = ⊥
  IsJobAnswer WriteFault text = ⊥
  IsJobAnswer NoMemory text = ⊥
  IsJobAnswer TooLarge text = ⊥
