-- What the commands answer (not in Plonky3): a status and a text.
use Rattle.std.specs.Prelude.{◌≡◌, ◌≤◌, ◌⊎◌, ℕ, List, [], ◌∷◌, ◌++◌, length, codes, true}
use Rattle.batch_setup.specs.Setup.{log_of}
use Rattle.batch_statement.specs.declared.error.BatchVerificationError.{BatchVerificationError}
use Rattle.plain_pcs.specs.declared.error.PlainError.{PlainError}
use Rattle.chain_air.specs.Generated.{end_of}
use Rattle.chain_proofs.specs.Statement.{DrawsInside, HasStatedHeight, IsChainProof, LacksGround, RowsAreChain, chain_batch, chain_statement}
use Rattle.tool_airs.specs.Airs.{DrawsOutside}
use Rattle.tool_bytes.specs.Limits.{most_bytes}
use Rattle.tool_lines.specs.Texts.{line_text}
use Rattle.tool_proof_text.specs.ProofText.{ToolProofData}
use Rattle.tool_run.specs.BadInput.{IsBadInput}
use Rattle.tool_run.specs.Program.{Program}
use Rattle.transcript_version.specs.declared.TranscriptVersion.TheVariants.{V2}
use Rattle.tool_statement.specs.Config.{tool_backend, tool_setting}
use Rattle.tool_verifier.specs.FileAnswer.{mismatch_text}
use Rattle.tool_verifier.specs.Refusals.{fault_text, refused_text}
use Rattle.tool_verifier.specs.declared.status.Status.{Status}
use Rattle.tool_verifier.specs.declared.status.Status.TheVariants.{Done, Refused, Usage, BadInput, ReadFault, WriteFault, OutOfMemory, TooLarge}
use Rattle.verifier_batch.specs.BatchChecks.{Accepted, FirstFault}
use Rattle.stark_chain.specs.Texts.{FileData, FileWithin, JobData, JobWithin, file_numbers, job_numbers}
use Rattle.stark_chain.specs.declared.command.ChainCommand.{ChainCommand}
use Rattle.stark_chain.specs.declared.command.ChainCommand.TheVariants.{Prove, Verify}

-- the proof has the stated height, and no check of the batch verifier fails, all challenges being drawn from the transcript of version 2
abbrev pub IsAccepted : FileData → Type 0
IsAccepted f = HasStatedHeight f.log_rows f.proof.degree_bits × Accepted (tool_setting V2) tool_backend (chain_statement f.start f.end f.log_rows) f.proof

-- why it isn't accepted, as the line that says so: it states another height, or else the first check that fails
abbrev pub IsRefusedWith : FileData → List ℕ → Type 0
IsRefusedWith f text =
    ((HasStatedHeight f.log_rows f.proof.degree_bits → ⊥) × (text ≡ mismatch_text 0))
    ⊎ (HasStatedHeight f.log_rows f.proof.degree_bits
    × ((e : BatchVerificationError PlainError) × FirstFault (tool_setting V2) tool_backend (chain_statement f.start f.end f.log_rows) f.proof e × (text ≡ fault_text e)))

-- The status and the text of `verify` for a proof file. What `accepted` means follows from the checks, and is said here since it is what a reader of the text
-- relies on: the rows that the proof commits to are those of a chain from `start` to `end`, unless alpha or zeta is unlucky.
unfoldable pub IsFileAnswer : FileData → Status → List ℕ → Type 0
IsFileAnswer f Done text = IsAccepted f × RowsAreChain f.start f.end f.log_rows f.proof × (text ≡ codes "accepted\n")
IsFileAnswer f Refused text = IsRefusedWith f text
IsFileAnswer f Usage text = ⊥
IsFileAnswer f BadInput text = ⊥
IsFileAnswer f ReadFault text = ⊥
IsFileAnswer f WriteFault text = ⊥
IsFileAnswer f OutOfMemory text = ⊥
IsFileAnswer f TooLarge text = ⊥

-- the proof file of a job with this proof
abbrev pub file_of : JobData → ToolProofData → FileData
file_of job q = record { log_rows = log_of (length job.blocks); start = job.start; end = end_of job.start job.blocks; proof = q }

-- The text is that of the job's honest proof, whose point lies outside the table's rows. It is a proof file's text that isn't too long for `verify`, which
-- writes `accepted` for it.
pub record IsHonestFile (job : JobData) (text : List ℕ) : Type 0 where
  pub proof : ToolProofData
  pub honest : IsChainProof job.start job.blocks proof
  pub outside : DrawsOutside (chain_batch job.start job.blocks) proof
  pub within : FileWithin (file_of job proof)
  pub text_is : text ≡ line_text (file_numbers (file_of job proof))
  pub short : length text ≤ most_bytes
  pub accepted : IsFileAnswer (file_of job proof) Done (codes "accepted\n")

-- why there is none, as the line that says so: no number passes the grind before the point is drawn, or the point of the honest proof lies on the rows
abbrev pub IsRefusedText : JobData → List ℕ → Type 0
IsRefusedText job text =
    (LacksGround job.start job.blocks × (text ≡ codes "refused WitnessNotFound ood\n")) ⊎ (DrawsInside job.start job.blocks × (text ≡ codes "refused OodPointInDomain\n"))

-- the status and the text of `prove` for a job
unfoldable pub IsJobAnswer : JobData → Status → List ℕ → Type 0
IsJobAnswer job Done text = IsHonestFile job text
IsJobAnswer job Refused text = IsRefusedText job text
IsJobAnswer job Usage text = ⊥
IsJobAnswer job BadInput text = ⊥
IsJobAnswer job ReadFault text = ⊥
IsJobAnswer job WriteFault text = ⊥
IsJobAnswer job OutOfMemory text = ⊥
IsJobAnswer job TooLarge text = ⊥

-- the status and the text of `prove` for all the bytes of an input
abbrev pub IsProveAnswer : List ℕ → Status → List ℕ → Type 0
IsProveAnswer bytes BadInput text = IsBadInput JobWithin job_numbers bytes text
IsProveAnswer bytes status text = (job : JobData) × JobWithin job × (bytes ≡ line_text (job_numbers job)) × IsJobAnswer job status text

-- the same of `verify`
abbrev pub IsVerifyAnswer : List ℕ → Status → List ℕ → Type 0
IsVerifyAnswer bytes BadInput text = IsBadInput FileWithin file_numbers bytes text
IsVerifyAnswer bytes status text = (file : FileData) × FileWithin file × (bytes ≡ line_text (file_numbers file)) × IsFileAnswer file status text

-- the words name this command
abbrev pub Names : List (List ℕ) → ChainCommand → Type 0
Names words Prove = words ≡ codes "prove" ∷ []
Names words Verify = words ≡ codes "verify" ∷ []

-- the status and the text of a command for all the bytes of an input
abbrev pub IsCommandAnswer : ChainCommand → List ℕ → Status → List ℕ → Type 0
IsCommandAnswer Prove bytes status text = IsProveAnswer bytes status text
IsCommandAnswer Verify bytes status text = IsVerifyAnswer bytes status text

-- the program: its commands, both of which read the input, their answers, and the text for other words
abbrev pub chain_program : Program ChainCommand
chain_program = record { names = Names; reads = λ _. true; answers = IsCommandAnswer; usage = codes "usage: stark_chain prove | verify\n" }
