-- A job has one answer, and so has a proof file; words name one command.
use Rattle.std.specs.Prelude.{codes, ◌⊎◌}
use Rattle.std.proofs.Common.{◌≡◌, ℕ, inl, inr, List, refl, sym, ◌∙◌, ap, subst, arith}
use Rattle.p3_field.specs.Checks.{AreSingle, Check}
use Rattle.p3_field.specs.Laws.BabyBearField.{baby_bear_of_canonical}
use Rattle.p3_field.specs.Laws.Checks.{none_first, same_first}
use Rattle.plain_pcs.specs.declared.error.PlainError.{PlainError}
use Rattle.batch_statement.specs.declared.error.BatchVerificationError.{BatchVerificationError}
use Rattle.verifier_batch.specs.BatchChecks.{checks}
use Rattle.law_honest.specs.HonestProof.{AreCanonical}
use Rattle.law_honest.specs.Laws.Ground.{one_built, ood_event}
use Rattle.tool_lines.specs.Texts.{line_text}
use Rattle.transcript_version.specs.declared.TranscriptVersion.TheVariants.{V2}
use Rattle.tool_statement.specs.Config.{tool_backend, tool_setting}
use Rattle.tool_proof_text.specs.ProofText.{ToolProofData}
use Rattle.tool_verifier.specs.FileAnswer.{SameAnswer}
use Rattle.tool_verifier.specs.Refusals.{fault_text}
use Rattle.tool_verifier.specs.declared.status.Status.{Status}
use Rattle.tool_verifier.specs.declared.status.Status.TheVariants.{Done, Refused, Usage, BadInput, ReadFault, WriteFault, OutOfMemory, TooLarge}
use Rattle.tool_run.specs.Laws.OneAnswer.{TextAnswer, not-both, one-answer, one-text}
use Rattle.tool_run.specs.Uniqueness.{AnswersOnce, HasOneAnswer, NameOneCommand}
use Rattle.tool_airs.specs.Airs.{AirsBatch, DrawsOutside}
use Rattle.chain_proofs.specs.Statement.{IsChainProof, LacksGround, chain_batch, chain_statement}
use Rattle.stark_chain.specs.Answer.{IsFileAnswer, IsHonestFile, IsJobAnswer, IsProveAnswer, IsRefusedText, IsRefusedWith, IsVerifyAnswer, Names, chain_program, file_of}
use Rattle.stark_chain.specs.Laws.Texts.{file-grammar, job-grammar}
use Rattle.stark_chain.specs.Texts.{FileData, FileWithin, JobData, JobWithin, file_numbers, job_numbers}
use Rattle.stark_chain.specs.declared.command.ChainCommand.{ChainCommand}
use Rattle.stark_chain.specs.declared.command.ChainCommand.TheVariants.{Prove, Verify}

-- two of these answers are one
abbrev Once : (Status → List ℕ → Type 0) → Type 0
Once answers = (s t : Status) (x y : List ℕ) → answers s x → answers t y → SameAnswer s t x y

-- the answers of work that is done with such a text, or refused with such a line
abbrev WorkAnswer : (IsDone IsRefused : List ℕ → Type 0) → Status → List ℕ → Type 0
WorkAnswer IsDone IsRefused s x = ((s ≡ Done) × IsDone x) ⊎ ((s ≡ Refused) × IsRefused x)

-- where the text is one, the line is one, and there are never both
one_work : (IsDone IsRefused : List ℕ → Type 0) → ((x y : List ℕ) → IsDone x → IsDone y → x ≡ y) → ((x y : List ℕ) → IsRefused x → IsRefused y → x ≡ y)
    → ((x y : List ℕ) → IsRefused x → IsDone y → ⊥) → Once (WorkAnswer IsDone IsRefused)
one_work IsDone IsRefused text line both s t x y (inl a) (inl b) = (a.0 ∙ sym b.0, text x y a.1 b.1)
one_work IsDone IsRefused text line both s t x y (inl a) (inr b) = absurd (both y x b.1 a.1)
one_work IsDone IsRefused text line both s t x y (inr a) (inl b) = absurd (both x y a.1 b.1)
one_work IsDone IsRefused text line both s t x y (inr a) (inr b) = (a.0 ∙ sym b.0, line x y a.1 b.1)

module _ (job : JobData) where
  abbrev batch : AirsBatch
  batch = chain_batch job.start job.blocks

  -- the numbers of the field's values
  canonical : AreCanonical batch.setting.field.ring batch.setting.order batch.prover.canonical
  unfolding tool_setting
  canonical = record { ones = baby_bear_of_canonical; below = λ x. x.in_range }

  -- the honest proof is one
  one_proof : (q r : ToolProofData) → IsChainProof job.start job.blocks q → IsChainProof job.start job.blocks r → q ≡ r
  one_proof q r A B = one_built batch.setting batch.prover batch.statement batch.traces batch.degree_bits canonical q r A B refl

  -- so its text is one
  one_file : (x y : List ℕ) → IsHonestFile job x → IsHonestFile job y → x ≡ y
  one_file x y P Q = P.text_is ∙ (ap (λ (q : ToolProofData). line_text (file_numbers (file_of job q))) (one_proof P.proof Q.proof P.honest Q.honest) ∙ sym Q.text_is)

  -- and there is none where no number passes the grind
  ground_or_proof : (q : ToolProofData) → LacksGround job.start job.blocks → IsChainProof job.start job.blocks q → ⊥
  ground_or_proof q lacks P =
      ood_event batch.setting batch.prover batch.statement batch.traces batch.degree_bits canonical q.lookup_pow_witness q.ood_pow_witness lacks P.lookup_ground P.ood_ground

  one_refusal : (x y : List ℕ) → IsRefusedText job x → IsRefusedText job y → x ≡ y
  one_refusal x y (inl a) (inl b) = a.1 ∙ sym b.1
  one_refusal x y (inl a) (inr p) = absurd (ground_or_proof p.0.0 a.0 p.0.1)
  one_refusal x y (inr p) (inl b) = absurd (ground_or_proof p.0.0 b.0 p.0.1)
  one_refusal x y (inr p) (inr r) = p.1 ∙ sym r.1

  -- one proof has one point, which lies outside the rows or on them
  refused_or_proved : (x y : List ℕ) → IsRefusedText job x → IsHonestFile job y → ⊥
  refused_or_proved x y (inl a) P = ground_or_proof P.proof a.0 P.honest
  refused_or_proved x y (inr p) P = p.0.2 (subst (DrawsOutside batch) (one_proof P.proof p.0.0 P.honest p.0.1) P.outside)

  job_view : (s : Status) (x : List ℕ) → IsJobAnswer job s x → WorkAnswer (IsHonestFile job) (IsRefusedText job) s x
  unfolding IsJobAnswer
  job_view Done x a = inl (refl, a)
  job_view Refused x a = inr (refl, a)
  job_view Usage x a = absurd a
  job_view BadInput x a = absurd a
  job_view ReadFault x a = absurd a
  job_view WriteFault x a = absurd a
  job_view OutOfMemory x a = absurd a
  job_view TooLarge x a = absurd a

  one_job : Once (IsJobAnswer job)
  one_job s t x y a b = one_work (IsHonestFile job) (IsRefusedText job) one_file one_refusal refused_or_proved s t x y (job_view s x a) (job_view t y b)

-- each check of a file's proof has one refusal
abbrev pub HasSingleChecks : FileData → Type 0
HasSingleChecks f = AreSingle (checks (tool_setting V2) tool_backend (chain_statement f.start f.end f.log_rows) f.proof)

module _ (f : FileData) where
  abbrev file_checks : List (Check (BatchVerificationError PlainError))
  file_checks = checks (tool_setting V2) tool_backend (chain_statement f.start f.end f.log_rows) f.proof

  abbrev IsAcceptedLine : List ℕ → Type 0
  IsAcceptedLine x = IsFileAnswer f Done x

  one_accepted : (x y : List ℕ) → IsAcceptedLine x → IsAcceptedLine y → x ≡ y
  unfolding IsFileAnswer
  one_accepted x y a b = a.2 ∙ sym b.2

  -- the first check that fails is one
  one_fault : HasSingleChecks f → (x y : List ℕ) → IsRefusedWith f x → IsRefusedWith f y → x ≡ y
  one_fault single x y (inl a) (inl b) = a.1 ∙ sym b.1
  one_fault single x y (inl a) (inr b) = absurd (a.0 b.0)
  one_fault single x y (inr a) (inl b) = absurd (b.0 a.0)
  one_fault single x y (inr a) (inr b) = a.1.2 ∙ (ap fault_text (same_first file_checks a.1.0 b.1.0 single a.1.1 b.1.1) ∙ sym b.1.2)

  -- and there is none where the proof is accepted
  refused_or_accepted : (x y : List ℕ) → IsRefusedWith f x → IsAcceptedLine y → ⊥
  unfolding IsFileAnswer
  refused_or_accepted x y (inl a) b = a.0 b.0.0
  refused_or_accepted x y (inr a) b = none_first file_checks a.1.0 b.0.1 a.1.1

  file_view : (s : Status) (x : List ℕ) → IsFileAnswer f s x → WorkAnswer IsAcceptedLine (IsRefusedWith f) s x
  unfolding IsFileAnswer
  file_view Done x a = inl (refl, a)
  file_view Refused x a = inr (refl, a)
  file_view Usage x a = absurd a
  file_view BadInput x a = absurd a
  file_view ReadFault x a = absurd a
  file_view WriteFault x a = absurd a
  file_view OutOfMemory x a = absurd a
  file_view TooLarge x a = absurd a

  one_verdict : HasSingleChecks f → Once (IsFileAnswer f)
  one_verdict single s t x y a b = one_work IsAcceptedLine (IsRefusedWith f) one_accepted (one_fault single) refused_or_accepted s t x y (file_view s x a) (file_view t y b)

prove_view : (bytes : List ℕ) (s : Status) (x : List ℕ) → IsProveAnswer bytes s x → TextAnswer JobWithin job_numbers IsJobAnswer bytes s x
prove_view bytes BadInput x a = inl (refl, a)
prove_view bytes Done x a = inr a
prove_view bytes Refused x a = inr a
prove_view bytes Usage x a = inr a
prove_view bytes ReadFault x a = inr a
prove_view bytes WriteFault x a = inr a
prove_view bytes OutOfMemory x a = inr a
prove_view bytes TooLarge x a = inr a

verify_view : (bytes : List ℕ) (s : Status) (x : List ℕ) → IsVerifyAnswer bytes s x → TextAnswer FileWithin file_numbers IsFileAnswer bytes s x
verify_view bytes BadInput x a = inl (refl, a)
verify_view bytes Done x a = inr a
verify_view bytes Refused x a = inr a
verify_view bytes Usage x a = inr a
verify_view bytes ReadFault x a = inr a
verify_view bytes WriteFault x a = inr a
verify_view bytes OutOfMemory x a = inr a
verify_view bytes TooLarge x a = inr a

one_prove : (bytes : List ℕ) → Once (IsProveAnswer bytes)
one_prove bytes s t x y a b = one-text IsJobAnswer job-grammar one_job bytes s t x y (prove_view bytes s x a) (prove_view bytes t y b)

one_verify : ((f : FileData) → HasSingleChecks f) → (bytes : List ℕ) → Once (IsVerifyAnswer bytes)
one_verify single bytes s t x y a b = one-text IsFileAnswer file-grammar (λ f. one_verdict f (single f)) bytes s t x y (verify_view bytes s x a) (verify_view bytes t y b)

once : ((f : FileData) → HasSingleChecks f) → (c : ChainCommand) → AnswersOnce chain_program c
once single Prove bytes s t x y a b = one_prove bytes s t x y a b
once single Verify bytes s t x y a b = one_verify single bytes s t x y a b

-- the words of the commands differ in their lengths
prove_verify : (words : List (List ℕ)) → Names words Prove → Names words Verify → ⊥
prove_verify words p q = not-both words (codes "prove") (codes "verify") (λ e. omega (arith, e)) p q

name : (words : List (List ℕ)) (c d : ChainCommand) → Names words c → Names words d → c ≡ d
name words Prove Prove p q = refl
name words Prove Verify p q = absurd (prove_verify words p q)
name words Verify Prove p q = absurd (prove_verify words q p)
name words Verify Verify p q = refl

pub one_name : (words : List (List ℕ)) → NameOneCommand chain_program words
one_name words c d p q = name words c d p q

-- the words and the bytes of an input have one status and one text
pub one_answer_of_chains : ((f : FileData) → HasSingleChecks f) → (words : List (List ℕ)) (bytes : List ℕ) → HasOneAnswer chain_program words bytes
one_answer_of_chains single words bytes = one-answer chain_program words bytes (one_name words) (once single)
