-- What the commands answer for a job and for a proof file, from what their parts found.
use Rattle.std.proofs.Common.{◌≡◌, ℕ, ◌^◌, inl, inr, List, [], length, None, Result, Ok, Err, codes, refl, sym, ◌∙◌, ap, subst}
use Rattle.std.specs.Prelude.{IfOk, Option}
use Rattle.std.specs.declared.alloc.AllocError.{AllocError}
use Rattle.p3_field.specs.Checks.{NoneFails}
use Rattle.p3_field.specs.Quartic.{quartic_inv}
use Rattle.plain_pcs.specs.declared.error.PlainError.{PlainError}
use Rattle.plain_pcs.specs.declared.error.PlainProverError.{PlainProverError}
use Rattle.blake3_compress.specs.Generated.{input_of}
use Rattle.batch_statement.specs.Verdict.{IsRefusal}
use Rattle.batch_statement.specs.declared.error.BatchVerificationError.{BatchVerificationError}
use Rattle.batch_statement.specs.declared.error.BatchVerificationError.TheVariants.{Verification, Lookup as LookupFault, Transcript, OutOfMemory}
use Rattle.batch_transcript.specs.declared.failure.GrindStep.{GrindStep}
use Rattle.batch_transcript.specs.declared.failure.GrindStep.TheVariants.{Ood}
use Rattle.chain_air.specs.Chain.{AreEight}
use Rattle.chain_air.specs.Generated.{end_of}
use Rattle.chain_proofs.specs.Laws.Outcome.{log_is, proof_height, told_statement, words_of_end}
use Rattle.chain_proofs.specs.Statement.{HasStatedHeight, IsAcceptedProof, IsChainOutcome, IsChainRefusal, RowsAreChain, chain_statement}
use Rattle.law_committed.specs.Fields.{FieldsLaws, baby_bear_field, quartic_extension}
use Rattle.prover_answer.specs.declared.error.ProvingError.{ProvingError}
use Rattle.prover_answer.specs.declared.error.ProvingError.TheVariants.{WitnessNotFound}
use Rattle.tool_lines.specs.Texts.{line_text}
use Rattle.tool_proof_text.specs.ProofText.{ToolProofData}
use Rattle.transcript_version.specs.declared.TranscriptVersion.TheVariants.{V2}
use Rattle.tool_statement.specs.Config.{tool_backend, tool_setting}
use Rattle.tool_verifier.specs.FileAnswer.{mismatch_text}
use Rattle.tool_verifier.specs.Refusals.{fault_text, refused_text}
use Rattle.tool_verifier.specs.declared.answer.Answer.{Answer}
use Rattle.tool_verifier.specs.declared.status.Status.{Status}
use Rattle.tool_verifier.specs.declared.status.Status.TheVariants.{Done, Refused}
use Rattle.verifier_batch.specs.BatchChecks.{Accepted, FirstFault, checks}
use Rattle.stark_chain.specs.Answer.{IsFileAnswer, IsJobAnswer, IsRefusedText, file_of}
use Rattle.stark_chain.specs.Laws.Sizes.{file_within, text_short}
use Rattle.stark_chain.specs.Texts.{FileData, JobData, JobWithin, file_numbers}

module _ (job : JobData) where
  -- a refusal with this text
  refused_is : (r : Result Answer AllocError) (text : List ℕ) → IfOk r (λ a. a.status ≡ Refused) → IfOk r (λ a. a.text.items ≡ text) → IsRefusedText job text → IfOk r (λ a. IsJobAnswer job a.status a.text.items)
  unfolding IsJobAnswer
  refused_is (Ok a) text s t h = subst (λ (x : Status). IsJobAnswer job x a.text.items) (sym s) (subst (IsRefusedText job) (sym t) h)
  refused_is (Err e) text s t h = tt

  -- no number passes the grind
  pub ood_is : (step : GrindStep) (r : Result Answer AllocError) → step ≡ Ood → IsChainRefusal job.start job.blocks (WitnessNotFound step)
      → IfOk r (λ a. a.status ≡ Refused) → IfOk r (λ a. a.text.items ≡ refused_text (codes "WitnessNotFound ood") []) → IfOk r (λ a. IsJobAnswer job a.status a.text.items)
  ood_is step r w h s t = refused_is r _ s t (inl (subst (λ (x : GrindStep). IsChainRefusal job.start job.blocks (WitnessNotFound x)) w h, refl))

  -- the point lies on the rows
  pub inside_is : (o : Option ToolProofData) (r : Result Answer AllocError) → IsChainOutcome job.start job.blocks o → o ≡ None
      → IfOk r (λ a. a.status ≡ Refused) → IfOk r (λ a. a.text.items ≡ refused_text (codes "OodPointInDomain") []) → IfOk r (λ a. IsJobAnswer job a.status a.text.items)
  inside_is o r h e s t = refused_is r _ s t (inr (subst (IsChainOutcome job.start job.blocks) e h, refl))

  -- a proof
  module _ (W : JobWithin job) (q : ToolProofData) (A : IsAcceptedProof job.start job.blocks q) (log : ℕ) (size : length job.blocks ≡ 2 ^ log) (end : List ℕ) (end_is : end ≡ end_of job.start job.blocks) where
    pub stated_accepted : Accepted (tool_setting V2) tool_backend (chain_statement job.start end log) q
    stated_accepted = told_statement job.start end job.blocks log size end_is (λ s. Accepted (tool_setting V2) tool_backend s q) A.accepted

    pub stated_height : HasStatedHeight log q.degree_bits
    stated_height = proof_height job.start job.blocks log size q A.honest

    abbrev file : FileData
    file = record { log_rows = log; start = job.start; end = end; proof = q }

    same : file ≡ file_of job q
    same = λ i. record { log_rows = sym (log_is (length job.blocks) log size) i; start = job.start; end = end_is i; proof = q }

    pub proved_is : FieldsLaws baby_bear_field quartic_extension 27 quartic_inv → AreEight (input_of end) → RowsAreChain job.start end log q → (text : List ℕ) → text ≡ line_text (file_numbers file) → IsJobAnswer job Done text
    unfolding IsJobAnswer IsFileAnswer
    proved_is L eight chain text t =
        let last = words_of_end job.start end job.blocks end_is eight in
        let is : text ≡ line_text (file_numbers (file_of job q)) = t ∙ ap (λ (f : FileData). line_text (file_numbers f)) same in
        record {
          proof = q;
          honest = A.honest;
          outside = A.outside;
          within = file_within job W q A.honest L last;
          text_is = is;
          short = text_short job W q A.honest L last text is;
          accepted = subst (λ (f : FileData). IsFileAnswer f Done (codes "accepted\n")) same ((stated_height, stated_accepted), chain, refl);
        }

module _ (f : FileData) where
  -- the proof states another height
  pub mismatched : (HasStatedHeight f.log_rows f.proof.degree_bits → ⊥) → (s : Status) (x : List ℕ) → s ≡ Refused → x ≡ mismatch_text 0 → IsFileAnswer f s x
  unfolding IsFileAnswer
  mismatched other s x r t = subst (λ (u : Status). IsFileAnswer f u x) (sym r) (inl (other, t))

  module _ (height : HasStatedHeight f.log_rows f.proof.degree_bits) where
    -- no check fails
    pub accepted : NoneFails (checks (tool_setting V2) tool_backend (chain_statement f.start f.end f.log_rows) f.proof) → RowsAreChain f.start f.end f.log_rows f.proof → (x : List ℕ) → x ≡ codes "accepted\n" → IsFileAnswer f Done x
    unfolding IsFileAnswer
    accepted a chain x t = ((height, a), chain, t)

    -- one does, and is named
    first_of : (e : BatchVerificationError PlainError) → (e ≡ OutOfMemory → ⊥) → IsRefusal (checks (tool_setting V2) tool_backend (chain_statement f.start f.end f.log_rows) f.proof) e
        → FirstFault (tool_setting V2) tool_backend (chain_statement f.start f.end f.log_rows) f.proof e
    first_of (Verification e) n r = r
    first_of (LookupFault e) n r = r
    first_of (Transcript e) n r = r
    first_of OutOfMemory n r = absurd (n refl)

    pub faulted : (e : BatchVerificationError PlainError) → (e ≡ OutOfMemory → ⊥) → IsRefusal (checks (tool_setting V2) tool_backend (chain_statement f.start f.end f.log_rows) f.proof) e
        → (s : Status) (x : List ℕ) → s ≡ Refused → x ≡ fault_text e → IsFileAnswer f s x
    unfolding IsFileAnswer
    faulted e n r s x w t = subst (λ (u : Status). IsFileAnswer f u x) (sym w) (inr (height, (e, first_of e n r, t)))
