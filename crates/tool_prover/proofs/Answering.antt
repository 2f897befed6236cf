-- What `prove` answers, from what its parts found.
use Rattle.std.proofs.Common.{◌≡◌, ℕ, inl, inr, List, [], ◌∷◌, map, None, Some, Result, Ok, Err, codes, refl, sym, ◌∙◌, ap, subst}
use Rattle.std.specs.Prelude.{IfOk, MatchOption, Option}
use Rattle.std.specs.declared.alloc.AllocError.{AllocError}
use Rattle.p3_field.specs.declared.baby_bear.BabyBear.{BabyBear}
use Rattle.plain_pcs.specs.declared.error.PlainProverError.{PlainProverError}
use Rattle.batch_transcript.specs.declared.failure.GrindStep.{GrindStep}
use Rattle.batch_transcript.specs.declared.failure.GrindStep.TheVariants.{Lookup, Ood}
use Rattle.prover_answer.specs.declared.error.ProvingError.{ProvingError}
use Rattle.prover_answer.specs.declared.error.ProvingError.TheVariants.{LookupDenominatorZero, WitnessNotFound}
use Rattle.transcript_version.specs.declared.TranscriptVersion.{TranscriptVersion}
use Rattle.tool_lines.specs.Texts.{line_text}
use Rattle.tool_proof_files.specs.Files.{FileWithin, file_numbers, version_number}
use Rattle.tool_proof_text.specs.ProofText.{ToolProofData}
use Rattle.tool_jobs.specs.Jobs.{JobWithin}
use Rattle.tool_jobs.specs.Stated.{statement_of}
use Rattle.tool_jobs.specs.Unbalanced.{IsFirstUnbalanced, same_word}
use Rattle.tool_statement.specs.declared.table.TableStatement.{TableStatement}
use Rattle.law_tool_valid.specs.Job.{IsBalancedJob, JobTable}
use Rattle.tool_verifier.specs.Refusals.{refused_text}
use Rattle.tool_verifier.specs.declared.answer.Answer.{Answer}
use Rattle.tool_verifier.specs.declared.status.Status.{Status}
use Rattle.tool_verifier.specs.declared.status.Status.TheVariants.{Done, Refused}
use Rattle.tool_prover.specs.JobAnswer.{IsJobAnswer, IsProvingOutcome, IsRefusedText, IsTold}
use Rattle.tool_prover.specs.Laws.Within.{job_proof_within}

module _ (version : TranscriptVersion) (job : List (JobTable BabyBear)) where
  -- a refusal with this text
  refused_is : (r : Result Answer AllocError) (text : List ℕ) → IfOk r (λ a. a.status ≡ Refused) → IfOk r (λ a. a.text.items ≡ text) → IsRefusedText version job text → IfOk r (λ a. IsJobAnswer version job a.status a.text.items)
  unfolding IsJobAnswer
  refused_is (Ok a) text s t h = subst (λ (x : Status). IsJobAnswer version job x a.text.items) (sym s) (subst (IsRefusedText version job) (sym t) h)
  refused_is (Err e) text s t h = tt

  -- a value that is unbalanced
  pub unbalanced_is : (o : Option BabyBear) (v : BabyBear) (n : ℕ) (r : Result Answer AllocError) → MatchOption o (IsBalancedJob same_word job) (IsFirstUnbalanced job) → o ≡ Some v → n ≡ v.value → IfOk r (λ a. a.status ≡ Refused) → IfOk r (λ a. a.text.items ≡ refused_text (codes "Unbalanced") (n ∷ []))
      → IfOk r (λ a. IsJobAnswer version job a.status a.text.items)
  unbalanced_is o v n r F w e s t = refused_is r (refused_text (codes "Unbalanced") (n ∷ [])) s t (inl (v, subst (λ (p : Option BabyBear). MatchOption p (IsBalancedJob same_word job) (IsFirstUnbalanced job)) w F, ap (λ m. refused_text (codes "Unbalanced") (m ∷ [])) e))

  -- no value is
  pub balanced_is : (o : Option BabyBear) → MatchOption o (IsBalancedJob same_word job) (IsFirstUnbalanced job) → o ≡ None → IsBalancedJob same_word job
  balanced_is o F e = subst (λ (p : Option BabyBear). MatchOption p (IsBalancedJob same_word job) (IsFirstUnbalanced job)) e F

  module _ (balanced : IsBalancedJob same_word job) where
    -- an event, as the error says
    told_as : (e f : ProvingError PlainProverError) → e ≡ f → IsTold version job e → IsTold version job f
    told_as e f q h = subst (IsTold version job) q h

    pub lookup_is : (step : GrindStep) (r : Result Answer AllocError) → step ≡ Lookup → IsTold version job (WitnessNotFound step)
        → IfOk r (λ a. a.status ≡ Refused) → IfOk r (λ a. a.text.items ≡ refused_text (codes "WitnessNotFound lookup") []) → IfOk r (λ a. IsJobAnswer version job a.status a.text.items)
    lookup_is step r w h s t = refused_is r _ s t (inr (balanced, inl (told_as (WitnessNotFound step) (WitnessNotFound Lookup) (ap WitnessNotFound w) h, refl)))

    pub ood_is : (step : GrindStep) (r : Result Answer AllocError) → step ≡ Ood → IsTold version job (WitnessNotFound step)
        → IfOk r (λ a. a.status ≡ Refused) → IfOk r (λ a. a.text.items ≡ refused_text (codes "WitnessNotFound ood") []) → IfOk r (λ a. IsJobAnswer version job a.status a.text.items)
    ood_is step r w h s t = refused_is r _ s t (inr (balanced, inr (inr (inl (told_as (WitnessNotFound step) (WitnessNotFound Ood) (ap WitnessNotFound w) h, refl)))))

    pub zero_is : (e : ProvingError PlainProverError) (i row : ℕ) (r : Result Answer AllocError) → e ≡ LookupDenominatorZero i row → IsTold version job e
        → IfOk r (λ a. a.status ≡ Refused) → IfOk r (λ a. a.text.items ≡ refused_text (codes "LookupDenominatorZero") (i ∷ row ∷ [])) → IfOk r (λ a. IsJobAnswer version job a.status a.text.items)
    zero_is e i row r q h s t = refused_is r _ s t (inr (balanced, inr (inl (i, row, told_as e (LookupDenominatorZero i row) q h, refl))))

    pub inside_is : (o : Option ToolProofData) (r : Result Answer AllocError) → IsProvingOutcome version job o → o ≡ None
        → IfOk r (λ a. a.status ≡ Refused) → IfOk r (λ a. a.text.items ≡ refused_text (codes "OodPointInDomain") []) → IfOk r (λ a. IsJobAnswer version job a.status a.text.items)
    inside_is o r h e s t = refused_is r _ s t (inr (balanced, inr (inr (inr (subst (IsProvingOutcome version job) e h, refl)))))

    -- a proof
    pub within_is : JobWithin job → (n : ℕ) (tables : List TableStatement) (q : ToolProofData) → n ≡ version_number version → tables ≡ map statement_of job
        → IsProvingOutcome version job (Some q) → FileWithin (record { version = n; tables = tables; proof = q })
    within_is within n tables q v e h =
        subst (λ (m : ℕ). FileWithin (record { version = m; tables = tables; proof = q })) (sym v)
        (subst (λ (ts : List TableStatement). FileWithin (record { version = version_number version; tables = ts; proof = q })) (sym e) (job_proof_within version job within q h.0))

    pub proved_is : JobWithin job → (n : ℕ) (tables : List TableStatement) (q : ToolProofData) (text : List ℕ) → n ≡ version_number version → tables ≡ map statement_of job
        → IsProvingOutcome version job (Some q) → text ≡ line_text (file_numbers (record { version = n; tables = tables; proof = q })) → IsJobAnswer version job Done text
    unfolding IsJobAnswer
    proved_is within n tables q text v e h t = record {
      balanced = balanced;
      proof = q;
      honest = h.0;
      outside = h.1;
      within = job_proof_within version job within q h.0;
      text_is = t ∙ λ i. line_text (file_numbers (record { version = v i; tables = e i; proof = q }));
      accepted = h.2;
    }
