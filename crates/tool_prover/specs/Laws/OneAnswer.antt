-- A job has one answer.
use Rattle.std.proofs.Common.{◌≡◌, ◌⊎◌, ℕ, inl, inr, List, [], ◌∷◌, codes, refl, sym, ◌∙◌, ap, subst, arith}
use Rattle.std.proofs.lemmas.Bool.{cases_lt}
use Rattle.p3_field.specs.BabyBear.{baby_bear_ring}
use Rattle.p3_field.specs.Laws.BabyBearField.{baby_bear_of_canonical}
use Rattle.p3_field.specs.declared.baby_bear.BabyBear.{BabyBear}
use Rattle.transcript_version.specs.declared.TranscriptVersion.{TranscriptVersion}
use Rattle.tool_lines.specs.Texts.{line_text}
use Rattle.tool_proof_files.specs.Files.{file_numbers}
use Rattle.tool_proof_text.specs.ProofText.{ToolProofData}
use Rattle.law_honest.specs.HonestProof.{AreCanonical, IsDenominatorZero, LacksLookupGround, LacksOodGround}
use Rattle.law_honest.specs.Laws.Events.{lookup_alone, one_place, zero_alone}
use Rattle.law_honest.specs.Laws.Ground.{denominator_event, lookup_event, one_built, ood_event}
use Rattle.tool_statement.specs.Config.{tool_setting}
use Rattle.tool_jobs.specs.Unbalanced.{IsFirstUnbalanced, same_word}
use Rattle.law_tool_valid.specs.Job.{IsBalancedJob, JobTable}
use Rattle.tool_verifier.specs.FileAnswer.{SameAnswer}
use Rattle.tool_verifier.specs.Refusals.{refused_text}
use Rattle.tool_verifier.specs.declared.status.Status.{Status}
use Rattle.tool_verifier.specs.declared.status.Status.TheVariants.{Done, Refused, Usage, BadInput, ReadFault, WriteFault, TooLarge, OutOfMemory}
use Rattle.tool_prover.specs.JobAnswer.{DrawsOutside, IsInsideText, IsJobAnswer, IsJobProof, IsHonestProofFile, IsRefusedText, IsUnbalancedText, IsZeroText, LacksLookupText, LacksOodText, file_of}
use Rattle.tool_prover.specs.JobBatch.{job_batch, tool_prover}

-- the numbers of the field's values
baby_bear_canonical : AreCanonical baby_bear_ring 2013265921 (λ (x : BabyBear). x.value)
baby_bear_canonical = record { ones = baby_bear_of_canonical; below = λ x. x.in_range }

module _ (version : TranscriptVersion) (job : List (JobTable BabyBear)) where
  numbers : let b = job_batch version job in AreCanonical b.setting.field.ring b.setting.order b.prover.canonical
  unfolding tool_setting tool_prover
  numbers = baby_bear_canonical

  -- the honest proof is one
  one_proof : (q r : ToolProofData) → IsJobProof version job q → IsJobProof version job r → q ≡ r
  one_proof q r A B = let b = job_batch version job in one_built b.setting b.prover b.statement b.traces b.degree_bits numbers q r A B refl

  proved_once : (x y : List ℕ) → IsHonestProofFile version job x → IsHonestProofFile version job y → x ≡ y
  proved_once x y P Q = P.text_is ∙ (ap (λ (q : ToolProofData). line_text (file_numbers (file_of version job q))) (one_proof P.proof Q.proof P.honest Q.honest) ∙ sym Q.text_is)

  -- the least unbalanced value is one
  first_once : (v w : BabyBear) → IsFirstUnbalanced job v → IsFirstUnbalanced job w → v.value ≡ w.value
  first_once v w A B = elim (cases_lt v.value w.value) [
    | inl less ↦ absurd (A.unbalanced (B.least v less))
    | inr more ↦ elim (cases_lt w.value v.value) [
      | inl less ↦ absurd (B.unbalanced (A.least w less))
      | inr same ↦ omega (arith, more, same)
    ]
  ]

  unbalanced_once : (x y : List ℕ) → IsUnbalancedText version job x → IsUnbalancedText version job y → x ≡ y
  unbalanced_once x y (v, A, e) (w, B, f) = e ∙ (ap (λ n. refused_text (codes "Unbalanced") (n ∷ [])) (first_once v w A B) ∙ sym f)

  -- and there is none where the job is balanced
  not_both : (x : List ℕ) → IsUnbalancedText version job x → IsBalancedJob same_word job → ⊥
  not_both x (v, A, e) balanced = A.unbalanced (balanced v)

  zero_once : (x y : List ℕ) → IsZeroText version job x → IsZeroText version job y → x ≡ y
  zero_once x y (i, row, A, e) (j, other, B, f) =
      let b = job_batch version job in
      let same = one_place b.setting b.prover b.statement b.traces b.degree_bits numbers i row j other A B in
      e ∙ ((λ k. refused_text (codes "LookupDenominatorZero") (same.0 k ∷ same.1 k ∷ [])) ∙ sym f)

  -- no event comes beside another, or beside a proof
  abbrev LacksLookup : Type 0
  LacksLookup = let b = job_batch version job in LacksLookupGround b.setting b.prover b.statement b.traces b.degree_bits

  abbrev LacksOod : Type 0
  LacksOod = let b = job_batch version job in LacksOodGround b.setting b.prover b.statement b.traces b.degree_bits

  abbrev IsZeroAt : ℕ → ℕ → Type 0
  IsZeroAt i row = let b = job_batch version job in IsDenominatorZero b.setting b.prover b.statement b.traces b.degree_bits i row

  lookup_or_zero : LacksLookup → (i row : ℕ) → IsZeroAt i row → ⊥
  lookup_or_zero a i row z = let b = job_batch version job in lookup_alone b.setting b.prover b.statement b.traces b.degree_bits numbers a (inl (i, row, z))

  lookup_or_ood : LacksLookup → LacksOod → ⊥
  lookup_or_ood a o = let b = job_batch version job in lookup_alone b.setting b.prover b.statement b.traces b.degree_bits numbers a (inr o)

  zero_or_ood : (i row : ℕ) → IsZeroAt i row → LacksOod → ⊥
  zero_or_ood i row z o = let b = job_batch version job in zero_alone b.setting b.prover b.statement b.traces b.degree_bits numbers (i, row, z) o

  lookup_or_proof : (q : ToolProofData) → LacksLookup → IsJobProof version job q → ⊥
  lookup_or_proof q a P = let b = job_batch version job in lookup_event b.setting b.prover b.statement b.traces b.degree_bits numbers q.lookup_pow_witness a P.lookup_ground

  zero_or_proof : (q : ToolProofData) (i row : ℕ) → IsZeroAt i row → IsJobProof version job q → ⊥
  zero_or_proof q i row z P =
      let b = job_batch version job in denominator_event b.setting b.prover b.statement b.traces b.degree_bits numbers i row q.lookup_pow_witness z P.lookup_ground P.has_fractions

  ood_or_proof : (q : ToolProofData) → LacksOod → IsJobProof version job q → ⊥
  ood_or_proof q o P =
      let b = job_batch version job in ood_event b.setting b.prover b.statement b.traces b.degree_bits numbers q.lookup_pow_witness q.ood_pow_witness o P.lookup_ground P.ood_ground

  -- so a balanced job's refusal is one,
  abbrev IsEventText : List ℕ → Type 0
  IsEventText x = LacksLookupText version job x ⊎ (IsZeroText version job x ⊎ (LacksOodText version job x ⊎ IsInsideText version job x))

  event_once : (x y : List ℕ) → IsEventText x → IsEventText y → x ≡ y
  event_once x y (inl a) (inl b) = a.1 ∙ sym b.1
  event_once x y (inl a) (inr (inl z)) = absurd (lookup_or_zero a.0 z.0 z.1 z.2)
  event_once x y (inl a) (inr (inr (inl o))) = absurd (lookup_or_ood a.0 o.0)
  event_once x y (inl a) (inr (inr (inr p))) = absurd (lookup_or_proof p.0.0 a.0 p.0.1)
  event_once x y (inr (inl z)) (inl a) = absurd (lookup_or_zero a.0 z.0 z.1 z.2)
  event_once x y (inr (inl z)) (inr (inl w)) = zero_once x y z w
  event_once x y (inr (inl z)) (inr (inr (inl o))) = absurd (zero_or_ood z.0 z.1 z.2 o.0)
  event_once x y (inr (inl z)) (inr (inr (inr p))) = absurd (zero_or_proof p.0.0 z.0 z.1 z.2 p.0.1)
  event_once x y (inr (inr (inl o))) (inl a) = absurd (lookup_or_ood a.0 o.0)
  event_once x y (inr (inr (inl o))) (inr (inl z)) = absurd (zero_or_ood z.0 z.1 z.2 o.0)
  event_once x y (inr (inr (inl o))) (inr (inr (inl w))) = o.1 ∙ sym w.1
  event_once x y (inr (inr (inl o))) (inr (inr (inr p))) = absurd (ood_or_proof p.0.0 o.0 p.0.1)
  event_once x y (inr (inr (inr p))) (inl a) = absurd (lookup_or_proof p.0.0 a.0 p.0.1)
  event_once x y (inr (inr (inr p))) (inr (inl z)) = absurd (zero_or_proof p.0.0 z.0 z.1 z.2 p.0.1)
  event_once x y (inr (inr (inr p))) (inr (inr (inl o))) = absurd (ood_or_proof p.0.0 o.0 p.0.1)
  event_once x y (inr (inr (inr p))) (inr (inr (inr r))) = p.1 ∙ sym r.1

  refused_once : (x y : List ℕ) → IsRefusedText version job x → IsRefusedText version job y → x ≡ y
  refused_once x y (inl a) (inl b) = unbalanced_once x y a b
  refused_once x y (inl a) (inr b) = absurd (not_both x a b.0)
  refused_once x y (inr a) (inl b) = absurd (not_both y b a.0)
  refused_once x y (inr a) (inr b) = event_once x y a.1 b.1

  -- and there is none beside a text that is proved
  event_or_proof : (x y : List ℕ) → IsEventText x → IsHonestProofFile version job y → ⊥
  event_or_proof x y (inl a) P = lookup_or_proof P.proof a.0 P.honest
  event_or_proof x y (inr (inl z)) P = zero_or_proof P.proof z.0 z.1 z.2 P.honest
  event_or_proof x y (inr (inr (inl o))) P = ood_or_proof P.proof o.0 P.honest
  event_or_proof x y (inr (inr (inr p))) P = p.0.2 (subst (DrawsOutside version job) (one_proof P.proof p.0.0 P.honest p.0.1) P.outside)

  refused_or_proof : (x y : List ℕ) → IsRefusedText version job x → IsHonestProofFile version job y → ⊥
  refused_or_proof x y (inl a) P = not_both x a P.balanced
  refused_or_proof x y (inr a) P = event_or_proof x y a.1 P

  pub one_answer : (s t : Status) (x y : List ℕ) → IsJobAnswer version job s x → IsJobAnswer version job t y → SameAnswer s t x y
  unfolding IsJobAnswer
  one_answer Done Done x y a b = (refl, proved_once x y a b)
  one_answer Done Refused x y a b = absurd (refused_or_proof y x b a)
  one_answer Refused Done x y a b = absurd (refused_or_proof x y a b)
  one_answer Refused Refused x y a b = (refl, refused_once x y a b)
  one_answer Done Usage x y a b = absurd b
  one_answer Done BadInput x y a b = absurd b
  one_answer Done ReadFault x y a b = absurd b
  one_answer Done WriteFault x y a b = absurd b
  one_answer Done TooLarge x y a b = absurd b
  one_answer Done OutOfMemory x y a b = absurd b
  one_answer Refused Usage x y a b = absurd b
  one_answer Refused BadInput x y a b = absurd b
  one_answer Refused ReadFault x y a b = absurd b
  one_answer Refused WriteFault x y a b = absurd b
  one_answer Refused TooLarge x y a b = absurd b
  one_answer Refused OutOfMemory x y a b = absurd b
  one_answer Usage t x y a b = absurd a
  one_answer BadInput t x y a b = absurd a
  one_answer ReadFault t x y a b = absurd a
  one_answer WriteFault t x y a b = absurd a
  one_answer TooLarge t x y a b = absurd a
  one_answer OutOfMemory t x y a b = absurd a
