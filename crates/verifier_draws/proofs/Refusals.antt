-- A transcript's refusals of grinding values are the first failing of the checks.
use Rattle.std.proofs.Common.{◌≡◌, ℕ, zero, suc, Bool, true, false, [], ◌∷◌, Option, Some, None, refl, sym, ◌∙◌, ap, inl, inr, arith}
use Rattle.p3_field.specs.Checks.{NoneFails, FirstFails}
use Rattle.p3_field.specs.Ring.{Ring}
use Rattle.p3_challenger.specs.Script.{ChallengerOf, Value, Elements, passes}
use Rattle.batch_transcript.specs.BatchScript.{is_positive, ground}
use Rattle.batch_transcript.specs.Grinding.{IsCanonicalAt, IsTaken, IsPairTaken, OodRefusal, PairRefusal}
use Rattle.batch_transcript.specs.declared.failure.BatchTranscriptFailure.{BatchTranscriptFailure}
use Rattle.batch_transcript.specs.declared.failure.BatchTranscriptFailure.TheVariants.{LookupPowWitness, MissingLookupPowWitness, UnexpectedLookupPowWitness, NonCanonicalLookupPowWitness, OodPowWitness, NonCanonicalOodPowWitness}
use Rattle.batch_statement.specs.declared.error.BatchVerificationError.TheVariants.{Transcript}
use Rattle.verifier_draws.specs.Draws.{lookup_grinding, ood_grinding}

differ : true ≡ false → ⊥
differ p = cc

-- a value that fails has bits to fail at
fails_above : {S F E M Z : Type 0} (c : ChallengerOf S F E M) (s : S) (bits : ℕ) (w : Value F E M) → passes c s bits w ≡ false → bits ≡ 0 → Z
fails_above c s zero w h q = absurd (differ h)
fails_above c s (suc n) w h q = absurd (omega (arith, q))

canonical : {F : Type 0} (f : Ring F) (bits : ℕ) (w : F) → IsCanonicalAt f bits w → bits ≡ 0 → w ≡ f.zero
canonical f zero w h q = h
canonical f (suc n) w h q = absurd (omega (arith, q))

module _ {S F E M : Type 0} (R : Type 0) (c : ChallengerOf S F E M) (f : Ring F) where
  pub refused_pair : (s : S) (n bits : ℕ) (w : Option F) (e : BatchTranscriptFailure) (passed : Bool) → (is_positive n ≡ true → passed ≡ passes c s bits (ground w))
      → PairRefusal c f s n bits w e → FirstFails (lookup_grinding {R = R} f.zero n bits w passed) (Transcript e)
  unfolding FirstFails
  refused_pair s zero bits None (LookupPowWitness b) passed t h = absurd h
  refused_pair s zero bits None (MissingLookupPowWitness b) passed t h = absurd h
  refused_pair s zero bits None UnexpectedLookupPowWitness passed t h = absurd h
  refused_pair s zero bits None NonCanonicalLookupPowWitness passed t h = absurd h
  refused_pair s zero bits None (OodPowWitness b) passed t h = absurd h
  refused_pair s zero bits None NonCanonicalOodPowWitness passed t h = absurd h
  refused_pair s zero bits (Some w) (LookupPowWitness b) passed t h = absurd h
  refused_pair s zero bits (Some w) (MissingLookupPowWitness b) passed t h = absurd h
  refused_pair s zero bits (Some w) UnexpectedLookupPowWitness passed t h = inr ((λ p. cc), refl)
  refused_pair s zero bits (Some w) NonCanonicalLookupPowWitness passed t h = absurd h
  refused_pair s zero bits (Some w) (OodPowWitness b) passed t h = absurd h
  refused_pair s zero bits (Some w) NonCanonicalOodPowWitness passed t h = absurd h
  refused_pair s (suc n) bits None (LookupPowWitness b) passed t h = absurd h
  refused_pair s (suc n) bits None (MissingLookupPowWitness b) passed t h = inr ((λ p. cc), ap (λ z. Transcript (MissingLookupPowWitness z)) h)
  refused_pair s (suc n) bits None UnexpectedLookupPowWitness passed t h = absurd h
  refused_pair s (suc n) bits None NonCanonicalLookupPowWitness passed t h = absurd h
  refused_pair s (suc n) bits None (OodPowWitness b) passed t h = absurd h
  refused_pair s (suc n) bits None NonCanonicalOodPowWitness passed t h = absurd h
  refused_pair s (suc n) bits (Some w) (LookupPowWitness b) passed t h =
      inl (refl, inl (fails_above c s bits (Elements (w ∷ [])) h.1, inr ((λ q. differ (sym q ∙ t refl ∙ h.1)), ap (λ z. Transcript (LookupPowWitness z)) h.0)))
  refused_pair s (suc n) bits (Some w) (MissingLookupPowWitness b) passed t h = absurd h
  refused_pair s (suc n) bits (Some w) UnexpectedLookupPowWitness passed t h = absurd h
  refused_pair s (suc n) bits (Some w) NonCanonicalLookupPowWitness passed t h = inl (refl, inr ((λ q. h.1 (q h.0)), refl))
  refused_pair s (suc n) bits (Some w) (OodPowWitness b) passed t h = absurd h
  refused_pair s (suc n) bits (Some w) NonCanonicalOodPowWitness passed t h = absurd h

  pub taken_pair : (s : S) (n bits : ℕ) (w : Option F) (passed : Bool) → (is_positive n ≡ true → passed ≡ passes c s bits (ground w))
      → IsPairTaken c f s n bits w → NoneFails (lookup_grinding {R = R} f.zero n bits w passed)
  unfolding NoneFails
  taken_pair s zero bits None passed t h = (refl, tt)
  taken_pair s zero bits (Some w) passed t h = absurd h
  taken_pair s (suc n) bits None passed t h = absurd h
  taken_pair s (suc n) bits (Some w) passed t h = (refl, (canonical f bits w h.canonical, (t refl ∙ h.passed, tt)))

  pub refused_ood : (s : S) (bits : ℕ) (w : F) (e : BatchTranscriptFailure) (passed : Bool) → passed ≡ passes c s bits (Elements (w ∷ []))
      → OodRefusal c f s bits w e → FirstFails (ood_grinding {R = R} f.zero bits w passed) (Transcript e)
  unfolding FirstFails
  refused_ood s bits w (LookupPowWitness b) passed t h = absurd h
  refused_ood s bits w (MissingLookupPowWitness b) passed t h = absurd h
  refused_ood s bits w UnexpectedLookupPowWitness passed t h = absurd h
  refused_ood s bits w NonCanonicalLookupPowWitness passed t h = absurd h
  refused_ood s bits w (OodPowWitness b) passed t h =
      inl (fails_above c s bits (Elements (w ∷ [])) h.1, inr ((λ q. differ (sym q ∙ t ∙ h.1)), ap (λ z. Transcript (OodPowWitness z)) h.0))
  refused_ood s bits w NonCanonicalOodPowWitness passed t h = inr ((λ q. h.1 (q h.0)), refl)

  pub taken_ood : (s : S) (bits : ℕ) (w : F) (passed : Bool) → passed ≡ passes c s bits (Elements (w ∷ []))
      → IsTaken c f s bits w → NoneFails (ood_grinding {R = R} f.zero bits w passed)
  unfolding NoneFails
  taken_ood s bits w passed t h = (canonical f bits w h.canonical, (t ∙ h.passed, tt))
