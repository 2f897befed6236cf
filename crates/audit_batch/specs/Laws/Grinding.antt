-- What is named of grinding values.
use Rattle.std.proofs.Common.{◌≡◌, ℕ, zero, suc, Bool, true, false, cond, List, [], ◌∷◌, ◌++◌, ◌↔◌, Option, Some, None, refl, sym}
use Rattle.std.proofs.lemmas.List.{append-nil}
use Rattle.std.specs.Prelude.{IsTrue, is_some, not}
use Rattle.batch_transcript.specs.declared.failure.BatchTranscriptFailure.TheVariants.{LookupPowWitness, MissingLookupPowWitness, UnexpectedLookupPowWitness, NonCanonicalLookupPowWitness, OodPowWitness, NonCanonicalOodPowWitness}
use Rattle.batch_statement.specs.declared.error.BatchVerificationError.{BatchVerificationError}
use Rattle.batch_statement.specs.declared.error.BatchVerificationError.TheVariants.{Transcript}
use Rattle.p3_field.specs.Checks.{Check, check}
use Rattle.verifier_draws.specs.Draws.{ood_grinding}
use Rattle.audit_batch.specs.Asked.{always, only}
use Rattle.audit_batch.specs.Named.{AreNamedAfter}
use Rattle.audit_batch.specs.Audit.{HasWitness, lookup_asked}
use Rattle.audit_batch.specs.Laws.Naming.{after_append, after_test, after_then, after_unasked, after_where}

-- a value that is missing
abbrev no_value : (F : Type 0) → Option F
no_value F = None

module _ {F R : Type 0} (z : F) where
  -- a value where no table has lookups
  pub unexpected_named : (tables bits : ℕ) (w : Option F) (passed none : Bool) (a b : List (BatchVerificationError R)) → tables ≡ 0 → is_some w ≡ not none
      → b ≡ a ++ cond none [] (Transcript UnexpectedLookupPowWitness ∷ []) → AreNamedAfter a (lookup_asked {R = R} z tables bits w passed) b
  unexpected_named zero bits None passed true a b t n e = after_test (Transcript UnexpectedLookupPowWitness) (is_some (no_value F) ≡ false) true a b (λ _. refl, λ _. refl) e
  unexpected_named zero bits None passed false a b t n e = absurd cc
  unexpected_named zero bits (Some w) passed true a b t n e = absurd cc
  unexpected_named zero bits (Some w) passed false a b t n e = after_test (Transcript UnexpectedLookupPowWitness) (is_some (Some w) ≡ false) false a b (λ h. cc, λ h. cc) e
  unexpected_named (suc n) bits w passed none a b t m e = absurd cc

  -- none where some have
  pub missing_named : (tables bits : ℕ) (w : Option F) (passed : Bool) (a b : List (BatchVerificationError R)) → (HasWitness tables w → ⊥)
      → b ≡ a ++ cond false [] (Transcript (MissingLookupPowWitness bits) ∷ []) → AreNamedAfter a (lookup_asked {R = R} z tables bits w passed) b
  missing_named zero bits w passed a b n e = absurd (n tt)
  missing_named (suc k) bits (Some w) passed a b n e = absurd (n refl)
  missing_named (suc k) bits None passed a b n e =
      let missing = check {R = BatchVerificationError R} (Transcript (MissingLookupPowWitness bits)) (is_some (no_value F) ≡ true) in
      let rest : List (Check (BatchVerificationError R)) =
      check (Transcript NonCanonicalLookupPowWitness) (bits ≡ 0 → z ≡ z) ∷ check (Transcript (LookupPowWitness bits)) (passed ≡ true) ∷ [] in
      after_append (always (missing ∷ [])) (only (is_some (no_value F) ≡ true) (always rest)) a b b
      (after_test (Transcript (MissingLookupPowWitness bits)) (is_some (no_value F) ≡ true) false a b (λ h. cc, λ h. cc) e)
      (after_unasked (is_some (no_value F) ≡ true) (always rest) b (λ h. cc))

  -- a value that is asked for
  pub value_named : (tables bits : ℕ) (w : F) (passed canonical : Bool) (a b c : List (BatchVerificationError R)) → (tables ≡ 0 → ⊥) → (IsTrue canonical ↔ (bits ≡ 0 → w ≡ z))
      → b ≡ a ++ cond canonical [] (Transcript NonCanonicalLookupPowWitness ∷ []) → c ≡ b ++ cond passed [] (Transcript (LookupPowWitness bits) ∷ [])
      → AreNamedAfter a (lookup_asked {R = R} z tables bits (Some w) passed) c
  value_named zero bits w passed canonical a b c t h d e = absurd (t refl)
  value_named (suc n) bits w passed canonical a b c t h d e =
      let there = check {R = BatchVerificationError R} (Transcript (MissingLookupPowWitness bits)) (is_some (Some w) ≡ true) in
      let other = check {R = BatchVerificationError R} (Transcript NonCanonicalLookupPowWitness) (bits ≡ 0 → w ≡ z) in
      let test = check {R = BatchVerificationError R} (Transcript (LookupPowWitness bits)) (passed ≡ true) in
      after_append (always (there ∷ [])) (only (is_some (Some w) ≡ true) (always (other ∷ test ∷ []))) a a c
      (after_test (Transcript (MissingLookupPowWitness bits)) (is_some (Some w) ≡ true) true a a (λ _. refl, λ _. refl) (sym (append-nil a)))
      (after_where (is_some (Some w) ≡ true) (always (other ∷ test ∷ [])) a c refl
      (after_then other (test ∷ []) a b c (after_test (Transcript NonCanonicalLookupPowWitness) (bits ≡ 0 → w ≡ z) canonical a b h d)
      (after_test (Transcript (LookupPowWitness bits)) (passed ≡ true) passed b c (λ p. p, λ p. p) e)))

  -- the value before zeta
  pub ood_named : (bits : ℕ) (w : F) (passed canonical : Bool) (a b c : List (BatchVerificationError R)) → (IsTrue canonical ↔ (bits ≡ 0 → w ≡ z))
      → b ≡ a ++ cond canonical [] (Transcript NonCanonicalOodPowWitness ∷ []) → c ≡ b ++ cond passed [] (Transcript (OodPowWitness bits) ∷ [])
      → AreNamedAfter a (always (ood_grinding {R = R} z bits w passed)) c
  ood_named bits w passed canonical a b c h d e =
      let other = check {R = BatchVerificationError R} (Transcript NonCanonicalOodPowWitness) (bits ≡ 0 → w ≡ z) in
      let test = check {R = BatchVerificationError R} (Transcript (OodPowWitness bits)) (passed ≡ true) in
      after_then other (test ∷ []) a b c (after_test (Transcript NonCanonicalOodPowWitness) (bits ≡ 0 → w ≡ z) canonical a b h d)
      (after_test (Transcript (OodPowWitness bits)) (passed ≡ true) passed b c (λ p. p, λ p. p) e)
