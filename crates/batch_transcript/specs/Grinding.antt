-- The grinding values of a batch: which the prover gives, and what the verifier refuses.
use Rattle.std.specs.Prelude.{◌≡◌, ℕ, zero, suc, ◌<◌, Bool, true, false, [], ◌∷◌, Option, Some, None}
use Rattle.p3_field.specs.Ring.{Ring, of_nat}
use Rattle.p3_challenger.specs.Grind.{IsLeast, checked_state}
use Rattle.p3_challenger.specs.Script.{ChallengerOf, Elements, passes}
use Rattle.batch_transcript.specs.declared.failure.BatchTranscriptFailure.{BatchTranscriptFailure}
use Rattle.batch_transcript.specs.declared.failure.BatchTranscriptFailure.TheVariants.{LookupPowWitness, MissingLookupPowWitness, UnexpectedLookupPowWitness, NonCanonicalLookupPowWitness, OodPowWitness, NonCanonicalOodPowWitness}
use Rattle.batch_transcript.specs.declared.failure.TranscriptError.{TranscriptError}
use Rattle.batch_transcript.specs.declared.failure.TranscriptError.TheVariants.{WitnessNotFound, Failure, OutOfMemory}

-- at zero bits the only admitted value is zero
abbrev pub IsCanonicalAt : {F : Type 0} → Ring F → ℕ → F → Type 0
IsCanonicalAt f zero w = w ≡ f.zero
IsCanonicalAt f (suc n) w = Unit {0}

module _ {S F E M : Type 0} (c : ChallengerOf S F E M) (f : Ring F) where
  -- whether a value, and whether the number n, passes the challenger's own test
  abbrev pub value_passes : S → ℕ → F → Bool
  value_passes s bits w = passes c s bits (Elements (w ∷ []))

  abbrev pub number_passes : S → ℕ → ℕ → Bool
  number_passes s bits n = value_passes s bits (of_nat f n)

  -- the value whose number is the least that passes
  abbrev pub IsGround : (F → ℕ) → S → ℕ → F → Type 0
  IsGround canonical s bits w = IsLeast (λ n. number_passes s bits n ≡ true) (canonical w)

  -- no number below the order passes
  abbrev pub NonePasses : ℕ → S → ℕ → Type 0
  NonePasses order s bits = (n : ℕ) → n < order → number_passes s bits n ≡ false

  -- the prover's lookup grinding value: none where no instance has lookups
  abbrev pub IsPairGround : (F → ℕ) → S → (n bits : ℕ) → Option F → Type 0
  IsPairGround canonical s zero bits None = Unit {0}
  IsPairGround canonical s zero bits (Some w) = ⊥
  IsPairGround canonical s (suc n) bits None = ⊥
  IsPairGround canonical s (suc n) bits (Some w) = IsGround canonical s bits w

  -- when the prover finds none
  abbrev pub LacksPairGround : ℕ → S → (n bits : ℕ) → Type 0
  LacksPairGround order s zero bits = ⊥
  LacksPairGround order s (suc n) bits = NonePasses order s bits

  -- the verifier takes the value before zeta
  pub record IsTaken (s : S) (bits : ℕ) (w : F) : Type 0 where
    pub canonical : IsCanonicalAt f bits w
    pub passed : value_passes s bits w ≡ true

  -- the verifier takes the lookup grinding value: one where instances have lookups, else none
  abbrev pub IsPairTaken : S → (n bits : ℕ) → Option F → Type 0
  IsPairTaken s zero bits None = Unit {0}
  IsPairTaken s zero bits (Some w) = ⊥
  IsPairTaken s (suc n) bits None = ⊥
  IsPairTaken s (suc n) bits (Some w) = IsTaken s bits w

  -- the verifier's refusals, each with its cause
  abbrev pub OodRefusal : S → ℕ → F → BatchTranscriptFailure → Type 0
  OodRefusal s bits w NonCanonicalOodPowWitness = (bits ≡ 0) × (w ≡ f.zero → ⊥)
  OodRefusal s bits w (OodPowWitness b) = (b ≡ bits) × (value_passes s bits w ≡ false)
  OodRefusal s bits w e = ⊥

  abbrev pub PairRefusal : S → (n bits : ℕ) → Option F → BatchTranscriptFailure → Type 0
  PairRefusal s zero bits (Some w) UnexpectedLookupPowWitness = Unit {0}
  PairRefusal s (suc n) bits None (MissingLookupPowWitness b) = b ≡ bits
  PairRefusal s (suc n) bits (Some w) NonCanonicalLookupPowWitness = (bits ≡ 0) × (w ≡ f.zero → ⊥)
  PairRefusal s (suc n) bits (Some w) (LookupPowWitness b) = (b ≡ bits) × (value_passes s bits w ≡ false)
  PairRefusal s n bits w e = ⊥

-- the state that the verifier's refusals leave: after the challenger's own test where that was made, else the old one
module _ {S F E M : Type 0} (c : ChallengerOf S F E M) where
  abbrev pub after_test : S → ℕ → F → S
  after_test s bits w = checked_state c.observe c.after_bits s bits w

  abbrev pub OodLeft : S → ℕ → F → S → BatchTranscriptFailure → Type 0
  OodLeft s bits w left NonCanonicalOodPowWitness = left ≡ s
  OodLeft s bits w left (OodPowWitness b) = left ≡ after_test s bits w
  OodLeft s bits w left e = ⊥

  abbrev pub PairLeft : S → ℕ → Option F → S → BatchTranscriptFailure → Type 0
  PairLeft s bits (Some w) left (LookupPowWitness b) = left ≡ after_test s bits w
  PairLeft s bits None left (LookupPowWitness b) = ⊥
  PairLeft s bits w left e = left ≡ s

-- a prover's lookup phase fails only where no grinding value is found or memory runs out; a verifier's where a value is
-- refused or memory runs out
abbrev pub ProverFails : Type 0 → TranscriptError → Type 0
ProverFails lacks WitnessNotFound = lacks
ProverFails lacks (Failure e) = ⊥
ProverFails lacks OutOfMemory = Unit {0}

abbrev pub VerifierFails : (BatchTranscriptFailure → Type 0) → TranscriptError → Type 0
VerifierFails refusal WitnessNotFound = ⊥
VerifierFails refusal (Failure e) = refusal e
VerifierFails refusal OutOfMemory = Unit {0}
