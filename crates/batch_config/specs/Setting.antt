-- What fixes a verifier of batches, as plain data. After Plonky3's p3-uni-stark (StarkGenericConfig).
use Rattle.std.specs.Prelude.{ℕ, Bool, cond, List}
use Rattle.p3_field.specs.Field.{TwoAdic, Extension}
use Rattle.p3_field.specs.Domain.{CosetData}
use Rattle.p3_challenger.specs.Script.{ChallengerOf}
use Rattle.transcript_version.specs.declared.TranscriptVersion.{TranscriptVersion}
use Rattle.commit_core.specs.Claims.{CommitmentClaim}

-- Fields, challenger, bits of grinding and the transcript's version. The order is that of the field F, whose subgroups have sizes up to 2^two_adicity. Of the backend: whether it
-- masks what it commits to, and the logarithms of the fewest and of the most rows of a trace.
pub record Setting (S F E C : Type 0) : Type 0 where
  pub field : TwoAdic F
  pub two_adicity : ℕ
  pub order : ℕ
  pub extension : Extension F E
  pub challenger : ChallengerOf S F E C
  pub initial : S
  pub zk : Bool
  pub log_min : ℕ
  pub log_max : ℕ
  pub lookup_bits : ℕ
  pub ood_bits : ℕ
  pub version : TranscriptVersion

-- by how many bits the backend masks: one where it does, else zero
abbrev pub masks : {S F E C : Type 0} → Setting S F E C → ℕ
masks c = cond c.zk 1 0

-- the backend's verifier: which claims a proof opens from a challenger's state, and the first fault of a proof that doesn't open them
pub record Backend (S F E C P R : Type 0) : Type 1 where
  pub opens : S → List (CommitmentClaim E C (CosetData F)) → P → Type 0
  pub fault : S → List (CommitmentClaim E C (CosetData F)) → P → R → Type 0
