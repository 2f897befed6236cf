-- Configurations over the plain scheme, as plain data (not in Plonky3).
use Rattle.std.specs.Prelude.{◌≡◌, ℕ, false, List}
use Rattle.p3_field.specs.Domain.{CosetData}
use Rattle.p3_field.specs.Field.{TwoAdic, Extension}
use Rattle.commit_core.specs.Claims.{CommitmentClaim}
use Rattle.plain_pcs.specs.Checks.{Fault, Opens}
use Rattle.plain_pcs.specs.Scheme.{Scheme, PlainCommitmentData}
use Rattle.plain_pcs.specs.declared.error.PlainError.{PlainError}
use Rattle.batch_config.specs.Setting.{Setting, Backend}

-- the plain scheme over a configuration's field
abbrev pub plain_scheme : {S F E C : Type 0} → Setting S F E C → (log_blowup : ℕ) → Scheme F
plain_scheme c log_blowup = record { field = c.field; most = c.two_adicity; log_blowup = log_blowup }

-- The backend of the configuration is the plain scheme with this blowup: it doesn't mask, and where it opens claims, the plain scheme does.
pub record IsPlain {S F E P R : Type 0} (c : Setting S F E (PlainCommitmentData F)) (b : Backend S F E (PlainCommitmentData F) P R) (log_blowup : ℕ) : Type 0 where
  pub unmasked : c.zk ≡ false
  pub opens : (state : S) (claims : List (CommitmentClaim E (PlainCommitmentData F) (CosetData F))) (proof : P) → b.opens state claims proof
      → Opens (plain_scheme c log_blowup) c.extension.ring c.extension.embed claims

-- the plain scheme as a configuration's backend
abbrev pub plain_backend : {S F E P : Type 0} → Setting S F E (PlainCommitmentData F) → (log_blowup : ℕ) → Backend S F E (PlainCommitmentData F) P PlainError
plain_backend c log_blowup = record {
  opens = λ state claims proof. Opens (plain_scheme c log_blowup) c.extension.ring c.extension.embed claims;
  fault = λ state claims proof e. Fault (plain_scheme c log_blowup) c.extension.ring c.extension.embed claims e;
}

-- the configuration is over these fields
pub record IsOverFields {S F E C : Type 0} (f : TwoAdic F) (e : Extension F E) (two_adicity : ℕ) (c : Setting S F E C) : Type 0 where
  pub field_is : c.field ≡ f
  pub extension_is : c.extension ≡ e
  pub two_adicity_is : c.two_adicity ≡ two_adicity
