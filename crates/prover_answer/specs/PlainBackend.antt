-- The prover's side of the plain scheme, as plain data (not in Plonky3).
use Rattle.std.specs.Prelude.{◌≡◌, ◌^◌, List}
use Rattle.p3_field.specs.Domain.{CosetData, point}
use Rattle.p3_field.specs.Quartic.{quartic_inv}
use Rattle.p3_field.specs.declared.baby_bear.BabyBear.{BabyBear}
use Rattle.p3_field.specs.declared.quartic.QuarticExtension.{QuarticExtension}
use Rattle.p3_matrix.specs.Matrix.{Rows}
use Rattle.commit_core.specs.Commitments.{IsCommitment}
use Rattle.plain_pcs.specs.Extension.{Extends, commitment_of}
use Rattle.plain_pcs.specs.Holding.{AreHolding, IsMade}
use Rattle.plain_pcs.specs.Refusals.{CommitFault, ExtensionsFault, OpenFault}
use Rattle.plain_pcs.specs.Scheme.{PlainCommitmentData, Scheme}
use Rattle.plain_pcs.specs.declared.commitment.PlainProof.{PlainProof}
use Rattle.plain_pcs.specs.declared.error.PlainProverError.{PlainProverError}
use Rattle.law_honest.specs.HonestProof.{Prover}
use Rattle.prover_answer.specs.Backend.{ProverBackend}

-- the plain scheme as a prover's backend: its prover data are the matrices, its proof of openings says nothing, and it excludes no point
abbrev pub plain_prover_backend : {S F E : Type 0} → Scheme F → ProverBackend S F E (PlainCommitmentData F) (List (CosetData F × Rows F)) PlainProof PlainProverError
plain_prover_backend s = record {
  commit_fault = λ es e. CommitFault s es e;
  extension_fault = λ es n e. CommitFault s es e;
  extends = λ d m l. Extends s d m l;
  ldes_fault = λ ls e. ExtensionsFault s ls e;
  made = λ d. IsMade d;
  holds = λ d c cs. AreHolding s d c cs;
  open_fault = λ rs e. OpenFault rs e;
  proves = λ t rs p. p ≡ record {};
  excludes = λ x. ⊥;
}

-- what it commits with: a commitment to these matrices, and prover data that holds them
abbrev pub plain_commits : {F : Type 0} → Scheme F → List (CosetData F × Rows F) → PlainCommitmentData F × List (CosetData F × Rows F) → Type 0
plain_commits s es w = IsCommitment s.field.ring (λ d. 2 ^ d.log_size) (λ d i. point s.field.ring s.field.root d i) (λ ms c. c ≡ commitment_of s ms) IsMade (AreHolding s) es w

-- what fixes a prover over BabyBear and its quartic extension: inverses in the extension, a value's canonical number, and the plain scheme's commitments
abbrev pub baby_bear_prover : Scheme BabyBear → Prover BabyBear QuarticExtension (PlainCommitmentData BabyBear)
baby_bear_prover s = record { inverse = quartic_inv; canonical = λ x. x.value; commitment_of = λ es. commitment_of s es }
