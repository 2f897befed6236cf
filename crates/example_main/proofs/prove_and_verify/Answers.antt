use Rattle.std.specs.Prelude.{◌≡◌, ℕ, ◌^◌, List, length}
use Rattle.std.proofs.Common.{subst, arith}
use Rattle.p3_field.specs.Checks.{FirstFails}
use Rattle.p3_field.specs.Laws.Checks.{none_first}
use Rattle.p3_matrix.specs.Laws.Powers.{power_le_cancel}
use Rattle.plain_pcs.specs.declared.error.PlainError.{PlainError}
use Rattle.batch_statement.specs.declared.error.BatchVerificationError.{BatchVerificationError}
use Rattle.batch_statement.specs.declared.error.BatchVerificationError.TheVariants.{Verification, Lookup, Transcript}
use Rattle.batch_statement.specs.Verdict.{IsRefusal}
use Rattle.batch_setup.specs.Laws.Logarithms.{log_of_power}
use Rattle.batch_setup.specs.Setup.{log_of}
use Rattle.tool_airs.specs.Airs.{AirsProof, DrawsOutside}
use Rattle.example_air.specs.Proving.{bytes_batch}
use Rattle.example_air.specs.Statement.{PassesChecks, bytes_checks}
use Rattle.example_main.specs.Findings.{IsRefusedProof}
use Rattle.example_main.proofs.prove_and_verify.Goals as goal

-- what is refused wasn't drawn outside, since else it passes
refused_inside : (bytes : List ℕ) (k : ℕ) (p : AirsProof) (e : BatchVerificationError PlainError) → length bytes ≡ 2 ^ k
    → (DrawsOutside (bytes_batch bytes) p → PassesChecks (log_of (length bytes)) p) → FirstFails (bytes_checks k p) e → IsRefusedProof bytes k p e
refused_inside bytes k p e high passes first = record {
  first = first;
  inside = λ d. none_first (bytes_checks k p) e (subst (λ n. PassesChecks n p) (log_of_power (length bytes) k high) (passes d)) first;
}

pub verify_bytes-requires : goal.verify_bytes-requires
verify_bytes-requires c = power_le_cancel c.log2_strict_usize.result 10 (omega (arith, c.if-bytes-gt1024.false, c.log2_strict_usize.ensures))

pub returns-in-Ok-verify_bytes : goal.returns-in-Ok-verify_bytes
returns-in-Ok-verify_bytes c = (c.log2_strict_usize.result, c.in-Ok.proof, record { count = c.log2_strict_usize.ensures; honest = c.in-Ok.ensures.proved }, c.in-Ok-verify_bytes.ensures.verdict, c.in-Ok-verify_bytes.ensures.bytes)

pub returns-in-Err-Verification : goal.returns-in-Err-Verification
returns-in-Err-Verification c = (
  c.log2_strict_usize.result,
  c.in-Ok.proof,
  Verification c.in-Err-Verification.field-0-0,
  record { count = c.log2_strict_usize.ensures; honest = c.in-Ok.ensures.proved },
  refused_inside c.args.bytes.now c.log2_strict_usize.result c.in-Ok.proof (Verification c.in-Err-Verification.field-0-0) c.log2_strict_usize.ensures c.in-Ok.ensures.accepted
      (subst (λ (e : BatchVerificationError PlainError). IsRefusal (bytes_checks c.log2_strict_usize.result c.in-Ok.proof) e) c.in-Err-Verification.field-0-is c.in-Err-Verification.ensures.verdict),
)

pub returns-in-Err-Lookup : goal.returns-in-Err-Lookup
returns-in-Err-Lookup c = (
  c.log2_strict_usize.result,
  c.in-Ok.proof,
  Lookup c.in-Err-Lookup.field-0-0,
  record { count = c.log2_strict_usize.ensures; honest = c.in-Ok.ensures.proved },
  refused_inside c.args.bytes.now c.log2_strict_usize.result c.in-Ok.proof (Lookup c.in-Err-Lookup.field-0-0) c.log2_strict_usize.ensures c.in-Ok.ensures.accepted
      (subst (λ (e : BatchVerificationError PlainError). IsRefusal (bytes_checks c.log2_strict_usize.result c.in-Ok.proof) e) c.in-Err-Lookup.field-0-is c.in-Err-Lookup.ensures.verdict),
)

pub returns : goal.returns
returns c = (
  c.log2_strict_usize.result,
  c.in-Ok.proof,
  Transcript c.in-Err-Transcript.field-0-0,
  record { count = c.log2_strict_usize.ensures; honest = c.in-Ok.ensures.proved },
  refused_inside c.args.bytes.now c.log2_strict_usize.result c.in-Ok.proof (Transcript c.in-Err-Transcript.field-0-0) c.log2_strict_usize.ensures c.in-Ok.ensures.accepted
      (subst (λ (e : BatchVerificationError PlainError). IsRefusal (bytes_checks c.log2_strict_usize.result c.in-Ok.proof) e) c.in-Err-Transcript.field-0-is c.in-Err-Transcript.ensures.verdict),
)
