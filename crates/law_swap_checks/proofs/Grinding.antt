-- The checks of the grinding values of a proof of one swap table come to the one of the value before zeta.
use Rattle.std.proofs.Common.{◌≡◌, ℕ, List, [], ◌∷◌, false, refl, arith}
use Rattle.p3_field.specs.Checks.{Check, check, NoneFails}
use Rattle.p3_field.specs.BabyBear.{baby_bear_ring}
use Rattle.p3_field.specs.declared.baby_bear.BabyBear.{BabyBear}
use Rattle.p3_field.specs.declared.quartic.QuarticExtension.{QuarticExtension}
use Rattle.p3_matrix.specs.Matrix.{Rows}
use Rattle.plain_pcs.specs.declared.commitment.PlainProof.{PlainProof}
use Rattle.plain_pcs.specs.declared.error.PlainError.{PlainError}
use Rattle.batch_transcript.specs.declared.failure.BatchTranscriptFailure.TheVariants.{UnexpectedLookupPowWitness, NonCanonicalOodPowWitness}
use Rattle.batch_statement.specs.declared.error.BatchVerificationError.TheVariants.{Transcript}
use Rattle.verifier_draws.specs.Draws.{grinding_checks}
use Rattle.verifier_batch.specs.BatchChecks.{drawn_of, draw_part}
use Rattle.transcript_version.specs.declared.TranscriptVersion.{TranscriptVersion}
use Rattle.tool_statement.specs.Config.{tool_setting}
use Rattle.law_swap_checks.specs.SwapShape.{SwapProof}
use Rattle.law_swap_checks.specs.SwapChecks.{Refusal, grinding_check}
use Rattle.law_swap_checks.proofs.Alike.{Alike, alike_same, alike_before}
use Rattle.law_swap_checks.proofs.Parts.{proof_of, swap_statement}

-- the checks before it, which hold where no value of the lookups is there
abbrev held : BabyBear → List (Check Refusal)
held witness =
    check (Transcript UnexpectedLookupPowWitness) (false ≡ false)
    ∷ check (Transcript NonCanonicalOodPowWitness) (◌≡◌ {A = ℕ} 4 0 → witness ≡ baby_bear_ring.zero)
    ∷ []

held_none : (witness : BabyBear) → NoneFails (held witness)
unfolding NoneFails
held_none witness = (refl, (λ e. absurd (omega (arith, e)), tt))

pub grinding_alike : (version : TranscriptVersion) (k : ℕ) (main quotient : Rows BabyBear) (local next chunk : List QuarticExtension) (opening : PlainProof) (witness : BabyBear) (a b x : BabyBear)
    → let p : SwapProof = proof_of k main quotient local next chunk opening witness in
    let s = swap_statement a b x in
    Alike (draw_part (tool_setting version) s p {R = PlainError}) (grinding_check (drawn_of (tool_setting version) s p).ood_passed)
unfolding grinding_checks tool_setting
grinding_alike version k main quotient local next chunk opening witness a b x =
    let p : SwapProof = proof_of k main quotient local next chunk opening witness in
    let s = swap_statement a b x in
    let last = grinding_check (drawn_of (tool_setting version) s p).ood_passed in
    alike_before (held witness) last last (held_none witness) (alike_same last)
