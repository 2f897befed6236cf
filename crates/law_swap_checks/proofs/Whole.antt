-- All of a batch's checks on a proof of one swap table come to `swap_checks`.
use Rattle.std.proofs.Common.{ℕ, ◌≤◌, List, [], ◌∷◌, ◌++◌, refl, sym, subst, None}
use Rattle.p3_field.specs.BabyBear.{baby_bear_ring}
use Rattle.p3_field.specs.Checks.{Check, NoneFails}
use Rattle.p3_field.specs.Quartic.{quartic_ring}
use Rattle.p3_field.specs.declared.baby_bear.BabyBear.{BabyBear}
use Rattle.p3_field.specs.declared.quartic.QuarticExtension.{QuarticExtension}
use Rattle.p3_matrix.specs.Matrix.{Rows}
use Rattle.p3_challenger.specs.declared.sha256_challenger.Sha256Challenger.{Sha256Challenger}
use Rattle.plain_pcs.specs.Scheme.{PlainCommitmentData}
use Rattle.plain_pcs.specs.declared.commitment.PlainProof.{PlainProof}
use Rattle.plain_pcs.specs.declared.error.PlainError.{PlainError}
use Rattle.batch_transcript.specs.BatchScript.{Draws}
use Rattle.batch_statement.specs.Statement.{Statement}
use Rattle.verifier_shape.specs.ShapeChecks.{shape_checks}
use Rattle.verifier_batch.specs.OpeningChecks.{shape_bounds_of, opening_checks}
use Rattle.verifier_identity.specs.TableIdentity.{terminal_check}
use Rattle.verifier_batch.specs.BatchChecks.{checks, drawn_of, draw_part, identity_part}
use Rattle.transcript_version.specs.declared.TranscriptVersion.{TranscriptVersion}
use Rattle.tool_statement.specs.Config.{tool_setting, tool_backend}
use Rattle.tool_statement.specs.StatedTables.{tool_statement}
use Rattle.tool_statement.specs.declared.table.TableStatement.TheVariants.{Swap}
use Rattle.law_swap_checks.specs.SwapShape.{SwapProof, IsSwapShape}
use Rattle.law_swap_checks.specs.SwapChecks.{Refusal, single_matrix_of, local_opened, next_opened, swap_chunk_opened, grinding_check, main_column_checks, quotient_checks, zeta_checks, checks_with, swap_checks}
use Rattle.law_swap_checks.proofs.Alike.{Alike, alike_then, alike_grouped, alike_before, alike_after, alike_append}
use Rattle.law_swap_checks.proofs.Parts.{ArePlain, parts_are, proof_of, proof_is, statement_is, swap_statement}
use Rattle.law_swap_checks.proofs.Shape.{shape_holds}
use Rattle.law_swap_checks.proofs.Grinding.{grinding_alike}
use Rattle.law_swap_checks.proofs.Opening.{opening_alike}
use Rattle.law_swap_checks.proofs.Identity.{identity_alike}

-- no terminal is there, and the sum of none is zero
terminals_hold : NoneFails (terminal_check {R = PlainError} quartic_ring (None ∷ []))
unfolding NoneFails
terminals_hold = (refl, tt)

module _ (version : TranscriptVersion) (k : ℕ) (small : k ≤ 10) (main quotient : Rows BabyBear) (local next chunk : List QuarticExtension) (opening : PlainProof) (witness : BabyBear)
    (plain : ArePlain k main quotient local next chunk) (a b x : BabyBear) where
  abbrev p : SwapProof
  p = proof_of k main quotient local next chunk opening witness

  abbrev s : Statement BabyBear (PlainCommitmentData BabyBear)
  s = swap_statement a b x

  abbrev d : Draws Sha256Challenger QuarticExtension
  d = drawn_of (tool_setting version) s p

  parts_alike : Alike (checks (tool_setting version) tool_backend s p) (checks_with d k a b x p)
  unfolding checks tool_setting
  parts_alike =
      let shape : List (Check Refusal) = shape_checks baby_bear_ring (shape_bounds_of (tool_setting version)) s p in
      let draws : List (Check Refusal) = draw_part (tool_setting version) s p in
      let openings : List (Check Refusal) = opening_checks (tool_setting version) tool_backend s p d.zeta d.opening in
      let identities : List (Check Refusal) = identity_part (tool_setting version) s p in
      let terminals : List (Check Refusal) = terminal_check quartic_ring (None ∷ []) in
      let grinding = grinding_check d.ood_passed in
      let table = main_column_checks k main d.zeta local next in
      let quotients = quotient_checks k quotient d.zeta chunk in
      let opened = table ++ quotients in
      let last = zeta_checks k (a ∷ b ∷ x ∷ []) d.alpha d.zeta local next chunk in
      alike_after (shape ++ draws ++ openings ++ identities) terminals (grinding ++ table ++ quotients ++ last) terminals_hold
      (alike_append (shape ++ draws ++ openings) (grinding ++ table ++ quotients) identities last
      (alike_then (shape ++ draws ++ openings) (grinding ++ opened) (grinding ++ table ++ quotients)
      (alike_append (shape ++ draws) grinding openings opened
      (alike_before shape draws grinding (shape_holds version k small main quotient local next chunk opening witness plain a b x)
      (grinding_alike version k main quotient local next chunk opening witness a b x))
      (opening_alike version k small main quotient local next chunk plain d.zeta opening witness a b x d.opening))
      (alike_grouped grinding table quotients))
      (identity_alike version k small main quotient local next chunk opening witness a b x d.alpha d.zeta))

pub all_alike : (version : TranscriptVersion) (k : ℕ) (a b x : BabyBear) (p : SwapProof) → k ≤ 10 → IsSwapShape k p
    → Alike (checks (tool_setting version) tool_backend (tool_statement (Swap k a b x ∷ [])) p) (swap_checks version k a b x p)
unfolding swap_checks
all_alike version k a b x p small shape =
    let Same : Statement BabyBear (PlainCommitmentData BabyBear) → SwapProof → Type 0 = λ s p. Alike (checks (tool_setting version) tool_backend s p) (checks_with (drawn_of (tool_setting version) s p) k a b x p) in
    let S : Statement BabyBear (PlainCommitmentData BabyBear) → Type 0 = λ s. Same s p in
    let P : SwapProof → Type 0 = λ p. Same (swap_statement a b x) p in
    subst S (sym (statement_is k a b x))
    (subst P (sym (proof_is k p shape))
    (parts_alike version k small (single_matrix_of p.commitments.main) (single_matrix_of p.commitments.quotient_chunks) (local_opened p) (next_opened p) (swap_chunk_opened p) p.opening_proof p.ood_pow_witness (parts_are k p shape) a b x))
