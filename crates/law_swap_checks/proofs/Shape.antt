-- No check of a batch's shape fails on a proof of one swap table.
use Rattle.std.proofs.Common.{◌≡◌, ℕ, zero, suc, ◌≤◌, List, [], ◌∷◌, length, All, refl, ap, Some, false, arith}
use Rattle.p3_field.specs.Checks.{NoneFails, in_turn}
use Rattle.p3_field.specs.BabyBear.{baby_bear_ring}
use Rattle.p3_field.specs.declared.baby_bear.BabyBear.{BabyBear}
use Rattle.p3_field.specs.declared.quartic.QuarticExtension.{QuarticExtension}
use Rattle.p3_matrix.specs.Matrix.{Rows}
use Rattle.p3_lookup.specs.Bus.{opened_below}
use Rattle.plain_pcs.specs.declared.commitment.PlainProof.{PlainProof}
use Rattle.plain_pcs.specs.declared.error.PlainError.{PlainError}
use Rattle.batch_constraints.specs.Sizing.{log_ceil}
use Rattle.batch_statement.specs.Proof.{OpenedWithLookups}
use Rattle.verifier_shape.specs.ShapeChecks.{shape_checks, table_checks}
use Rattle.batch_statement.specs.Words.{is_there}
use Rattle.verifier_batch.specs.OpeningChecks.{shape_bounds_of}
use Rattle.transcript_version.specs.declared.TranscriptVersion.{TranscriptVersion}
use Rattle.tool_statement.specs.Config.{tool_setting}
use Rattle.law_swap_checks.specs.SwapShape.{SwapProof}
use Rattle.law_swap_checks.proofs.Parts.{ArePlain, opening_of, proof_of, swap_statement}

-- a property of one item
pub all_one : {A : Type 0} (P : A → Type 0) (x : A) → P x → All P (x ∷ [])
all_one P x h zero d l = h
all_one P x h (suc i) d l = absurd (omega arith)

module _ (version : TranscriptVersion) (k : ℕ) (small : k ≤ 10) (main quotient : Rows BabyBear) (local next chunk : List QuarticExtension) (opening : PlainProof) (witness : BabyBear)
    (plain : ArePlain k main quotient local next chunk) (a b x : BabyBear) where
  abbrev p : SwapProof
  p = proof_of k main quotient local next chunk opening witness

  pub shape_holds : NoneFails (shape_checks {R = PlainError} baby_bear_ring (shape_bounds_of (tool_setting version)) (swap_statement a b x) p)
  unfolding shape_checks table_checks in_turn NoneFails log_ceil opened_below tool_setting
  shape_holds = (
    record { instances = refl; publics = refl; degree_bits = refl; terminals = refl; lookups = refl; entries = tt },
    (
      record { opened = all_one (λ (o : OpenedWithLookups QuarticExtension). is_there o.base.random ≡ false) (opening_of local next chunk) refl; committed = refl },
      (
        omega arith,
        (
          omega arith,
          (
            omega arith,
            (
              refl,
              (
                plain.local_is,
                (
                  ap Some plain.next_is,
                  (
                    refl,
                    (
                      all_one (λ c. length c ≡ 4) chunk plain.chunk_is,
                      (
                        tt,
                        (
                          refl,
                          (
                            (refl, refl),
                            (
                              refl,
                              (refl, tt),
                            ),
                          ),
                        ),
                      ),
                    ),
                  ),
                ),
              ),
            ),
          ),
        ),
      ),
    ),
  )
