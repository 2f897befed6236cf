use Rattle.std.proofs.Common.{◌≡◌, ℕ, List, sym, subst}
use Rattle.p3_field.specs.declared.baby_bear.BabyBear.{BabyBear as Element}
use Rattle.plain_pcs.specs.Scheme.{PlainCommitmentData}
use Rattle.tool_lines.specs.Texts.{Reads}
use Rattle.tool_lines.specs.Laws.Stops.{handed-on, same-stops, same-reads, own-items}
use Rattle.tool_proof_text.specs.ProofText.{CommitmentWithin, commitment_numbers}
use Rattle.tool_proof_text.specs.Laws.Commitments.{same-commitment}
use Rattle.tool_proof_text.proofs.commitments.CommitmentTextForm.read.Goals as goal

pub returns-in_err-matrices : goal.returns-in_err-matrices
returns-in_err-matrices c = handed-on (λ v. v) CommitmentWithin commitment_numbers _ _ _ c.in_err-matrices.field-0.0 c.from_residual.ensures.1
    (λ m. same-stops same-commitment (c.in_err-matrices.ensures m))

-- a reading of a commitment's matrices is one of what is made of them
made_of : (before after : List ℕ) (made read : PlainCommitmentData Element) → made ≡ read
    → Reads CommitmentWithin commitment_numbers before after read → Reads CommitmentWithin commitment_numbers before after made
made_of before after made read e r = subst (λ (m : PlainCommitmentData Element). Reads CommitmentWithin commitment_numbers before after m) (sym e) r

pub returns : goal.returns
unfolding same-commitment
returns c = made_of _ _ _ _ c.in_ok-commitment.ensures (same-reads same-commitment (own-items c.in_ok-matrices.matrices.items c.in_ok-matrices.ensures))
