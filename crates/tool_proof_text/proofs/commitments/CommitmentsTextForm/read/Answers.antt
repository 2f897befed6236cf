use Rattle.tool_lines.specs.Laws.Stops.{handed-on, same-stops, same-reads, then-first, then-second, then-reads, own-option}
use Rattle.tool_proof_text.specs.ProofText.{commitments_numbers, CommitmentsWithin}
use Rattle.tool_proof_text.specs.Laws.Commitments.{commitment-grammar, some_commitment-grammar, quotient_parts-grammar, permutation_parts-grammar, same-commitments}
use Rattle.tool_proof_text.proofs.commitments.CommitmentsTextForm.read.Goals as goal

pub returns-in_err-main : goal.returns-in_err-main
returns-in_err-main c = handed-on (λ v. v) CommitmentsWithin commitments_numbers _ _ _ c.in_err-main.field-0.0 c.from_residual.ensures.1
    (λ m. same-stops same-commitments
    (then-first permutation_parts-grammar (c.in_err-main.ensures m)))

pub returns-in_err-permutation : goal.returns-in_err-permutation
returns-in_err-permutation c = handed-on (λ v. v) CommitmentsWithin commitments_numbers _ _ _ c.in_err-permutation.field-0.0 c.from_residual-in_err-permutation.ensures.1
    (λ m. same-stops same-commitments
    (then-second commitment-grammar c.in_ok-main.ensures
    (then-first quotient_parts-grammar (c.in_err-permutation.ensures m))))

pub returns-in_err-quotient_chunks : goal.returns-in_err-quotient_chunks
returns-in_err-quotient_chunks c = handed-on (λ v. v) CommitmentsWithin commitments_numbers _ _ _ c.in_err-quotient_chunks.field-0.0 c.from_residual-in_err-quotient_chunks.ensures.1
    (λ m. same-stops same-commitments
    (then-second commitment-grammar c.in_ok-main.ensures
    (then-second some_commitment-grammar (own-option c.in_ok-permutation.permutation c.in_ok-permutation.ensures)
    (then-first some_commitment-grammar (c.in_err-quotient_chunks.ensures m)))))

pub returns-in_err-random : goal.returns-in_err-random
returns-in_err-random c = handed-on (λ v. v) CommitmentsWithin commitments_numbers _ _ _ c.in_err-random.field-0.0 c.from_residual-in_err-random.ensures.1
    (λ m. same-stops same-commitments
    (then-second commitment-grammar c.in_ok-main.ensures
    (then-second some_commitment-grammar (own-option c.in_ok-permutation.permutation c.in_ok-permutation.ensures)
    (then-second commitment-grammar c.in_ok-quotient_chunks.ensures
    (c.in_err-random.ensures m)))))

pub returns : goal.returns
unfolding same-commitments
returns c = same-reads same-commitments
    (then-reads c.in_ok-main.ensures
    (then-reads (own-option c.in_ok-permutation.permutation c.in_ok-permutation.ensures)
    (then-reads c.in_ok-quotient_chunks.ensures (own-option c.in_ok-random.random c.in_ok-random.ensures))))
