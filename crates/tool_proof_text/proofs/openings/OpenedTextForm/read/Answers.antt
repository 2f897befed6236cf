use Rattle.tool_lines.specs.Laws.Stops.{handed-on, same-stops, same-reads, then-first, then-second, then-reads, own-option}
use Rattle.tool_proof_text.specs.Openings.{opened_numbers, OpenedWithin}
use Rattle.tool_proof_text.specs.Laws.Openings.{values-grammar, some_values-grammar, chunks-grammar, some_preprocessed-grammar, chunk_parts-grammar, preprocessed_parts-grammar, next_parts-grammar, same-opened}
use Rattle.tool_proof_text.proofs.openings.OpenedTextForm.read.Goals as goal

pub returns-in_err-trace_local : goal.returns-in_err-trace_local
returns-in_err-trace_local c = handed-on (λ v. v) OpenedWithin opened_numbers _ _ _ c.in_err-trace_local.field-0.0 c.from_residual.ensures.1
    (λ m. same-stops same-opened
    (then-first next_parts-grammar (c.in_err-trace_local.ensures m)))

pub returns-in_err-trace_next : goal.returns-in_err-trace_next
returns-in_err-trace_next c = handed-on (λ v. v) OpenedWithin opened_numbers _ _ _ c.in_err-trace_next.field-0.0 c.from_residual-in_err-trace_next.ensures.1
    (λ m. same-stops same-opened
    (then-second values-grammar c.in_ok-trace_local.ensures
    (then-first preprocessed_parts-grammar (c.in_err-trace_next.ensures m))))

pub returns-in_err-preprocessed : goal.returns-in_err-preprocessed
returns-in_err-preprocessed c = handed-on (λ v. v) OpenedWithin opened_numbers _ _ _ c.in_err-preprocessed.field-0.0 c.from_residual-in_err-preprocessed.ensures.1
    (λ m. same-stops same-opened
    (then-second values-grammar c.in_ok-trace_local.ensures
    (then-second some_values-grammar c.in_ok-trace_next.ensures
    (then-first chunk_parts-grammar (c.in_err-preprocessed.ensures m)))))

pub returns-in_err-quotient_chunks : goal.returns-in_err-quotient_chunks
returns-in_err-quotient_chunks c = handed-on (λ v. v) OpenedWithin opened_numbers _ _ _ c.in_err-quotient_chunks.field-0.0 c.from_residual-in_err-quotient_chunks.ensures.1
    (λ m. same-stops same-opened
    (then-second values-grammar c.in_ok-trace_local.ensures
    (then-second some_values-grammar c.in_ok-trace_next.ensures
    (then-second some_preprocessed-grammar (own-option c.in_ok-preprocessed.preprocessed c.in_ok-preprocessed.ensures)
    (then-first some_values-grammar (c.in_err-quotient_chunks.ensures m))))))

pub returns-in_err-random : goal.returns-in_err-random
returns-in_err-random c = handed-on (λ v. v) OpenedWithin opened_numbers _ _ _ c.in_err-random.field-0.0 c.from_residual-in_err-random.ensures.1
    (λ m. same-stops same-opened
    (then-second values-grammar c.in_ok-trace_local.ensures
    (then-second some_values-grammar c.in_ok-trace_next.ensures
    (then-second some_preprocessed-grammar (own-option c.in_ok-preprocessed.preprocessed c.in_ok-preprocessed.ensures)
    (then-second chunks-grammar c.in_ok-quotient_chunks.ensures
    (c.in_err-random.ensures m))))))

pub returns : goal.returns
unfolding same-opened
returns c = same-reads same-opened
    (then-reads c.in_ok-trace_local.ensures
    (then-reads c.in_ok-trace_next.ensures
    (then-reads (own-option c.in_ok-preprocessed.preprocessed c.in_ok-preprocessed.ensures)
    (then-reads c.in_ok-quotient_chunks.ensures c.in_ok-random.ensures))))
