use Rattle.tool_lines.specs.Laws.Stops.{handed-on, same-stops, same-reads, then-first, then-second, then-reads}
use Rattle.tool_proof_text.specs.Openings.{preprocessed_numbers, PreprocessedWithin}
use Rattle.tool_proof_text.specs.Laws.Openings.{values-grammar, some_values-grammar, same-preprocessed}
use Rattle.tool_proof_text.proofs.openings.PreprocessedTextForm.read.Goals as goal

pub returns-in_err-local : goal.returns-in_err-local
returns-in_err-local c = handed-on (λ v. v) PreprocessedWithin preprocessed_numbers _ _ _ c.in_err-local.field-0.0 c.from_residual.ensures.1
    (λ m. same-stops same-preprocessed
    (then-first some_values-grammar (c.in_err-local.ensures m)))

pub returns-in_err-next : goal.returns-in_err-next
returns-in_err-next c = handed-on (λ v. v) PreprocessedWithin preprocessed_numbers _ _ _ c.in_err-next.field-0.0 c.from_residual-in_err-next.ensures.1
    (λ m. same-stops same-preprocessed
    (then-second values-grammar c.in_ok-local.ensures
    (c.in_err-next.ensures m)))

pub returns : goal.returns
unfolding same-preprocessed
returns c = same-reads same-preprocessed
    (then-reads c.in_ok-local.ensures c.in_ok-next.ensures)
