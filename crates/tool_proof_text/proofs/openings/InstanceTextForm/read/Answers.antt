use Rattle.tool_lines.specs.Laws.Stops.{handed-on, same-stops, same-reads, then-first, then-second, then-reads}
use Rattle.tool_proof_text.specs.Openings.{instance_numbers, InstanceWithin}
use Rattle.tool_proof_text.specs.Laws.Openings.{values-grammar, opened-grammar, permutation-grammar, same-instance}
use Rattle.tool_proof_text.proofs.openings.InstanceTextForm.read.Goals as goal

pub returns-in_err-base_opened_values : goal.returns-in_err-base_opened_values
returns-in_err-base_opened_values c = handed-on (λ v. v) InstanceWithin instance_numbers _ _ _ c.in_err-base_opened_values.field-0.0 c.from_residual.ensures.1
    (λ m. same-stops same-instance
    (then-first permutation-grammar (c.in_err-base_opened_values.ensures m)))

pub returns-in_err-permutation_local : goal.returns-in_err-permutation_local
returns-in_err-permutation_local c = handed-on (λ v. v) InstanceWithin instance_numbers _ _ _ c.in_err-permutation_local.field-0.0 c.from_residual-in_err-permutation_local.ensures.1
    (λ m. same-stops same-instance
    (then-second opened-grammar c.in_ok-base_opened_values.ensures
    (then-first values-grammar (c.in_err-permutation_local.ensures m))))

pub returns-in_err-permutation_next : goal.returns-in_err-permutation_next
returns-in_err-permutation_next c = handed-on (λ v. v) InstanceWithin instance_numbers _ _ _ c.in_err-permutation_next.field-0.0 c.from_residual-in_err-permutation_next.ensures.1
    (λ m. same-stops same-instance
    (then-second opened-grammar c.in_ok-base_opened_values.ensures
    (then-second values-grammar c.in_ok-permutation_local.ensures
    (c.in_err-permutation_next.ensures m))))

pub returns : goal.returns
unfolding same-instance
returns c = same-reads same-instance
    (then-reads c.in_ok-base_opened_values.ensures
    (then-reads c.in_ok-permutation_local.ensures c.in_ok-permutation_next.ensures))
