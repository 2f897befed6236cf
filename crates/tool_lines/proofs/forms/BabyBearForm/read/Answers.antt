use Rattle.tool_lines.specs.Texts.{Unlimited, element_numbers}
use Rattle.tool_lines.specs.Laws.Stops.{handed-on}
use Rattle.tool_lines.proofs.Elements.{element-stops, element-reads}
use Rattle.tool_lines.proofs.forms.BabyBearForm.read.Goals as goal

pub returns-in_err-value-clause-value : goal.returns-in_err-value-clause-value
returns-in_err-value-clause-value c = handed-on (λ x. x) Unlimited element_numbers _ _ _ c.in_err-value.field-0.0 c.from_residual.ensures.1 (λ m. element-stops _ _ c.in_err-value.ensures.1)

pub returns-clause-value : goal.returns-clause-value
returns-clause-value c = element-reads _ _ c.in_ok-value.value _ c.from_u64.ensures c.in_ok-value.ensures
