use Rattle.tool_lines.specs.Texts.{Unlimited, extension_numbers}
use Rattle.tool_lines.specs.Laws.Grammars.{element-grammar, two-grammar, three-grammar, same-extension}
use Rattle.tool_lines.specs.Laws.Stops.{handed-on, same-stops, then-first, then-second}
use Rattle.tool_lines.proofs.forms.QuarticExtensionForm.read.Goals as goal

pub returns-in_err-c0-clause-value : goal.returns-in_err-c0-clause-value
returns-in_err-c0-clause-value c = handed-on (λ x. x) Unlimited extension_numbers _ _ _ c.in_err-c0.field-0.0 c.from_residual.ensures.1
    (λ m. same-stops same-extension (then-first three-grammar (c.in_err-c0.ensures.value m)))

pub returns-in_err-c1-clause-value : goal.returns-in_err-c1-clause-value
returns-in_err-c1-clause-value c = handed-on (λ x. x) Unlimited extension_numbers _ _ _ c.in_err-c1.field-0.0 c.from_residual-in_err-c1.ensures.1
    (λ m. same-stops same-extension (then-second element-grammar c.in_ok-c0.ensures.value (then-first two-grammar (c.in_err-c1.ensures.value m))))

pub returns-in_err-c2-clause-value : goal.returns-in_err-c2-clause-value
returns-in_err-c2-clause-value c = handed-on (λ x. x) Unlimited extension_numbers _ _ _ c.in_err-c2.field-0.0 c.from_residual-in_err-c2.ensures.1
    (λ m. same-stops same-extension (then-second element-grammar c.in_ok-c0.ensures.value (then-second element-grammar c.in_ok-c1.ensures.value
    (then-first element-grammar (c.in_err-c2.ensures.value m)))))

pub returns-in_err-c3-clause-value : goal.returns-in_err-c3-clause-value
returns-in_err-c3-clause-value c = handed-on (λ x. x) Unlimited extension_numbers _ _ _ c.in_err-c3.field-0.0 c.from_residual-in_err-c3.ensures.1
    (λ m. same-stops same-extension (then-second element-grammar c.in_ok-c0.ensures.value (then-second element-grammar c.in_ok-c1.ensures.value
    (then-second element-grammar c.in_ok-c2.ensures.value (c.in_err-c3.ensures.value m)))))
