use Rattle.std.specs.Prelude.{option_map}
use Rattle.tool_lines.specs.Texts.{OptionWithin, option_numbers}
use Rattle.tool_lines.specs.Laws.Stops.{handed-on}
use Rattle.tool_lines.proofs.Stops.{tag-stops, value-stops, one-tag}
use Rattle.tool_lines.proofs.lists.OptionForm.read.Goals as goal

pub returns-in_err-number : goal.returns-in_err-number
returns-in_err-number g c = handed-on (option_map g.T.Form.data_of) (OptionWithin g.T.Form.within) (option_numbers g.T.Form.numbers) _ _ _ c.in_err-number.field-0.0 c.from_residual.ensures.1
    (λ m. tag-stops g.T.Form.within g.T.Form.numbers _ _ c.in_err-number.ensures.1)

pub returns-in_err-read : goal.returns-in_err-read
returns-in_err-read g c = handed-on (option_map g.T.Form.data_of) (OptionWithin g.T.Form.within) (option_numbers g.T.Form.numbers) _ _ _ c.in_err-read.field-0.0 c.from_residual-in_err-read.ensures.1
    (λ m. value-stops g.T.Form.within g.T.Form.numbers _ _ _ (one-tag _ _ _ c.if-branch-eq0.false c.in_ok-number.ensures) (c.in_err-read.ensures m))
