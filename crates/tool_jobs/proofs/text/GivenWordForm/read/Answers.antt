use Rattle.tool_lines.specs.Laws.Grammars.{element-grammar}
use Rattle.tool_lines.specs.Laws.Stops.{handed-on, same-stops, then-first, then-second}
use Rattle.tool_jobs.specs.Jobs.{given_numbers, read_given}
use Rattle.tool_jobs.specs.Laws.Kinds.{GivenWithin, same-given, times-grammar}
use Rattle.tool_jobs.proofs.text.GivenWordForm.read.Goals as goal

pub returns-in_err-word-clause-value : goal.returns-in_err-word-clause-value
returns-in_err-word-clause-value c = handed-on read_given GivenWithin given_numbers _ _ _ c.in_err-word.field-0.0 c.from_residual.ensures.1
    (λ m. same-stops same-given (then-first times-grammar (c.in_err-word.ensures.value m)))

pub returns-in_err-count-clause-value : goal.returns-in_err-count-clause-value
returns-in_err-count-clause-value c = handed-on read_given GivenWithin given_numbers _ _ _ c.in_err-count.field-0.0 c.from_residual-in_err-count.ensures.1
    (λ m. same-stops same-given (then-second element-grammar c.in_ok-word.ensures.value c.in_err-count.ensures.1))
