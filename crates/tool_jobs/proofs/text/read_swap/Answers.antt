use Rattle.tool_lines.specs.Laws.Grammars.{element-grammar, two-grammar}
use Rattle.tool_lines.specs.Laws.Stops.{handed-on, same-stops, then-first, then-second}
use Rattle.tool_jobs.specs.Jobs.{read_table}
use Rattle.tool_jobs.specs.Laws.Kinds.{KindWithin, body_numbers, log_rows-grammar, same-swap}
use Rattle.tool_jobs.proofs.text.read_swap.Goals as goal

pub returns-in_err-k-clause-value : goal.returns-in_err-k-clause-value
returns-in_err-k-clause-value c = handed-on read_table (KindWithin 1) body_numbers _ _ _ c.in_err-k.field-0.0 c.from_residual.ensures.1
    (λ m. same-stops same-swap (then-first two-grammar c.in_err-k.ensures.1))

pub returns-in_err-a-clause-value : goal.returns-in_err-a-clause-value
returns-in_err-a-clause-value c = handed-on read_table (KindWithin 1) body_numbers _ _ _ c.in_err-a.field-0.0 c.from_residual-in_err-a.ensures.1
    (λ m. same-stops same-swap (then-second log_rows-grammar c.in_ok-k.ensures (then-first element-grammar (c.in_err-a.ensures.value m))))

pub returns-in_err-b-clause-value : goal.returns-in_err-b-clause-value
returns-in_err-b-clause-value c = handed-on read_table (KindWithin 1) body_numbers _ _ _ c.in_err-b.field-0.0 c.from_residual-in_err-b.ensures.1
    (λ m. same-stops same-swap (then-second log_rows-grammar c.in_ok-k.ensures (then-second element-grammar c.in_ok-a.ensures.value (c.in_err-b.ensures.value m))))
