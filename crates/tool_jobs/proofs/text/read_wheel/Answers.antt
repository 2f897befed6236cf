use Rattle.tool_lines.specs.Laws.Stops.{handed-on, same-stops}
use Rattle.tool_jobs.specs.Jobs.{read_table}
use Rattle.tool_jobs.specs.Laws.Kinds.{KindWithin, body_numbers, same-wheel}
use Rattle.tool_jobs.proofs.text.read_wheel.Goals as goal

pub returns-in_err-k-clause-value : goal.returns-in_err-k-clause-value
returns-in_err-k-clause-value c = handed-on read_table (KindWithin 2) body_numbers _ _ _ c.in_err-k.field-0.0 c.from_residual.ensures.1 (λ m. same-stops same-wheel c.in_err-k.ensures.1)
