use Rattle.tool_lines.specs.Laws.Stops.{handed-on, same-stops}
use Rattle.tool_jobs.specs.Jobs.{read_table}
use Rattle.tool_jobs.specs.Laws.Kinds.{KindWithin, body_numbers, same-take}
use Rattle.tool_jobs.proofs.text.read_take.Goals as goal

pub returns-in_err-words : goal.returns-in_err-words
returns-in_err-words c = handed-on read_table (KindWithin 3) body_numbers _ _ _ c.in_err-words.field-0.0 c.from_residual.ensures.1 (λ m. same-stops same-take (c.in_err-words.ensures m))
