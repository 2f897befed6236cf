use Rattle.tool_lines.specs.Laws.Stops.{handed-on, same-stops}
use Rattle.tool_jobs.specs.Jobs.{read_table}
use Rattle.tool_jobs.specs.Laws.Kinds.{KindWithin, body_numbers, same-hash}
use Rattle.tool_jobs.proofs.text.read_hash.Goals as goal

pub returns-in_err-rows : goal.returns-in_err-rows
returns-in_err-rows c = handed-on read_table (KindWithin 5) body_numbers _ _ _ c.in_err-rows.field-0.0 c.from_residual.ensures.1 (λ m. same-stops same-hash (c.in_err-rows.ensures m))
