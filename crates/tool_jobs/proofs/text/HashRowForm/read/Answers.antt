use Rattle.tool_lines.specs.Laws.Stops.{handed-on, same-stops}
use Rattle.law_tool_valid.specs.Job.{IsHashRow}
use Rattle.tool_jobs.specs.Jobs.{row_numbers}
use Rattle.tool_jobs.specs.Laws.Kinds.{same-row}
use Rattle.tool_jobs.proofs.text.HashRowForm.read.Goals as goal

pub returns-in_err-words : goal.returns-in_err-words
returns-in_err-words c = handed-on (λ row. row) IsHashRow row_numbers _ _ _ c.in_err-words.field-0.0 c.from_residual.ensures.1 (λ m. same-stops same-row (c.in_err-words.ensures m))
