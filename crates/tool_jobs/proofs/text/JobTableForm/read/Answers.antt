use Rattle.tool_lines.specs.Laws.Stops.{handed-on, pair-first, same-stops}
use Rattle.law_tool_valid.specs.Job.{IsJobTableWithin}
use Rattle.tool_jobs.specs.Jobs.{read_table, table_numbers}
use Rattle.tool_jobs.specs.Laws.Kinds.{KindWithin, kind-grammar}
use Rattle.tool_jobs.specs.Laws.Texts.{same-table}
use Rattle.tool_jobs.proofs.Readings.{list-there, lists-alone, malformed-alone, table-after}
use Rattle.tool_jobs.proofs.text.JobTableForm.read.Goals as goal

pub returns-in_err-kind-clause-value : goal.returns-in_err-kind-clause-value
returns-in_err-kind-clause-value c = handed-on read_table IsJobTableWithin table_numbers _ _ _ c.in_err-kind.field-0.0 c.from_residual.ensures.1
    (λ m. same-stops same-table (pair-first KindWithin kind-grammar c.in_err-kind.ensures.1))

pub returns-in_err-kind-clause-memory : goal.returns-in_err-kind-clause-memory
returns-in_err-kind-clause-memory c = malformed-alone _ _ _ c.from_residual.ensures.1 c.in_err-kind.ensures.0

pub returns-in_err-kind-clause-list : goal.returns-in_err-kind-clause-list
returns-in_err-kind-clause-list c = malformed-alone _ _ _ c.from_residual.ensures.1 c.in_err-kind.ensures.0

pub returns-clause-value : goal.returns-clause-value
returns-clause-value c = table-after read_table _ _ _ c.in_ok-kind.kind c.read_kind.result c.in_ok-kind.ensures c.read_kind.ensures.value

pub returns-clause-memory : goal.returns-clause-memory
returns-clause-memory c = lists-alone _ _ c.in_ok-kind.kind c.read_kind.result c.in_ok-kind.ensures c.read_kind.ensures.no_memory

pub returns-clause-list : goal.returns-clause-list
returns-clause-list c = list-there _ _ c.in_ok-kind.kind c.read_kind.result c.in_ok-kind.ensures c.read_kind.ensures.no_memory
