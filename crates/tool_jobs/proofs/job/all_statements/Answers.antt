use Rattle.law_tool_valid.specs.Job.{IsJobTableWithin}
use Rattle.tool_jobs.specs.Jobs.{read_table}
use Rattle.tool_jobs.proofs.Traces.{at_item}
use Rattle.tool_jobs.proofs.job.all_statements.Goals as goal

pub statement-requires : goal.statement-requires
statement-requires c = at_item IsJobTableWithin read_table c.args.job.now c.loop-table.table-index c.table-item.result c.requires c.loop-table-test.true c.table-item.is
