use Rattle.tool_jobs.proofs.Traces.{few_rows}
use Rattle.tool_jobs.proofs.trace.rows_of.Goals as goal

pub returns-clause-few : goal.returns-clause-few
returns-clause-few c = few_rows c.args.k c.requires
