use Rattle.tool_jobs.specs.Jobs.{read_table}
use Rattle.tool_jobs.specs.Tallies.{tallies_of}
use Rattle.tool_jobs.proofs.Traces.{rows-more}
use Rattle.tool_jobs.proofs.balance.tallies_of.Goals as goal

pub loop-table-preserved : goal.loop-table-preserved
loop-table-preserved c =
    rows-more tallies_of read_table c.args.job.now c.loop-table.table-index c.table-item.result _ _ c.loop-table-test.true c.table-item.is c.loop-table.invariant
    c.in_ok-push_table.ensures
