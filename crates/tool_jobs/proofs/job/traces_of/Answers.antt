use Rattle.p3_field.specs.BabyBear.{baby_bear_ring}
use Rattle.law_tool_valid.specs.Job.{IsJobTableWithin, trace_of}
use Rattle.tool_jobs.specs.Jobs.{read_table}
use Rattle.tool_jobs.proofs.Traces.{at_item, maps-more}
use Rattle.tool_jobs.proofs.job.traces_of.Goals as goal

pub trace-requires : goal.trace-requires
trace-requires c = at_item IsJobTableWithin read_table c.args.job.now c.loop-table.table-index c.table-item.result c.requires c.loop-table-test.true c.table-item.is

pub loop-table-preserved : goal.loop-table-preserved
loop-table-preserved c =
    maps-more (trace_of baby_bear_ring) read_table c.args.job.now c.loop-table.table-index c.table-item.result _ _ _ c.loop-table-test.true c.table-item.is c.loop-table.invariant
    c.in_ok-push.ensures.items c.in_ok-trace.ensures
