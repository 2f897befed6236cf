use Rattle.std.proofs.Common.{◌≡◌, map, take}
use Rattle.p3_field.specs.BabyBear.{baby_bear_ring}
use Rattle.law_tool_valid.specs.Job.{trace_of}
use Rattle.tool_jobs.specs.Jobs.{read_table}
use Rattle.tool_jobs.proofs.job.traces_of.Given as goal

abbrev pub invariant-loop-table : goal.invariant-loop-table
invariant-loop-table l = l.traces.items ≡ map (trace_of baby_bear_ring) (map read_table (take l.table-index l.job))
