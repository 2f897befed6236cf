use Rattle.std.proofs.Common.{◌≡◌}
use Rattle.p3_field.specs.BabyBear.{baby_bear_ring}
use Rattle.p3_field.specs.Poly.{tabulate}
use Rattle.law_tool_valid.specs.Job.{wheel_cell}
use Rattle.tool_jobs.proofs.trace.wheel_trace.Given as goal

abbrev pub invariant-loop-i : goal.invariant-loop-i
invariant-loop-i l = l.values.items ≡ tabulate l.i (wheel_cell baby_bear_ring)
