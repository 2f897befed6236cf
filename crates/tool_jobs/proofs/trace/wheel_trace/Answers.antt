use Rattle.std.proofs.Common.{◌∙◌}
use Rattle.p3_field.specs.BabyBear.{baby_bear_ring}
use Rattle.p3_field.specs.Laws.Tabulate.{tabulate_push}
use Rattle.law_tool_valid.specs.Job.{wheel_cell}
use Rattle.tool_jobs.proofs.trace.wheel_trace.Goals as goal

pub loop-i-preserved : goal.loop-i-preserved
loop-i-preserved c =
    c.in_ok-push.ensures.items
    ∙ tabulate_push c.loop-i.i (wheel_cell baby_bear_ring) _ _ c.loop-i.invariant (c.mul.ensures ∙ λ j. baby_bear_ring.mul (c.from_u64.ensures j) (c.turn.ensures j))
