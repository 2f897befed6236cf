use Rattle.std.proofs.Common.{◌∙◌}
use Rattle.p3_field.specs.Laws.Tabulate.{tabulate_push}
use Rattle.air_tables.proofs.wheel.numbers.Goals as goal

pub loop-i-preserved : goal.loop-i-preserved
loop-i-preserved g c = c.in_ok-push.ensures.items ∙ tabulate_push c.loop-i.i _ _ _ c.loop-i.invariant c.from_u64.ensures
