use Rattle.prover_openings.proofs.Lists.{map_tabulate_push}
use Rattle.prover_openings.proofs.points.all_main.Goals as goal

pub loop-index-preserved : goal.loop-index-preserved
loop-index-preserved g c = map_tabulate_push (λ x. x.items) c.loop-index.index _ c.loop-index.points.items _ c.in_ok-main_of_table.field-0 c.in_ok-push.ensures.items c.loop-index.invariant c.in_ok-main_of_table.ensures
