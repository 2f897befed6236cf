use Rattle.prover_openings.proofs.Lists.{map_tabulate_push}
use Rattle.prover_openings.proofs.points.all_preprocessed.Goals as goal

pub loop-m-preserved : goal.loop-m-preserved
loop-m-preserved g c = map_tabulate_push (λ x. x.items) c.loop-m.m _ c.loop-m.points.items _ c.in_ok-preprocessed_of_table.field-0 c.in_ok-push.ensures.items c.loop-m.invariant c.in_ok-preprocessed_of_table.ensures
