use Rattle.std.proofs.Common.{◌∙◌, sym}
use Rattle.p3_field.specs.Laws.Tabulate.{tabulate_push}
use Rattle.prover_values.proofs.columns.read_periodic.Goals as goal

pub loop-column-preserved : goal.loop-column-preserved
loop-column-preserved g c =
    let z = g.F.RingCore.ring.zero in
    c.in_ok-push.ensures.items ∙ tabulate_push _ _ _ _ c.loop-column.invariant (sym (c.get.ensures z))
