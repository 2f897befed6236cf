use Rattle.std.proofs.Common.{◌^◌, ◌∙◌, ap}
use Rattle.p3_field.specs.Laws.Tabulate.{tabulate_push}
use Rattle.verifier_shape.proofs.bounds.heights.Goals as goal

pub loop-index-preserved : goal.loop-index-preserved
loop-index-preserved c =
    c.in_ok-push.ensures.items
    ∙ tabulate_push c.loop-index.index _ _ _ c.loop-index.invariant (c.power_of_two.ensures.size ∙ ap (λ n. 2 ^ n) c.saturating_sub-log_height.ensures)
