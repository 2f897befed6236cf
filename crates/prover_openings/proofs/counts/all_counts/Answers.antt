use Rattle.std.proofs.Common.{◌∙◌}
use Rattle.p3_field.specs.Laws.Tabulate.{tabulate_push}
use Rattle.prover_openings.proofs.counts.all_counts.Goals as goal

pub loop-index-preserved : goal.loop-index-preserved
loop-index-preserved g c = c.in_ok-push.ensures.items ∙ tabulate_push c.loop-index.index _ c.loop-index.counts.items c.in_ok-count_at.field-0 c.loop-index.invariant c.in_ok-count_at.ensures
