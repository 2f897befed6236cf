use Rattle.prover_openings.proofs.Lists.{flat_push}
use Rattle.prover_openings.proofs.points.all_chunks.Goals as goal

pub loop-index-preserved : goal.loop-index-preserved
loop-index-preserved g c = flat_push _ c.loop-index.index _ _ c.loop-index.invariant c.in_ok-points.ensures
