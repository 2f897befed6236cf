use Rattle.batch_transcript.specs.Laws.Landed.{single-pattern, single-script}
use Rattle.batch_transcript.proofs.meanings.single_batch.Goals as goal

pub returns : goal.returns
returns g c = record {
  steps = single-pattern g.EF.BasedVectorSpace.DIMENSION;
  values = single-script _ g.EF.RingCore.ring g.EF.BasedVectorSpace.coefficients g.EF.BasedVectorSpace.DIMENSION;
}
