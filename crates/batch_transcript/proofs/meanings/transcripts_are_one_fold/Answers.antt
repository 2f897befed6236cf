use Rattle.batch_transcript.specs.Laws.Draws.{plays-chain, plays-same, run-draws}
use Rattle.batch_transcript.specs.Laws.Fits.{script-fits}
use Rattle.batch_transcript.specs.Laws.Runs.{tells-tests}
use Rattle.batch_transcript.proofs.meanings.transcripts_are_one_fold.Goals as goal

pub returns : goal.returns
returns g c = record {
  chain = plays-chain _;
  fold = plays-same _;
  draws = run-draws _ g.F.RingCore.ring g.EF.RingCore.ring g.EF.BasedVectorSpace.DIMENSION;
  tests = tells-tests _ g.F.RingCore.ring g.EF.RingCore.ring g.EF.BasedVectorSpace.DIMENSION;
  steps = script-fits _ _ _ g.EF.BasedVectorSpace.DIMENSION g.EF.RingCore.ring;
}
