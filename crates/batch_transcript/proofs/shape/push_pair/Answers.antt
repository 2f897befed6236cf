use Rattle.std.proofs.Common.{append_assoc}
use Rattle.batch_transcript.specs.Laws.Phases.{pair_cases}
use Rattle.batch_transcript.proofs.shape.push_pair.Goals as goal

pub returns : goal.returns
returns c =
    rw (pair_cases c.args.dimension c.args.instances c.args.bits c.if-instances-eq0.false, c.in_ok-push_challenge-2.ensures, c.in_ok-push_challenge.ensures, c.in_ok-push_pow.ensures)
    (simp append_assoc)
