use Rattle.std.proofs.Common.{append_assoc}
use Rattle.batch_transcript.specs.Laws.Phases.{permutation_cases}
use Rattle.batch_transcript.proofs.shape.push_permutation.Goals as goal

pub returns : goal.returns
returns c =
    rw (permutation_cases c.args.dimension c.args.instances c.if-instances-eq0.false) (
    let e = rw (c.in_ok-push_message.ensures, append_assoc) at c.push_terminals.ensures in e)
