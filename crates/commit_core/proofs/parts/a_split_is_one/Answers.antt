use Rattle.commit_core.specs.Laws.Parts.{one_split}
use Rattle.commit_core.proofs.parts.a_split_is_one.Goals as goal

pub returns : goal.returns
returns g c m first second n i pos fills filled S T = one_split m first second n i g.F.RingCore.ring.zero pos fills filled S T
