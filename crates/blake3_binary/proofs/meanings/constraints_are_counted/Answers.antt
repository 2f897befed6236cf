use Rattle.blake3_binary.specs.Laws.Step.{counted}
use Rattle.blake3_binary.proofs.meanings.constraints_are_counted.Goals as goal

pub returns : goal.returns
returns g c = counted g.F.RingCore.ring
