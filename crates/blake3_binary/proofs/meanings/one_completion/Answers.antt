use Rattle.blake3_binary.specs.Laws.Completion.{one_completion}
use Rattle.blake3_binary.proofs.meanings.one_completion.Goals as goal

pub returns : goal.returns
returns g c = one_completion g.F.RingCore.ring g.met.F.RingCore.ring_laws c.requires
