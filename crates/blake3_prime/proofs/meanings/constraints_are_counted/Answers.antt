use Rattle.blake3_prime.specs.Laws.Count.{count_all}
use Rattle.blake3_prime.proofs.meanings.constraints_are_counted.Goals as goal

pub returns : goal.returns
returns g c = count_all g.F.RingCore.ring
