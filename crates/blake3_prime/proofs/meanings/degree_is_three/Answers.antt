use Rattle.blake3_prime.specs.Laws.Degree.{degree_three}
use Rattle.blake3_prime.proofs.meanings.degree_is_three.Goals as goal

pub returns : goal.returns
returns g c n = degree_three g.F.RingCore.ring n
