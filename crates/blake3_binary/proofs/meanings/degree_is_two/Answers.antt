use Rattle.blake3_binary.specs.Laws.Degree.{degree_two}
use Rattle.blake3_binary.proofs.meanings.degree_is_two.Goals as goal

pub returns : goal.returns
returns g c n = degree_two g.F.RingCore.ring n
