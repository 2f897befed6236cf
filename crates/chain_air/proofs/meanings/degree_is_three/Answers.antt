use Rattle.chain_air.specs.Laws.Declared.{chain_degree}
use Rattle.chain_air.proofs.meanings.degree_is_three.Goals as goal

pub returns : goal.returns
returns g c n h = chain_degree g.F.RingCore.ring n h
