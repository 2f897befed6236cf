use Rattle.chain_air.specs.Laws.Declared.{count_chain}
use Rattle.chain_air.proofs.meanings.constraints_are_counted.Goals as goal

pub returns : goal.returns
returns g c = count_chain g.F.RingCore.ring
