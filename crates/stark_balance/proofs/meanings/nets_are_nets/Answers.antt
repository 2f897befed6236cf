use Rattle.stark_balance.specs.Laws.Nets.{nets_are}
use Rattle.stark_balance.proofs.meanings.nets_are_nets.Goals as goal

pub returns : goal.returns
returns g c messages = nets_are g.F.RingCore.ring g.F.PartialEq.eq g.met.F.FieldCore.eq_same g.met.F.FieldCore.same_eq g.met.F.RingCore.ring_laws messages
