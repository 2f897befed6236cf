use Rattle.air_gadgets.specs.Laws.Bits.{xor_means, xor_tells}
use Rattle.air_gadgets.proofs.meanings.xor_means.Goals as goal

pub returns-clause-numbers : goal.returns-clause-numbers
returns-clause-numbers g c at at_ext = xor_means g.F.RingCore.ring g.met.F.RingCore.ring_laws at at_ext

pub returns-clause-values : goal.returns-clause-values
returns-clause-values g c at at_ext s t h k = xor_tells g.F.RingCore.ring g.met.F.RingCore.ring_laws g.met.F.FieldCore.field_laws.one_differs _ _ h k
