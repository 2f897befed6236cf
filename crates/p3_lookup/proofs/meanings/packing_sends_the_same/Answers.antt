use Rattle.p3_lookup.specs.Laws.Packing.{packed_same}
use Rattle.p3_lookup.proofs.meanings.packing_sends_the_same.Goals as goal

pub returns : goal.returns
returns g c t budget lookups h = packed_same g.F.RingCore.ring t budget lookups h
