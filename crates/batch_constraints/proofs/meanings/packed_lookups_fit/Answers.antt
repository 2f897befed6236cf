use Rattle.air_core.specs.Shape.{declared_shape}
use Rattle.batch_constraints.specs.Laws.Packing.{packed_lookups}
use Rattle.batch_constraints.proofs.meanings.packed_lookups_fit.Goals as goal

pub returns : goal.returns
returns g c d lookups t budget own = packed_lookups g.F.RingCore.ring (declared_shape d) t budget lookups own
