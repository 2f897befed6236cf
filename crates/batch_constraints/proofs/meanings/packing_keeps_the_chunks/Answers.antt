use Rattle.batch_constraints.specs.Laws.Packing.{packing_keeps}
use Rattle.batch_constraints.proofs.meanings.packing_keeps_the_chunks.Goals as goal

pub returns : goal.returns
returns g c d trees lookups is_zk t n budget z pos own free = packing_keeps g.F.RingCore.ring d trees is_zk t n budget lookups z pos own free
