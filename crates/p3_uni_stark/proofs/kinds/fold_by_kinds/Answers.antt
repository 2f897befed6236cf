use Rattle.p3_uni_stark.specs.Laws.Kinds.{folds_by_kinds}
use Rattle.p3_uni_stark.proofs.kinds.fold_by_kinds.Goals as goal

pub returns : goal.returns
returns g c = folds_by_kinds g.EF.RingCore.ring g.met.EF.RingCore.ring_laws
