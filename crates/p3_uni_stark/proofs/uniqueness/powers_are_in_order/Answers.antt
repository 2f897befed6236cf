use Rattle.p3_uni_stark.specs.Laws.Folds.{powers_in_order}
use Rattle.p3_uni_stark.proofs.uniqueness.powers_are_in_order.Goals as goal

pub returns : goal.returns
returns g c a n = powers_in_order g.EF.RingCore.ring a n
