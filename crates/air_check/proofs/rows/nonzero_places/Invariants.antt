use Rattle.air_check.specs.Laws.Nonzero.{NonzeroBelow}
use Rattle.air_check.proofs.rows.nonzero_places.Given as goal

abbrev pub invariant-loop-i : goal.invariant-loop-i
invariant-loop-i g l = NonzeroBelow g.F.RingCore.ring l.values l.i l.places.items
