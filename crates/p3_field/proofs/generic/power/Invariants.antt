use Rattle.std.proofs.Common.{◌≡◌}
use Rattle.p3_field.specs.Ring.{pow}
use Rattle.p3_field.proofs.generic.power.Given as goal

abbrev pub invariant-loop-rest : goal.invariant-loop-rest
invariant-loop-rest g l = let r = g.F.RingCore.ring in r.mul l.power (pow r l.base l.rest) ≡ pow r l.fn.x l.fn.n

abbrev pub decreases-loop-rest : goal.decreases-loop-rest
decreases-loop-rest g l = l.rest
