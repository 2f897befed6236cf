use Rattle.std.proofs.Common.{◌≡◌, ◌^◌}
use Rattle.p3_field.specs.Ring.{pow}
use Rattle.p3_field.proofs.generic.repeated_square.Given as goal

abbrev pub invariant-loop : goal.invariant-loop
invariant-loop g l = l.power ≡ pow g.F.RingCore.ring l.fn.x (2 ^ l.counter)
