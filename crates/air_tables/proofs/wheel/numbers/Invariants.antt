use Rattle.std.proofs.Common.{◌≡◌}
use Rattle.air_tables.specs.Wheel.{numbers_to}
use Rattle.air_tables.proofs.wheel.numbers.Given as goal

abbrev pub invariant-loop-i : goal.invariant-loop-i
invariant-loop-i g l = l.values.items ≡ numbers_to g.F.RingCore.ring l.i
