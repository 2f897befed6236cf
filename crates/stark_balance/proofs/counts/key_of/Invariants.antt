use Rattle.std.proofs.Common.{◌≡◌, ◌++◌, drop, map}
use Rattle.stark_balance.specs.Nets.{key}
use Rattle.stark_balance.proofs.counts.key_of.Given as goal

abbrev pub invariant-loop-i : goal.invariant-loop-i
invariant-loop-i g l = l.numbers.items ++ drop l.i (map g.F.PrimeCore64.canonical l.message.tuple) ≡ key g.F.PrimeCore64.canonical l.message
