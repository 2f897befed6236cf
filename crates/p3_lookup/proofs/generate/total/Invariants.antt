use Rattle.std.proofs.Common.{◌≡◌, drop}
use Rattle.p3_lookup.specs.Term.{sum_of}
use Rattle.p3_lookup.proofs.generate.total.Given as goal

abbrev pub invariant-loop-i : goal.invariant-loop-i
invariant-loop-i g l = l.sum ≡ sum_of g.EF.RingCore.ring (drop l.i l.values)
