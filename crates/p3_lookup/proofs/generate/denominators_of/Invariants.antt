use Rattle.std.proofs.Common.{◌≡◌, map, take}
use Rattle.p3_lookup.proofs.generate.denominators_of.Given as goal

abbrev pub invariant-loop-i : goal.invariant-loop-i
invariant-loop-i g l = l.denominators.items ≡ map (λ t. t.denominator) (take l.i l.terms)
