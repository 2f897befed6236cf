use Rattle.std.proofs.Common.{◌≡◌, take}
use Rattle.p3_lookup.proofs.copying.lookup_copies.Given as goal

abbrev pub invariant-loop-i : goal.invariant-loop-i
invariant-loop-i g l = l.copies.items ≡ take l.i l.lookups
