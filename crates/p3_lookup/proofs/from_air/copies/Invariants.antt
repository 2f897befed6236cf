use Rattle.std.proofs.Common.{◌≡◌, take}
use Rattle.p3_lookup.proofs.from_air.copies.Given as goal

abbrev pub invariant-loop-x : goal.invariant-loop-x
invariant-loop-x g l = l.copies.items ≡ take l.x-index l.xs
