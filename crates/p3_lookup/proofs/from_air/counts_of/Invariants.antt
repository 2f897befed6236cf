use Rattle.std.proofs.Common.{◌≡◌, length, map, take}
use Rattle.p3_lookup.proofs.from_air.counts_of.Given as goal

abbrev pub invariant-loop-i : goal.invariant-loop-i
invariant-loop-i g l = record {
  count : length l.counts.items ≡ l.i;
  values : map (λ c. c.value) l.counts.items ≡ take l.i l.values;
  bounds : map (λ c. c.bound) l.counts.items ≡ take l.i l.bounds;
}
