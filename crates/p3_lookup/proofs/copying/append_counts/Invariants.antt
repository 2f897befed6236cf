use Rattle.std.proofs.Common.{◌≡◌, ◌++◌, take}
use Rattle.p3_lookup.proofs.copying.append_counts.Given as goal

abbrev pub invariant-loop-count : goal.invariant-loop-count
invariant-loop-count g l = l.counts.items ≡ l.initial.counts.items ++ take l.count-index l.more
