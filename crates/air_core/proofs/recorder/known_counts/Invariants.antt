use Rattle.std.proofs.Common.{◌≡◌, map, take}
use Rattle.air_core.specs.Recording.{count_or_zero}
use Rattle.air_core.proofs.recorder.known_counts.Given as goal

abbrev pub invariant-loop-x : goal.invariant-loop-x
invariant-loop-x l = l.counts.items ≡ map (count_or_zero l.count) (take l.x-index l.xs)
