use Rattle.std.proofs.Common.{◌≡◌, map, take}
use Rattle.air_core.proofs.recorder.sent.bounds_of.Given as goal

abbrev pub invariant-loop-count : goal.invariant-loop-count
invariant-loop-count l = l.bounds.items ≡ map (λ c. c.bound) (take l.count-index l.counts)
