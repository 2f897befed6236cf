use Rattle.std.proofs.Common.{◌≡◌, map, take}
use Rattle.air_core.specs.Symbolic.{tree_at, tree_of}
use Rattle.air_core.proofs.recorder.sent.counts_at.Given as goal

abbrev pub invariant-loop-count : goal.invariant-loop-count
invariant-loop-count g l = map tree_of l.expressions.items ≡ map (λ c. tree_at l.nodes c.value) (take l.count-index l.counts)
