use Rattle.std.proofs.Common.{◌≡◌, map, take}
use Rattle.air_core.specs.Symbolic.{tree_at, tree_of}
use Rattle.air_core.proofs.recorder.sent.expressions_at.Given as goal

abbrev pub invariant-loop-place : goal.invariant-loop-place
invariant-loop-place g l = map tree_of l.expressions.items ≡ map (tree_at l.nodes) (take l.place-index l.places)
