use Rattle.std.proofs.Common.{◌≡◌, map, take}
use Rattle.air_core.specs.Symbolic.{tree_of}
use Rattle.air_core.specs.Recording.{trees_at, asserted_in}
use Rattle.air_core.proofs.recorder.read.expressions.Given as goal

abbrev pub invariant-loop-assertion : goal.invariant-loop-assertion
invariant-loop-assertion g l = map tree_of l.expressions.items ≡ trees_at l.nodes (asserted_in l.in_extension (take l.assertion-index l.asserted))
