use Rattle.std.proofs.Common.{◌≡◌, map, take}
use Rattle.p3_matrix.specs.Matrix.{height}
use Rattle.prover_commits.proofs.bound.heights.Given as goal

abbrev pub invariant-loop-instance : goal.invariant-loop-instance
invariant-loop-instance g l = l.heights.items ≡ map (λ i. height i.trace) (take l.instance-index l.instances)
