use Rattle.std.proofs.Common.{◌≡◌, ℕ}
use Rattle.verifier_shape.specs.ShapeChecks.{heights_of}
use Rattle.verifier_shape.proofs.bounds.heights.Given as goal

abbrev pub invariant-loop-index : goal.invariant-loop-index
invariant-loop-index l = l.heights.items ≡ heights_of l.masks l.degree_bits l.index
