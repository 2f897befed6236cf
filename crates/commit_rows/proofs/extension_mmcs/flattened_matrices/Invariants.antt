use Rattle.std.proofs.Common.{◌≡◌, map, take}
use Rattle.commit_rows.specs.Batches.{flat_rows}
use Rattle.commit_rows.proofs.extension_mmcs.flattened_matrices.Given as goal

abbrev pub invariant-loop-m : goal.invariant-loop-m
invariant-loop-m g l = l.flat.items ≡ map (flat_rows g.EF.BasedVectorSpace.coefficients g.EF.BasedVectorSpace.DIMENSION) (take l.m-index l.matrices)
