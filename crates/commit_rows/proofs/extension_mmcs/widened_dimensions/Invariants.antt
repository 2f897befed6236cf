use Rattle.std.proofs.Common.{◌≡◌, map, take}
use Rattle.commit_rows.specs.Batches.{widened}
use Rattle.commit_rows.proofs.extension_mmcs.widened_dimensions.Given as goal

abbrev pub invariant-loop-d : goal.invariant-loop-d
invariant-loop-d g l = l.wide.items ≡ map (widened g.EF.BasedVectorSpace.DIMENSION) (take l.d-index l.dimensions)
