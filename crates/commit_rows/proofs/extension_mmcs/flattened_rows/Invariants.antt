use Rattle.std.proofs.Common.{◌≡◌, map, take}
use Rattle.std.specs.List.{flat_map}
use Rattle.commit_rows.specs.Batches.{lists}
use Rattle.commit_rows.proofs.extension_mmcs.flattened_rows.Given as goal

abbrev pub invariant-loop-row : goal.invariant-loop-row
invariant-loop-row g l = lists l.flat.items ≡ map (flat_map g.EF.BasedVectorSpace.coefficients) (lists (take l.row-index l.rows))
