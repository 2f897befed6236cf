use Rattle.std.proofs.Common.{◌≡◌, map, take}
use Rattle.std.specs.List.{flat_map}
use Rattle.commit_rows.specs.Batches.{lists}
use Rattle.commit_rows.proofs.extension_mmcs.flattened_openings.Given as goal

abbrev pub invariant-loop-rows : goal.invariant-loop-rows
invariant-loop-rows g l = map (λ rows. lists rows.items) l.flat.items ≡ map (map (flat_map g.EF.BasedVectorSpace.coefficients)) (map (λ rows. lists rows.items) (take l.rows-index l.openings))
