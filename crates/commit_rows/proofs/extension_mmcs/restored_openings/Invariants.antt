use Rattle.std.proofs.Common.{◌≡◌, map, take}
use Rattle.std.specs.List.{flat_map}
use Rattle.commit_rows.specs.Batches.{lists}
use Rattle.commit_rows.proofs.extension_mmcs.restored_openings.Given as goal

abbrev pub invariant-loop-rows : goal.invariant-loop-rows
invariant-loop-rows g l = map (map (flat_map g.EF.BasedVectorSpace.coefficients)) (map (λ rows. lists rows.items) l.restored.items) ≡ map (λ rows. lists rows.items) (take l.rows-index l.openings)
