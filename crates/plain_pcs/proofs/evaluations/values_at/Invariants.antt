use Rattle.std.proofs.Common.{◌≡◌, take}
use Rattle.commit_rows.specs.Batches.{lists}
use Rattle.plain_pcs.specs.PlainMultilinear.{multilinear_values_at}
use Rattle.plain_pcs.proofs.evaluations.values_at.Given as goal

abbrev pub invariant-loop-point : goal.invariant-loop-point
invariant-loop-point g l = l.values.items ≡ multilinear_values_at g.EF.RingCore.ring g.EF.ExtensionField.embed l.evaluations (lists (take l.point-index l.points))
