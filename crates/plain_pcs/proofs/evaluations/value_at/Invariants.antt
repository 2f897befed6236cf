use Rattle.std.proofs.Common.{◌≡◌, ◌-◌, ◌^◌, length, map, drop}
use Rattle.plain_pcs.specs.Multilinear.{multilinear_value}
use Rattle.plain_pcs.proofs.evaluations.value_at.Given as goal

abbrev pub invariant-loop-x : goal.invariant-loop-x
invariant-loop-x g l =
    let r = g.EF.RingCore.ring in
    (length l.values.items ≡ 2 ^ (length l.point - l.x-index))
    × (multilinear_value r l.values.items (drop l.x-index l.point) ≡ multilinear_value r (map g.EF.ExtensionField.embed l.evaluations) l.point)
