use Rattle.std.proofs.Common.{◌≡◌, ◌+◌, ◌*◌, get_or}
use Rattle.p3_field.specs.Poly.{total}
use Rattle.p3_matrix.proofs.interpolation.weighted_column.Given as goal

abbrev pub invariant-loop-row : goal.invariant-loop-row
invariant-loop-row g l = let s = g.EF.RingCore.ring in
    l.sum ≡ total s l.row (λ i. s.mul (g.EF.ExtensionField.embed (get_or l.m-inside.values.items (i * l.m-inside.width + l.column) g.F.RingCore.ring.zero)) (get_or l.weights i s.zero))
