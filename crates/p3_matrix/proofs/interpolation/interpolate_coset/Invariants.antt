use Rattle.std.proofs.Common.{◌≡◌, get_or}
use Rattle.p3_field.specs.Poly.{tabulate, total}
use Rattle.p3_matrix.specs.Matrix.{height, cell_at}
use Rattle.p3_matrix.proofs.interpolation.interpolate_coset.Given as goal

abbrev pub invariant-loop-column : goal.invariant-loop-column
invariant-loop-column g l = let s = g.EF.RingCore.ring in
    l.values.items ≡ tabulate l.column (λ j. total s (height l.m) (λ i. s.mul (g.EF.ExtensionField.embed (cell_at g.F.RingCore.ring.zero l.m i j)) (get_or l.weights.items i s.zero)))
