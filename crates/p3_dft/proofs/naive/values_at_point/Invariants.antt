use Rattle.std.proofs.Common.{◌≡◌}
use Rattle.p3_field.specs.Poly.{eval_poly, tabulate}
use Rattle.p3_matrix.specs.Matrix.{column}
use Rattle.p3_dft.proofs.naive.values_at_point.Given as goal

abbrev pub invariant-loop-j : goal.invariant-loop-j
invariant-loop-j g l = let r = g.F.RingCore.ring in
    l.values.items ≡ tabulate l.j (λ j. eval_poly r (column r.zero l.m j) l.point)
