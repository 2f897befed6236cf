use Rattle.std.proofs.Common.{◌≡◌}
use Rattle.p3_field.specs.Poly.{eval_poly}
use Rattle.p3_field.specs.Domain.{coset_point}
use Rattle.p3_matrix.specs.Matrix.{column}
use Rattle.p3_matrix.specs.Laws.Grids.{IsGrid}
use Rattle.p3_dft.proofs.naive.NaiveDftRowTransform.rows_on_powers.Given as goal

abbrev pub invariant-loop : goal.invariant-loop
invariant-loop g l = let r = g.F.RingCore.ring in record {
  rows_so_far : IsGrid r.zero l.values.items l.counter l.m.width (λ i j. eval_poly r (column r.zero l.m j) (coset_point r l.fn.shift l.generator i));
  point_is : l.point ≡ coset_point r l.fn.shift l.generator l.counter;
}
