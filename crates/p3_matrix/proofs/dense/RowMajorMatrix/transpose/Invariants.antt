use Rattle.std.proofs.Common.{◌≡◌, ◌*◌, length}
use Rattle.p3_matrix.specs.Matrix.{cell_at}
use Rattle.p3_matrix.specs.Laws.Grids.{IsGrid}
use Rattle.p3_matrix.proofs.dense.RowMajorMatrix.transpose.Given as goal

abbrev pub invariant-loop-column : goal.invariant-loop-column
invariant-loop-column g l = record {
  count : length l.values.items ≡ l.column * l.height;
  cells : (d : g.row.F.Denot) → IsGrid d l.values.items l.column l.height (λ j i. cell_at d l.self i j);
}
