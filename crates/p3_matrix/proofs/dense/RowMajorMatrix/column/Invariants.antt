use Rattle.std.proofs.Common.{◌≡◌, ◌+◌, ◌*◌, length, get_or}
use Rattle.p3_field.specs.Poly.{tabulate}
use Rattle.p3_matrix.proofs.dense.RowMajorMatrix.column.Given as goal

abbrev pub invariant-loop-row : goal.invariant-loop-row
invariant-loop-row g l = record {
  count : length l.values.items ≡ l.row;
  items : (d : g.row.F.Denot) → l.values.items ≡ tabulate l.row (λ i. get_or l.self-inside.values.items (i * l.self-inside.width + l.column) d);
}
