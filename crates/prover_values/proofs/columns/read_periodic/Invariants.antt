use Rattle.std.proofs.Common.{◌≡◌, ◌%◌}
use Rattle.p3_field.specs.Poly.{tabulate}
use Rattle.p3_matrix.specs.Matrix.{height, cell_at}
use Rattle.prover_values.proofs.columns.read_periodic.Given as goal

abbrev pub invariant-loop-column : goal.invariant-loop-column
invariant-loop-column g l = l.values.items ≡ tabulate l.column (λ j. cell_at g.F.RingCore.ring.zero l.table (l.fn.row % height l.table) j)
