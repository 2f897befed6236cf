use Rattle.std.proofs.Common.{◌≡◌, ◌+◌, ◌*◌}
use Rattle.p3_matrix.specs.Matrix.{row_at}
use Rattle.p3_matrix.specs.Laws.Transposed.{HasRows}
use Rattle.commit_core.proofs.split.rows_from.Given as goal

abbrev pub invariant-loop-j : goal.invariant-loop-j
invariant-loop-j g l = HasRows l.values.items l.j l.m.width (λ k row. row ≡ row_at l.m (l.first + l.stride * k))
