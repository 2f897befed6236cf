use Rattle.std.proofs.Common.{◌<◌}
use Rattle.std.specs.Prelude.{All}
use Rattle.std.specs.Int.{IsPowerOfTwo}
use Rattle.p3_matrix.specs.Matrix.{height}
use Rattle.cases_commit.proofs.rows.columns_of.Given as goal

abbrev pub invariant-loop-list : goal.invariant-loop-list
invariant-loop-list g l = All (λ m. IsPowerOfTwo (height m)) l.columns.items × All (λ m. m.width < 65536) l.columns.items
