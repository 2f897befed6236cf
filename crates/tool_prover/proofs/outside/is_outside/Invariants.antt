use Rattle.std.proofs.Common.{◌<◌, ℕ}
use Rattle.tool_statement.specs.StatedTables.{log_heights_of}
use Rattle.std.proofs.Common.{slice_index_or}
use Rattle.tool_prover.specs.Outside.{AvoidsRows}
use Rattle.tool_prover.proofs.outside.is_outside.Given as goal

-- the point avoids the rows of each table before this one
abbrev pub invariant-loop-table : goal.invariant-loop-table
invariant-loop-table l = (j : ℕ) → j < l.table-index → AvoidsRows l.point (slice_index_or (log_heights_of l.tables) j 0)
