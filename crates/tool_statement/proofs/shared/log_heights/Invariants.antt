use Rattle.std.proofs.Common.{◌≡◌, take}
use Rattle.tool_statement.specs.StatedTables.{log_heights_of}
use Rattle.tool_statement.proofs.shared.log_heights.Given as goal

abbrev pub invariant-loop-table : goal.invariant-loop-table
invariant-loop-table l = l.bits.items ≡ log_heights_of (take l.table-index l.tables)
