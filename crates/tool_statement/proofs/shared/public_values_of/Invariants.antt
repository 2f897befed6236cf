use Rattle.std.proofs.Common.{◌≡◌, map, take}
use Rattle.tool_statement.specs.StatedTables.{publics_lists}
use Rattle.tool_statement.proofs.shared.public_values_of.Given as goal

abbrev pub invariant-loop-table : goal.invariant-loop-table
invariant-loop-table l = map (λ p. p.items) l.values.items ≡ publics_lists (take l.table-index l.tables)
