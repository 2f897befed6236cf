use Rattle.std.proofs.Common.{◌≡◌, get_or}
use Rattle.air_core.specs.Joined.{joined}
use Rattle.tool_statement.specs.declared.table.TableStatement.TheVariants.{Take}
use Rattle.tool_hash_lines.specs.PrintedRows.{table_lines}
use Rattle.tool_hash_lines.proofs.lines.hash_lines.Given as goal

abbrev pub invariant-loop-table : goal.invariant-loop-table
invariant-loop-table l = l.text.items ≡ joined l.table (λ i. table_lines l.tables l.proof i (get_or l.tables i (Take 0)))
