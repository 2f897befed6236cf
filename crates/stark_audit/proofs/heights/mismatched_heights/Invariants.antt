use Rattle.p3_field.specs.Checks.{numbers}
use Rattle.audit_batch.specs.Asked.{AreNamed, always}
use Rattle.tool_statement.specs.StatedTables.{HasStatedHeight}
use Rattle.stark_audit.proofs.heights.mismatched_heights.Given as goal

abbrev pub invariant-loop-table : goal.invariant-loop-table
invariant-loop-table l = AreNamed (always (numbers l.table (HasStatedHeight l.tables l.degree_bits))) l.heights.items
