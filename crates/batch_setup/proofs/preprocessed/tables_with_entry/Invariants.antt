use Rattle.std.proofs.Common.{◌≡◌, ◌++◌, drop}
use Rattle.batch_statement.specs.Statement.{with_entry}
use Rattle.batch_setup.proofs.preprocessed.tables_with_entry.Given as goal

abbrev pub invariant-loop-i : goal.invariant-loop-i
invariant-loop-i l = l.tables.items ++ with_entry l.i (drop l.i l.entries) ≡ with_entry 0 l.entries
