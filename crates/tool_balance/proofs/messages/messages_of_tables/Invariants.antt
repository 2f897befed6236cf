use Rattle.std.proofs.Common.{◌≡◌}
use Rattle.tool_balance.proofs.Sent.{sent_before}
use Rattle.tool_balance.proofs.messages.messages_of_tables.Given as goal

abbrev pub invariant-loop-table : goal.invariant-loop-table
invariant-loop-table l = l.messages.items ≡ sent_before l.fn.version l.tables l.proof l.table
