use Rattle.std.proofs.Common.{◌≡◌, ◌++◌, drop, get_or}
use Rattle.p3_lookup.specs.Messages.{messages_from}
use Rattle.p3_lookup.specs.Written.{read_all}
use Rattle.stark_balance.specs.Sender.{sent_in_row}
use Rattle.stark_balance.proofs.messages.push_lookups.Given as goal

abbrev pub invariant-loop-i : goal.invariant-loop-i
invariant-loop-i g l =
    let from = messages_from (sent_in_row g.F.RingCore.ring l.row) (λ n. get_or l.buses n 0) in
    l.messages.items ++ from l.i (drop l.i (read_all l.lookups)) ≡ l.initial.messages.items ++ from 0 (read_all l.lookups)
