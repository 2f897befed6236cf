use Rattle.std.proofs.Common.{◌≡◌, ◌++◌, drop, map}
use Rattle.air_core.specs.Symbolic.{tree_of}
use Rattle.p3_lookup.specs.Lookup.{pair_up, sent}
use Rattle.p3_lookup.specs.Messages.{message}
use Rattle.p3_lookup.specs.Written.{read, tree_count}
use Rattle.stark_balance.specs.Sender.{sent_in_row}
use Rattle.stark_balance.proofs.messages.push_lookup.Given as goal

abbrev pub invariant-loop-i : goal.invariant-loop-i
invariant-loop-i g l =
    let send = message (sent_in_row g.F.RingCore.ring l.row) l.bus in
    l.messages.items ++ map send (pair_up (drop l.i (map (map tree_of) l.lookup.elements)) (drop l.i (map tree_count l.lookup.multiplicities)))
    ≡ l.initial.messages.items ++ map send (sent (read l.lookup))
