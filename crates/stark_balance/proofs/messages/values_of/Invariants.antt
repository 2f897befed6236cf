use Rattle.std.proofs.Common.{◌≡◌, ◌++◌, drop, map}
use Rattle.air_core.specs.Symbolic.{tree_of}
use Rattle.stark_balance.specs.Sender.{sent_in_row}
use Rattle.stark_balance.proofs.messages.values_of.Given as goal

abbrev pub invariant-loop-i : goal.invariant-loop-i
invariant-loop-i g l =
    l.values.items ++ drop l.i (map (sent_in_row g.F.RingCore.ring l.row) (map tree_of l.tuple)) ≡ map (sent_in_row g.F.RingCore.ring l.row) (map tree_of l.tuple)
