use Rattle.std.proofs.Common.{◌≡◌, drop}
use Rattle.tool_balance.specs.Nets.{first_left}
use Rattle.tool_balance.proofs.nets.push_nets_line.Given as goal

abbrev pub invariant-loop-i : goal.invariant-loop-i
invariant-loop-i l = (l.text.items ≡ l.initial.text.items) × (first_left (drop l.i l.nets) ≡ first_left l.nets)
