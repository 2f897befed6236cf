use Rattle.std.proofs.Common.{◌≡◌, ◌++◌, map, take}
use Rattle.tool_verifier.specs.Refusals.{spaced}
use Rattle.tool_balance.proofs.nets.push_unbalanced.Given as goal

abbrev pub invariant-loop-i : goal.invariant-loop-i
invariant-loop-i l = l.text.items ≡ l.initial.text.items ++ spaced (map (λ x. x.value) (take l.i l.net.tuple))
