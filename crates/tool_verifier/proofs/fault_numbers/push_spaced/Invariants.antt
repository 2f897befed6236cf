use Rattle.std.proofs.Common.{◌≡◌, ◌++◌, take}
use Rattle.tool_verifier.specs.Refusals.{spaced}
use Rattle.tool_verifier.proofs.fault_numbers.push_spaced.Given as goal

abbrev pub invariant-loop-number : goal.invariant-loop-number
invariant-loop-number l = l.out.items ≡ l.initial.out.items ++ spaced (take l.number-index l.numbers)
