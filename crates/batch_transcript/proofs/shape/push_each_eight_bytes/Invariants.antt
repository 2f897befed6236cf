use Rattle.std.proofs.Common.{◌≡◌, ◌++◌, flat_map, take}
use Rattle.p3_challenger.specs.Separator.{eight_bytes}
use Rattle.batch_transcript.proofs.shape.push_each_eight_bytes.Given as goal

abbrev pub invariant-loop-number : goal.invariant-loop-number
invariant-loop-number l = l.out.items ≡ l.initial.out.items ++ flat_map eight_bytes (take l.number-index l.numbers)
