use Rattle.std.proofs.Common.{◌+◌}
use Rattle.std.specs.Int.{bit_at}
use Rattle.p3_field.specs.Poly.{tabulate}
use Rattle.air_core.specs.Joined.{joined}
use Rattle.blake3_compress.specs.Generated.{Pushed, input_of}
use Rattle.blake3_binary.proofs.generation.push_words.Given as goal

abbrev pub invariant-loop-i : goal.invariant-loop-i
invariant-loop-i g l = Pushed g.F.RingCore.ring l.fn.values.items l.values.items (joined l.i (λ i. tabulate 32 (bit_at (input_of l.words (l.from + i)))))
