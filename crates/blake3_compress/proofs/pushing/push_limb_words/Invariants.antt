use Rattle.p3_field.specs.Poly.{tabulate}
use Rattle.air_gadgets.specs.Words.{limb}
use Rattle.air_core.specs.Joined.{joined}
use Rattle.blake3_compress.specs.Generated.{Pushed, input_of}
use Rattle.blake3_compress.proofs.pushing.push_limb_words.Given as goal

abbrev pub invariant-loop-i : goal.invariant-loop-i
invariant-loop-i g l = Pushed g.F.RingCore.ring l.fn.values.items l.values.items (joined l.i (λ i. tabulate 2 (limb (input_of l.words i))))
