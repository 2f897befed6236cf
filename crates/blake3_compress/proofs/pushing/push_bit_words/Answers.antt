use Rattle.std.proofs.Common.{length, arith}
use Rattle.std.specs.Int.{bit_at}
use Rattle.p3_field.specs.Poly.{tabulate}
use Rattle.blake3_compress.specs.Generated.{input_of}
use Rattle.blake3_compress.specs.Laws.Pushing.{push_none, push_more, push_all}
use Rattle.blake3_compress.proofs.pushing.push_bit_words.Goals as goal

pub loop-i-init : goal.loop-i-init
loop-i-init g c = push_none g.F.RingCore.ring _ (λ i. tabulate 32 (bit_at (input_of c.args.words.now i)))

pub loop-i-preserved : goal.loop-i-preserved
loop-i-preserved g c = push_more g.F.RingCore.ring c.loop-i.i (λ i. tabulate 32 (bit_at (input_of c.args.words.now i))) c.loop-i.invariant c.in_ok-push_bits.ensures

pub returns : goal.returns
returns g c = push_all g.F.RingCore.ring _ _ c.loop-i.i (length c.args.words.now) (λ i. tabulate 32 (bit_at (input_of c.args.words.now i))) (omega arith) c.loop-i.invariant
