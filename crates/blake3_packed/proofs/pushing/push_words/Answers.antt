use Rattle.std.proofs.Common.{◌+◌, arith}
use Rattle.std.specs.Int.{bit_at}
use Rattle.p3_field.specs.Poly.{tabulate}
use Rattle.blake3_packed.specs.Laws.Lanes.{pushed_none, pushed_more, pushed_all}
use Rattle.blake3_packed.proofs.pushing.push_words.Goals as goal

pub loop-i-init : goal.loop-i-init
loop-i-init c x h = pushed_none _ 32 (λ j i. tabulate 32 (bit_at (x j (c.args.from + i))))

pub loop-i-preserved : goal.loop-i-preserved
loop-i-preserved c x h =
    pushed_more c.loop-i.i 32 (λ j i. tabulate 32 (bit_at (x j (c.args.from + i)))) (c.loop-i.invariant x h)
    (c.in_ok-push_planes.ensures (λ j. x j (c.args.from + c.loop-i.i)) (h (c.args.from + c.loop-i.i) (omega arith)))

pub returns : goal.returns
returns c x h = pushed_all c.loop-i.i c.args.n 32 (λ j i. tabulate 32 (bit_at (x j (c.args.from + i)))) (omega arith) (c.loop-i.invariant x h)
