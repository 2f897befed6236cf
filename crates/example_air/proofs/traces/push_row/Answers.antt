use Rattle.std.specs.Int.{bit_at}
use Rattle.std.proofs.Common.{◌≡◌, arith}
use Rattle.p3_field.specs.BabyBear.{baby_bear_ring}
use Rattle.p3_field.specs.Ring.{of_nat}
use Rattle.example_air.specs.Bytes.{bits_row}
use Rattle.example_air.proofs.Pushed.{cells-more, row-ends}
use Rattle.example_air.proofs.traces.push_row.Goals as goal

pub loop-i-preserved : goal.loop-i-preserved
loop-i-preserved c = cells-more _ (λ i. of_nat baby_bear_ring (bit_at c.args.byte i)) c.loop-i.i _ _ _ c.loop-i.invariant c.in_ok-push.ensures.items c.from_u64.ensures

pub returns : goal.returns
unfolding bits_row
returns c =
    let end : c.loop-i.i ≡ 8 = omega arith in
    row-ends _ (λ i. of_nat baby_bear_ring (bit_at c.args.byte i)) c.loop-i.i 8 _ _ _ _ end c.loop-i.invariant c.in_ok-push-2.ensures.items c.from_u64-2.ensures
