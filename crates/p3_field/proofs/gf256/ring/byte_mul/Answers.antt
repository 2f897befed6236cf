use Rattle.std.proofs.Common.{◌≡◌, ◌-◌, ◌/◌, ◌^◌, arith}
use Rattle.std.proofs.lemmas.Nat.Bits.{shr_and_one}
use Rattle.p3_field.specs.Laws.Gf256Laws.{byte_mul_turn, byte_mul_start}
use Rattle.p3_field.proofs.gf256.ring.byte_mul.Goals as goal

pub loop-turn-init : goal.loop-turn-init
loop-turn-init c = byte_mul_start c.args.a (c.args.b / 2 ^ 8)

pub loop-turn-preserved : goal.loop-turn-preserved
loop-turn-preserved c =
    let k = c.loop-turn.turn in
    cc (c.times_x.ensures, c.loop-turn.invariant, shr_and_one c.args.b (7 - k), byte_mul_turn k c.args.a c.args.b c.loop-turn-test.true)

pub returns : goal.returns
returns c =
    let e : c.loop-turn.turn ≡ 8 = omega arith in
    let f : c.args.b / 2 ^ (8 - 8) ≡ c.args.b = omega arith in
    cc (e, f, c.loop-turn.invariant)
