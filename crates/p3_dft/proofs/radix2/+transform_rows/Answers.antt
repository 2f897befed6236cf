use Rattle.std.proofs.Common.{◌≡◌, suc, ◌-◌, ◌*◌, ◌^◌, ◌∙◌, refl, arith, length}
use Rattle.p3_matrix.specs.Laws.Grids.{product_fills}
use Rattle.p3_dft.proofs.InPlace.{step, no_step, squares_turn, half_rows}
use Rattle.p3_dft.proofs.radix2.+transform_rows.Goals as goal

pub transform_rows-requires : goal.transform_rows-requires
transform_rows-requires g t c = λ κs h.
    let size = half_rows (length c.args.values.now) c.args.bits c.args.width c.if-bits-gt0.true c.requires.filled in (
      omega (arith, c.if-bits-gt0.true),
      (h, (c.requires.positive, (omega (arith, c.requires.bits), (omega (arith, c.split_at_mut-first.ensures.front_len, size), squares_turn g.F.RingCore.ring g.met.F.RingCore.ring_laws c.args.bits c.args.generator _ c.if-bits-gt0.true c.square-then-bits-gt0.ensures c.requires.turns)))),
    )

pub transform_rows-requires-then-bits-gt0 : goal.transform_rows-requires-then-bits-gt0
transform_rows-requires-then-bits-gt0 g t c = λ κs h.
    let size = half_rows (length c.args.values.now) c.args.bits c.args.width c.if-bits-gt0.true c.requires.filled in (
      omega (arith, c.if-bits-gt0.true),
      (h, (c.requires.positive, (omega (arith, c.requires.bits), (omega (arith, c.split_at_mut-first.ensures.back_len, size), squares_turn g.F.RingCore.ring g.met.F.RingCore.ring_laws c.args.bits c.args.generator _ c.if-bits-gt0.true c.square-then-bits-gt0-3.ensures c.requires.turns)))),
    )

pub combine_rows-requires-clause-same : goal.combine_rows-requires-clause-same
combine_rows-requires-clause-same g t c =
    let size = half_rows (length c.args.values.now) c.args.bits c.args.width c.if-bits-gt0.true c.requires.filled in
    omega (arith, c.split_at_mut-first.ensures.front_len, c.split_at_mut-first.ensures.back_len, size, c.transform_rows.ensures.length, c.transform_rows-then-bits-gt0.ensures.length)

pub combine_rows-requires-clause-filled : goal.combine_rows-requires-clause-filled
combine_rows-requires-clause-filled g t c =
    let size = half_rows (length c.args.values.now) c.args.bits c.args.width c.if-bits-gt0.true c.requires.filled in
    product_fills c.transform_rows.new.values (2 ^ (c.args.bits - 1)) c.args.width (omega (arith, c.split_at_mut-first.ensures.front_len, size, c.transform_rows.ensures.length))

pub returns-then-bits-gt0-clause-columns : goal.returns-then-bits-gt0-clause-columns
returns-then-bits-gt0-clause-columns g t c = λ j f b short R.
    let r = g.F.RingCore.ring in
    let w = c.args.width in
    let k = c.args.bits - 1 in
    let one_more : suc k ≡ c.args.bits = omega (arith, c.if-bits-gt0.true) in
    let size = half_rows (length c.args.values.now) c.args.bits w c.if-bits-gt0.true c.requires.filled in
    let front : length c.split_at_mut-first.result.0.now ≡ 2 ^ k * w = omega (arith, c.split_at_mut-first.ensures.front_len, size) in
    let values : length c.transform_rows.new.values ≡ 2 ^ k * w = c.transform_rows.ensures.length ∙ front in
    let sums : length c.combine_rows.new.first ≡ 2 ^ k * w = omega (arith, values) in
    step r g.met.F.RingCore.ring_laws c.args.bits k w j c.args.shift c.args.generator c.square.result c.square-then-bits-gt0.result c.square-then-bits-gt0-2.result c.square-then-bits-gt0-3.result
    f c.args.values.now c.split_at_mut-first.result.0.now c.split_at_mut-first.result.1.now c.transform_rows.new.values c.transform_rows-then-bits-gt0.new.values c.combine_rows.new.first c.combine_rows.new.second _
    one_more c.square.ensures c.square-then-bits-gt0.ensures c.square-then-bits-gt0-2.ensures c.square-then-bits-gt0-3.ensures c.requires.turns b short c.split_at_mut-first.ensures.value front values sums
    (λ q s x. c.transform_rows.ensures.columns j q b s x) (λ q s x. c.transform_rows-then-bits-gt0.ensures.columns j q b s x) c.combine_rows.ensures.first c.combine_rows.ensures.second refl R

pub returns-else-bits-gt0-clause-columns : goal.returns-else-bits-gt0-clause-columns
returns-else-bits-gt0-clause-columns g t c = λ j f b short R.
    no_step g.F.RingCore.ring g.met.F.RingCore.ring_laws c.args.bits c.args.width j c.args.shift c.args.generator c.args.values.now f c.if-bits-gt0.false short R
