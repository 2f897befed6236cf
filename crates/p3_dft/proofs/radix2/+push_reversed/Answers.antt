use Rattle.std.proofs.Common.{◌≡◌, ℕ, suc, ◌-◌, subst, arith}
use Rattle.p3_dft.specs.Reversed.{PutsReversed}
use Rattle.p3_dft.proofs.PutRows.{put_both, put_row, put_zeros, doubled_fits}
use Rattle.p3_dft.proofs.radix2.+push_reversed.Goals as goal

pub overflow_mul-stride : goal.overflow_mul-stride
overflow_mul-stride g t c = omega (arith, doubled_fits c.args.stride c.args.bits c.requires.fits c.if-bits-gt0.true)

pub overflow_add-start : goal.overflow_add-start
overflow_add-start g t c = omega (arith, doubled_fits c.args.stride c.args.bits c.requires.fits c.if-bits-gt0.true)

pub overflow_mul-stride-then-bits-gt0 : goal.overflow_mul-stride-then-bits-gt0
overflow_mul-stride-then-bits-gt0 g t c = omega (arith, doubled_fits c.args.stride c.args.bits c.requires.fits c.if-bits-gt0.true)

pub returns-in_ok-push_reversed-2 : goal.returns-in_ok-push_reversed-2
returns-in_ok-push_reversed-2 g t c =
    let r = g.F.RingCore.ring in
    let k = c.args.bits - 1 in
    let e : suc k ≡ c.args.bits = omega (arith, c.if-bits-gt0.true) in
    subst (λ (n : ℕ). PutsReversed r c.args.m.now c.args.start c.args.stride n c.args.rows.now.items c.push_reversed-then-bits-gt0.new.rows.items) e
    (put_both r c.args.m.now c.args.start c.args.stride k c.args.rows.now.items c.push_reversed.new.rows.items c.push_reversed-then-bits-gt0.new.rows.items c.in_ok-push_reversed.ensures c.in_ok-push_reversed-2.ensures)

pub returns-in_ok-extend_from_slice : goal.returns-in_ok-extend_from_slice
returns-in_ok-extend_from_slice g t c =
    let r = g.F.RingCore.ring in
    let e : 0 ≡ c.args.bits = omega (arith, c.if-bits-gt0.false) in
    subst (λ (n : ℕ). PutsReversed r c.args.m.now c.args.start c.args.stride n c.args.rows.now.items c.extend_from_slice.new.self.items) e
    (put_row r c.args.m.now c.args.start c.args.stride c.args.rows.now.items c.extend_from_slice.new.self.items c.row.result.now c.row.ensures.values c.row.ensures.len c.in_ok-extend_from_slice.ensures.items)

pub returns-in_ok-push_zeros : goal.returns-in_ok-push_zeros
returns-in_ok-push_zeros g t c =
    let r = g.F.RingCore.ring in
    let e : 0 ≡ c.args.bits = omega (arith, c.if-bits-gt0.false) in
    subst (λ (n : ℕ). PutsReversed r c.args.m.now c.args.start c.args.stride n c.args.rows.now.items c.push_zeros.new.rows.items) e
    (put_zeros r c.args.m.now c.args.start c.args.stride c.args.rows.now.items c.push_zeros.new.rows.items c.height.ensures.fills (omega (arith, c.height.ensures.result, c.if-start-height.false))
    (omega (arith, c.in_ok-push_zeros.ensures.length, c.width.ensures)) c.in_ok-push_zeros.ensures.before c.in_ok-push_zeros.ensures.zeros)
