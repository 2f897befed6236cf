use Rattle.std.proofs.Common.{◌≡◌, ◌^◌, ◌≤◌, ◌∙◌, ap, refl, subst, sym, arith}
use Rattle.std.proofs.Math.Nat.{pow-le-pow_right}
use Rattle.p3_field.specs.BabyBear.{baby_bear_ring}
use Rattle.p3_matrix.specs.Matrix.{FillsRows}
use Rattle.air_equations.specs.Laws.Rows.{rows_fill}
use Rattle.air_equations.specs.Rows.{values_of}
use Rattle.example_fib_air.specs.Fib.{fib, fib_row}
use Rattle.example_fib_air.proofs.Numbers.{next_row}
use Rattle.example_fib_air.proofs.trace.fib_trace.Goals as goal

pub loop-init : goal.loop-init
unfolding fib
loop-init c = (c.new-values.ensures.items, refl, refl)

pub loop-preserved : goal.loop-preserved
loop-preserved c =
    next_row baby_bear_ring c.args.start c.loop.counter c.loop.values.items _ _ _ _ _ c.loop.invariant c.in_ok-push.ensures.items c.in_ok-push-2.ensures.items c.add-next.ensures

pub new-requires : goal.new-requires
new-requires c = subst (λ l. FillsRows l 2) (sym c.loop.invariant.0) (rows_fill 2 (fib_row baby_bear_ring c.args.start) (λ i. refl) c.loop.counter)

pub returns : goal.returns
returns c =
    let most : 2 ^ c.args.log_rows ≤ 2 ^ 10 = pow-le-pow_right (omega arith) c.requires in
    let least = c.loop-test.false in
    let counter = c.loop.auto.counter-end in
    let count : c.loop.counter ≡ 2 ^ c.args.log_rows = omega (arith, most, least, counter) in
    c.new.ensures ∙ (λ i. record { values = (c.loop.invariant.0 ∙ ap (values_of (fib_row baby_bear_ring c.args.start)) count) i; width = 2 })
