use Rattle.std.proofs.Common.{◌≡◌, ℕ, suc, ◌+◌, ◌^◌, ◌∙◌, sym, ap, arith}
use Rattle.p3_field.specs.Ring.{Ring, pow}
use Rattle.p3_field.specs.Laws.Algebra.{pow_one, pow_double}
use Rattle.p3_field.specs.Laws.Selectors.{doubling_product, doubling_product_sum}
use Rattle.p3_matrix.proofs.interpolation.sum_of_powers.Goals as goal

next_product : {A : Type 0} (r : Ring A) (k : ℕ) (u : A) → doubling_product r (k + 1) u ≡ r.mul (doubling_product r k u) (r.add r.one (pow r u (2 ^ k)))
unfolding doubling_product
next_product r k u = let e : k + 1 ≡ suc k = omega arith in ap (λ n. doubling_product r n u) e

pub loop-init : goal.loop-init
unfolding doubling_product
loop-init g c = record {
  product_so_far = c.ONE-product.ensures ∙ g.met.F.RingCore.one_is;
  power_is = sym (pow_one g.F.RingCore.ring g.met.F.RingCore.ring_laws c.args.x);
}

pub loop-preserved : goal.loop-preserved
loop-preserved g c =
    let s = g.F.RingCore.ring in
    let P = g.met.F.PrimeCharacteristicRing in
    let k = c.loop.counter in
    let product = P.muls _ _ _ c.mul-product.ensures in
    let sum = P.adds _ _ _ c.add.ensures in
    record {
      product_so_far = cc (product, sum, c.ONE.ensures, g.met.F.RingCore.one_is, c.loop.invariant.product_so_far, c.loop.invariant.power_is, next_product s k c.args.x);
      power_is = cc (c.square-power.ensures, pow_double s g.met.F.RingCore.ring_laws c.args.x c.loop.power k c.loop.invariant.power_is);
    }

pub returns : goal.returns
returns g c =
    let s = g.F.RingCore.ring in
    let n : c.loop.counter ≡ c.args.bits = omega arith in
    c.loop.invariant.product_so_far ∙ (ap (λ k. doubling_product s k c.args.x) n ∙ doubling_product_sum s g.met.F.RingCore.ring_laws c.args.bits c.args.x)
