use Rattle.std.proofs.Common.{◌≡◌, sym, ◌∙◌}
use Rattle.p3_field.specs.Ring.{pow}
use Rattle.p3_field.specs.Laws.Algebra.{pow_one, pow_double}
use Rattle.p3_field.specs.Laws.Order.{ones_step}
use Rattle.p3_field.proofs.generic.product_of_squares.Goals as goal

pub loop-init : goal.loop-init
unfolding pow
loop-init g c = record {
  product_is = c.ONE-product.ensures ∙ g.met.F.RingCore.one_is;
  square_is = sym (pow_one g.F.RingCore.ring g.met.F.RingCore.ring_laws c.args.x);
}

pub loop-preserved : goal.loop-preserved
loop-preserved g c =
    let r = g.F.RingCore.ring in let L = g.met.F.RingCore.ring_laws in
    let x = c.args.x in let p = c.loop.product in let s = c.loop.square in let n = c.loop.counter in
    let P = c.loop.invariant.product_is in let S = c.loop.invariant.square_is in
    let m : c.mul-product.result ≡ r.mul p s = g.met.F.PrimeCharacteristicRing.muls p s c.mul-product.result c.mul-product.ensures in
    record {
      product_is = cc (m, ones_step r L x p s n P S);
      square_is = cc (c.square-square.ensures, pow_double r L x s n S);
    }
