use Rattle.std.proofs.Common.{◌≡◌, ◌∙◌, sym, ap, length, map}
use Rattle.p3_field.specs.Laws.Roots.{field_no_zero_divisors}
use Rattle.p3_matrix.specs.Products.{product_below}
use Rattle.p3_matrix.proofs.ProductLaws.{product_not_zero, quotient_times_whole}
use Rattle.p3_matrix.proofs.inverses.scaled_inverses.Goals as goal

pub inverse-requires : goal.inverse-requires
inverse-requires g c = λ e.
    let r = g.F.RingCore.ring in
    let L = g.met.F.RingCore.ring_laws in
    let W = g.met.F.FieldCore.field_laws in
    product_not_zero r L (field_no_zero_divisors r L g.F.FieldCore.inv W) W.one_differs c.args.values.now (length c.args.values.now) c.requires (sym c.in_ok-fronts.ensures.whole ∙ e)

pub returns : goal.returns
returns g c =
    let r = g.F.RingCore.ring in
    let L = g.met.F.RingCore.ring_laws in
    let inv = g.F.FieldCore.inv in
    let W = g.met.F.FieldCore.field_laws in
    let v = c.args.values.now in
    let P = product_below r v (length v) in
    let nz : P ≡ r.zero → ⊥ = product_not_zero r L (field_no_zero_divisors r L inv W) W.one_differs v (length v) c.requires in
    let quotient : c.mul.result ≡ r.mul c.args.factor (inv P) = g.met.F.PrimeCharacteristicRing.muls _ _ _ c.mul.ensures ∙ ap (r.mul c.args.factor) (c.inverse.ensures ∙ ap inv c.in_ok-fronts.ensures.whole) in
    let all : r.mul c.mul.result P ≡ c.args.factor = ap (λ z. r.mul z P) quotient ∙ quotient_times_whole r L inv W c.args.factor P nz in
    c.inverses_by_fronts-inverses.ensures ∙ ap (λ z. map (λ x. r.mul z (inv x)) v) all
