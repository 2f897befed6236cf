use Rattle.std.proofs.Common.{◌≡◌, ◌+◌, ◌-◌, ◌<◌, ◌∙◌, sym, ap, arith, length, get_or, drop, map}
use Rattle.std.proofs.lemmas.List.{length-map, get_or-map}
use Rattle.p3_field.specs.Poly.{eval_poly}
use Rattle.p3_field.specs.Laws.Algebra.{horner_step}
use Rattle.p3_dft.proofs.naive.polynomial_value.Goals as goal

pub loop-i-preserved : goal.loop-i-preserved
loop-i-preserved g c =
    let s = g.EF.RingCore.ring in
    let P = g.met.EF.PrimeCharacteristicRing in
    let f = g.EF.ExtensionField.embed in
    let cs = c.args.coefficients.now in
    let i = c.loop-i.i - 1 in
    let x = c.index-coefficients-i.result in
    let y = c.from_base.result in
    let below : i < length cs = omega (arith, c.loop-i.invariant.within) in
    let mapped : i < length (map f cs) = omega (arith, length-map cs f) in
    let item : y ≡ get_or (map f cs) i y = c.from_base.ensures ∙ (ap f c.index-coefficients-i.is ∙ sym (get_or-map f cs i x y below)) in
    let next : c.loop-i.i ≡ i + 1 = omega arith in
    let sum : c.loop-i.sum ≡ eval_poly s (drop (i + 1) (map f cs)) c.args.point = c.loop-i.invariant.so_far ∙ ap (λ k. eval_poly s (drop k (map f cs)) c.args.point) next in
    record {
      within = omega (arith, c.loop-i.invariant.within);
      so_far = P.adds _ _ _ c.add-sum.ensures ∙ (ap (λ z. s.add z y) (P.muls _ _ _ c.mul.ensures)
          ∙ horner_step s g.met.EF.RingCore.ring_laws (map f cs) i c.args.point y c.loop-i.sum mapped item sum);
    }
