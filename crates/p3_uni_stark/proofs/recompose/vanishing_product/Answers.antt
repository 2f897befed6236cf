use Rattle.std.proofs.Common.{◌≡◌, ◌^◌, map, sym, ◌∙◌, ap, subst, arith}
use Rattle.std.proofs.lemmas.List.{get_or_read}
use Rattle.p3_field.specs.Poly.{eval_poly}
use Rattle.p3_field.specs.Domain.{CosetData, vanishing_polynomial, point}
use Rattle.p3_field.specs.Laws.Roots.{field_no_zero_divisors}
use Rattle.commit_core.specs.Space.{IsPoint}
use Rattle.p3_uni_stark.specs.Recombine.{domain_at}
use Rattle.p3_field.specs.Laws.Products.{product_more}
use Rattle.p3_uni_stark.proofs.recompose.vanishing_product.Goals as goal

pub loop-domain-preserved : goal.loop-domain-preserved
loop-domain-preserved g c =
    let r = g.F.RingCore.ring in
    let s = g.EF.RingCore.ring in
    let e = g.EF.ExtensionField.embed in
    let P = g.met.EF.PrimeCharacteristicRing in
    let i = c.loop-domain.domain-index in
    let ds = c.args.domains.now in
    let x = c.args.x in
    let item : domain_at r ds i ≡ c.domain-item.result = sym (get_or_read ds i c.domain-item.result (omega arith) c.domain-item.is (record { shift = r.one; log_size = 0 })) in
    let value = c.vanishing_poly_at_point.ensures.value ∙ ap (λ (d : CosetData g.row.F.Denot). eval_poly s (map e (vanishing_polynomial r g.F.FieldCore.inv d)) x) (sym item) in
    let product = P.muls _ _ _ c.mul-product.ensures in (
      product ∙ ((λ k. s.mul (c.loop-domain.invariant.0 k) (value k)) ∙ sym (product_more s g.met.EF.RingCore.ring_laws i (λ j. eval_poly s (map e (vanishing_polynomial r g.F.FieldCore.inv (domain_at r ds j))) x))),
      λ away z.
          let none = field_no_zero_divisors s g.met.EF.RingCore.ring_laws g.EF.FieldCore.inv g.met.EF.FieldCore.field_laws _ _ (c.loop-domain.invariant.1 (λ j h. away j (omega arith))) (sym product ∙ z) in
          away i (omega arith) (subst (λ (d : CosetData g.row.F.Denot). IsPoint (2 ^ d.log_size) (point r g.F.TwoAdicCore.root d) e x) (sym item) (c.vanishing_poly_at_point.ensures.zero.0 none)),
    )

pub returns-clause-nonzero : goal.returns-clause-nonzero
returns-clause-nonzero g c = λ away z. c.loop-domain.invariant.1 (λ j h. away j (omega arith)) z
