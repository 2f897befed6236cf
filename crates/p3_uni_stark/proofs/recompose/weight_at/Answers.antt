use Rattle.std.proofs.Common.{◌≡◌, ℕ, suc, ◌+◌, ◌-◌, length, map, sym, ◌∙◌, ap, arith}
use Rattle.std.proofs.lemmas.List.{get_or_read, map-id, length-take-le, get_or-take}
use Rattle.p3_field.specs.Field.{TwoAdic}
use Rattle.p3_field.specs.Poly.{eval_poly}
use Rattle.p3_field.specs.Domain.{CosetData, vanishing_polynomial, point}
use Rattle.p3_field.specs.Laws.Roots.{field_no_zero_divisors}
use Rattle.p3_uni_stark.specs.Recombine.{chunk_weight, domain_at}
use Rattle.p3_field.specs.Poly.{product}
use Rattle.p3_field.specs.Laws.Products.{product_same}
use Rattle.p3_uni_stark.proofs.Weights.{before_is, after_is, after_at, quotients_but, first_outside}
use Rattle.p3_uni_stark.proofs.recompose.weight_at.Goals as goal

pub inverse-requires : goal.inverse-requires
inverse-requires g c = λ z.
    let r = g.F.RingCore.ring in
    let ds = c.args.domains.now in
    let i = c.args.chunk in
    let d : CosetData g.row.F.Denot = record { shift = r.one; log_size = 0 } in
    let f : TwoAdic g.row.F.Denot = record { ring = r; inv = g.F.FieldCore.inv; root = g.F.TwoAdicCore.root; generator = g.F.FieldCore.GENERATOR } in
    let item : domain_at r ds i ≡ c.index-domains-chunk.result = sym (get_or_read ds i c.index-domains-chunk.result c.requires.chunk c.index-domains-chunk.is d) in
    let first : c.first_point-first.result ≡ point r g.F.TwoAdicCore.root (domain_at r ds i) 0 = c.first_point-first.ensures ∙ ap (λ e. point r g.F.TwoAdicCore.root e 0) (sym item) in
    let n = length-take-le i ds (omega (arith, c.requires.chunk)) in
    let before = c.vanishing_product.ensures.nonzero
    (λ j h. first_outside f ds i j c.first_point-first.result _ c.requires.chunk (omega (arith, n, h, c.requires.chunk)) (λ e. omega (arith, e, h, n)) c.requires.disjoint first (get_or-take i ds j d (omega (arith, n, h)))) in
    let after = c.vanishing_product-2.ensures.nonzero
    (λ j h. let (k, at) = after_at ds i j d h in first_outside f ds i (suc i + j) c.first_point-first.result _ c.requires.chunk k (λ e. omega (arith, e)) c.requires.disjoint first at) in
    after (field_no_zero_divisors r g.met.F.RingCore.ring_laws g.F.FieldCore.inv g.met.F.FieldCore.field_laws _ _ before (sym (g.met.F.PrimeCharacteristicRing.muls _ _ _ c.mul-scale.ensures) ∙ z))

pub returns : goal.returns
unfolding chunk_weight
returns g c =
    let r = g.F.RingCore.ring in
    let s = g.EF.RingCore.ring in
    let L = g.met.F.RingCore.ring_laws in
    let M = g.met.EF.RingCore.ring_laws in
    let P = g.met.EF.PrimeCharacteristicRing in
    let f = g.EF.ExtensionField.embed in
    let inv = g.F.FieldCore.inv in
    let ds = c.args.domains.now in
    let i = c.args.chunk in
    let x = c.args.x in
    let d : CosetData g.row.F.Denot = record { shift = r.one; log_size = 0 } in
    let item : domain_at r ds i ≡ c.index-domains-chunk.result = sym (get_or_read ds i c.index-domains-chunk.result c.requires.chunk c.index-domains-chunk.is d) in
    let start = point r g.F.TwoAdicCore.root (domain_at r ds i) 0 in
    let first : c.first_point-first.result ≡ start = c.first_point-first.ensures ∙ ap (λ e. point r g.F.TwoAdicCore.root e 0) (sym item) in
    let at_x = λ (e : CosetData g.row.F.Denot). eval_poly s (map f (vanishing_polynomial r inv e)) x in
    let at_first = λ (e : CosetData g.row.F.Denot). eval_poly r (map (λ v. v) (vanishing_polynomial r inv e)) c.first_point-first.result in
    let at_start = λ (e : CosetData g.row.F.Denot). eval_poly r (vanishing_polynomial r inv e) start in
    let same : (e : CosetData g.row.F.Denot) → at_first e ≡ at_start e = λ e. (λ k. eval_poly r (map-id (vanishing_polynomial r inv e) k) (first k)) in
    let p = λ (j : ℕ). at_x (domain_at r ds j) in
    let u = λ (j : ℕ). at_start (domain_at r ds j) in
    let x_before : c.vanishing_product-3.result ≡ product s i p = c.vanishing_product-3.ensures.value ∙ before_is r s M ds i at_x c.requires.chunk in
    let x_after : c.vanishing_product-4.result ≡ product s (length ds - suc i) (λ j. p (suc i + j)) = c.vanishing_product-4.ensures.value ∙ after_is r s M ds i at_x c.requires.chunk in
    let u_before : c.vanishing_product.result ≡ product r i u =
    c.vanishing_product.ensures.value ∙ (before_is r r L ds i at_first c.requires.chunk ∙ product_same r L i (λ j. at_first (domain_at r ds j)) u (λ j h. same (domain_at r ds j))) in
    let u_after : c.vanishing_product-2.result ≡ product r (length ds - suc i) (λ j. u (suc i + j)) =
    c.vanishing_product-2.ensures.value
    ∙ (after_is r r L ds i at_first c.requires.chunk ∙ product_same r L (length ds - suc i) (λ j. at_first (domain_at r ds (suc i + j))) (λ j. u (suc i + j)) (λ j h. same (domain_at r ds (suc i + j)))) in
    let t : TwoAdic g.row.F.Denot = record { ring = r; inv = inv; root = g.F.TwoAdicCore.root; generator = g.F.FieldCore.GENERATOR } in
    let n = length-take-le i ds (omega (arith, c.requires.chunk)) in
    let before = c.vanishing_product.ensures.nonzero
    (λ j h. first_outside t ds i j c.first_point-first.result _ c.requires.chunk (omega (arith, n, h, c.requires.chunk)) (λ e. omega (arith, e, h, n)) c.requires.disjoint first (get_or-take i ds j d (omega (arith, n, h)))) in
    let after = c.vanishing_product-2.ensures.nonzero
    (λ j h. let (k, at) = after_at ds i j d h in first_outside t ds i (suc i + j) c.first_point-first.result _ c.requires.chunk k (λ e. omega (arith, e)) c.requires.disjoint first at) in
    let scale : c.from_base.result ≡ f (inv (r.mul c.vanishing_product.result c.vanishing_product-2.result)) =
    c.from_base.ensures ∙ ap f (c.inverse.ensures ∙ ap inv (g.met.F.PrimeCharacteristicRing.muls _ _ _ c.mul-scale.ensures)) in
    P.muls _ _ _ c.mul-2.ensures
    ∙ ((λ k. s.mul (P.muls _ _ _ c.mul.ensures k) (scale k))
    ∙ quotients_but r L inv g.met.F.FieldCore.field_laws s M f g.met.EF.ExtensionField.embed_laws (length ds) i p u _ _ _ _ x_before x_after u_before u_after before after)
