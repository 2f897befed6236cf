use Rattle.std.proofs.Common.{◌≡◌, ◌^◌, ◌∙◌, inl, inr, sym, ap, arith}
use Rattle.p3_field.specs.Laws.Roots.{field_no_zero_divisors}
use Rattle.commit_core.specs.Laws.Options.{match_weaker}
use Rattle.commit_core.proofs.Logarithms.{too_large, not_too_large}
use Rattle.commit_core.proofs.domain.TwoAdicMultiplicativeCosetPolynomialSpace.try_create_disjoint_domain.Goals as goal

pub returns : goal.returns
returns g c =
    let r = g.F.RingCore.ring in
    let L = g.met.F.RingCore.ring_laws in
    let top = g.F.TwoAdicCore.TWO_ADICITY in
    let m = c.args.min_size in
    let ceil = c.log2_ceil_usize.result in
    let product : c.mul.result ≡ r.mul c.args.self.now.shift g.F.FieldCore.GENERATOR =
    g.met.F.PrimeCharacteristicRing.muls _ _ _ c.mul.ensures ∙ cc (c.shift.ensures, c.GENERATOR.ensures) in
    match_weaker c.new.result _ _ _ _
    (λ p. elim p [
      | inl over ↦ too_large top m ceil c.log2_ceil_usize.ensures.least over
      | inr zero ↦ absurd (g.met.F.FieldCore.generator_not_zero (field_no_zero_divisors r L g.F.FieldCore.inv g.met.F.FieldCore.field_laws c.args.self.now.shift g.F.FieldCore.GENERATOR c.valid.ensures.0 (sym product ∙ zero)))
    ])
    (λ d q. (
      record {
        shift_is = q.0 ∙ product;
        enough = omega (arith, c.log2_ceil_usize.ensures.enough, ap (λ k. 2 ^ k) q.1);
        least = λ k b. let low = c.log2_ceil_usize.ensures.least k b in omega (arith, low, q.1);
      },
      not_too_large top m ceil c.log2_ceil_usize.ensures.enough q.2,
    ))
    c.new.ensures
