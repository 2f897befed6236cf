use Rattle.std.proofs.Common.{◌≡◌, ◌^◌, ◌∙◌, inl, inr, sym, ap, arith}
use Rattle.std.proofs.lemmas.Option.{MatchOption-at_some}
use Rattle.p3_field.specs.Laws.Roots.{field_no_zero_divisors}
use Rattle.commit_core.specs.Laws.Options.{match_some}
use Rattle.commit_core.proofs.Logarithms.{too_large}
use Rattle.commit_core.proofs.domain.TwoAdicMultiplicativeCosetPolynomialSpace.create_disjoint_domain.Goals as goal

pub unwrap-requires : goal.unwrap-requires
unwrap-requires g c =
    let r = g.F.RingCore.ring in
    let product : c.mul.result ≡ r.mul c.args.self.now.shift g.F.FieldCore.GENERATOR =
    g.met.F.PrimeCharacteristicRing.muls _ _ _ c.mul.ensures ∙ cc (c.shift.ensures, c.GENERATOR.ensures) in
    match_some c.new.result _ _
    (λ p. elim p [
      | inl over ↦ c.requires (too_large g.F.TwoAdicCore.TWO_ADICITY c.args.min_size c.log2_ceil_usize.result c.log2_ceil_usize.ensures.least over)
      | inr zero ↦ g.met.F.FieldCore.generator_not_zero (field_no_zero_divisors r g.met.F.RingCore.ring_laws g.F.FieldCore.inv g.met.F.FieldCore.field_laws c.args.self.now.shift g.F.FieldCore.GENERATOR c.valid.ensures.0 (sym product ∙ zero))
    ])
    c.new.ensures

pub returns : goal.returns
returns g c =
    let r = g.F.RingCore.ring in
    let product : c.mul.result ≡ r.mul c.args.self.now.shift g.F.FieldCore.GENERATOR =
    g.met.F.PrimeCharacteristicRing.muls _ _ _ c.mul.ensures ∙ cc (c.shift.ensures, c.GENERATOR.ensures) in
    let q = MatchOption-at_some _ _ c.unwrap.result c.unwrap.ensures c.new.ensures in
    record {
      shift_is = q.0 ∙ product;
      enough = omega (arith, c.log2_ceil_usize.ensures.enough, ap (λ k. 2 ^ k) q.1);
      least = λ k b. let low = c.log2_ceil_usize.ensures.least k b in omega (arith, low, q.1);
    }
