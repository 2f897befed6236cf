use Rattle.std.proofs.Common.{◌≡◌, ℕ, ◌^◌, ◌<◌, ◌∙◌, sym, ap, subst, List, map, length, get_or, true, false}
use Rattle.std.specs.Prelude.{IfOk}
use Rattle.p3_matrix.specs.Laws.Powers.{size_of_shift}
use Rattle.p3_field.specs.Ring.{of_nat, pow, sub}
use Rattle.p3_field.specs.Laws.Inverses.{root_inverts, size_inverts}
use Rattle.p3_field.specs.Poly.{tabulate}
use Rattle.p3_matrix.specs.Interpolation.{weight_at, ratio_minus_one}
use Rattle.p3_matrix.specs.Laws.Weights.{inverse_root_turns, divisors_not_zero, weights_by_division}
use Rattle.p3_matrix.proofs.interpolation.interpolation_weights.Goals as goal
use Rattle.p3_matrix.proofs.interpolation.interpolation_weights.Goals.{After-mul}
use Rattle.p3_matrix.proofs.interpolation.interpolation_weights.Given.{Over}

pub inverse-requires : goal.inverse-requires
inverse-requires g c = λ e.
    size_inverts g.F.RingCore.ring g.met.F.RingCore.ring_laws g.F.FieldCore.inv g.met.F.FieldCore.field_laws g.F.TwoAdicCore.TWO_ADICITY g.F.TwoAdicCore.root g.met.F.TwoAdicCore.root_laws
    c.args.log_size c.requires.subgroup (ap (of_nat g.F.RingCore.ring) (sym (size_of_shift c.args.log_size _ c.requires.subgroup g.met.F.TwoAdicCore.below_64)) ∙ (sym c.from_u64.ensures ∙ e))

pub inverse-requires-2 : goal.inverse-requires-2
inverse-requires-2 g c = λ e.
    root_inverts g.F.RingCore.ring g.met.F.RingCore.ring_laws g.F.FieldCore.inv g.met.F.FieldCore.field_laws g.F.TwoAdicCore.TWO_ADICITY g.F.TwoAdicCore.root g.met.F.TwoAdicCore.root_laws
    c.args.log_size c.requires.subgroup (sym c.two_adic_generator.ensures ∙ e)

-- none of the divisors is zero, and the quotients are the weights
division : (g : Over) (c : After-mul g)
    → ((i : ℕ) → i < length c.deref.result.now → get_or c.deref.result.now i g.EF.RingCore.ring.zero ≡ g.EF.RingCore.ring.zero → ⊥)
    × (map (λ x. g.EF.RingCore.ring.mul c.mul.result (g.EF.FieldCore.inv x)) c.deref.result.now ≡ tabulate (2 ^ c.args.log_size) (weight_at g.EF.RingCore.ring (2 ^ c.args.log_size) c.from_base-scale.result c.from_base-step.result c.mul-ratio.result))
division g c =
    let s = g.EF.RingCore.ring in
    let M = g.met.EF.RingCore.ring_laws in
    let P = g.met.EF.PrimeCharacteristicRing in
    let n = 2 ^ c.args.log_size in
    let scale = c.from_base-scale.result in
    let step = c.from_base-step.result in
    let ratio = c.mul-ratio.result in
    let generator : step ≡ g.EF.ExtensionField.embed (g.F.FieldCore.inv (g.F.TwoAdicCore.root c.args.log_size)) = cc (c.from_base-step.ensures, c.inverse-2.ensures, c.two_adic_generator.ensures) in
    let turns = inverse_root_turns g.F.RingCore.ring g.met.F.RingCore.ring_laws s M g.EF.ExtensionField.embed g.met.EF.ExtensionField.embed_laws g.F.FieldCore.inv g.met.F.FieldCore.field_laws g.F.TwoAdicCore.TWO_ADICITY g.F.TwoAdicCore.root g.met.F.TwoAdicCore.root_laws
    c.args.log_size step c.requires.subgroup generator in
    let vanishing : c.sub-vanishing.result ≡ sub s (pow s ratio n) s.one = P.subs _ _ _ c.sub-vanishing.ensures ∙ cc (c.exp_power_of_2.ensures, c.ONE.ensures, g.met.EF.RingCore.one_is) in
    let outside : sub s (pow s ratio n) s.one ≡ s.zero → ⊥ = λ e. let t : false ≡ true = c.if-is_zero.ensures.1 (vanishing ∙ e) in cc in
    let size = size_of_shift c.args.log_size _ c.requires.subgroup g.met.F.TwoAdicCore.below_64 in
    let divisors : c.deref.result.now ≡ tabulate n (ratio_minus_one s step ratio) = c.deref.ensures.value ∙ (c.in_ok-divisors.ensures ∙ ap (λ k. tabulate k (ratio_minus_one s step ratio)) size) in
    let factor : c.mul.result ≡ s.mul scale (sub s (pow s ratio n) s.one) = P.muls _ _ _ c.mul.ensures ∙ ap (s.mul scale) vanishing in (
      divisors_not_zero s M n step ratio turns g.EF.FieldCore.inv g.met.EF.FieldCore.field_laws outside n c.deref.result.now divisors,
      weights_by_division s M n step ratio turns g.EF.FieldCore.inv g.met.EF.FieldCore.field_laws outside n scale c.mul.result c.deref.result.now divisors factor,
    )

pub scaled_inverses-requires : goal.scaled_inverses-requires
scaled_inverses-requires g c = (division g c).0

pub returns-in_ok-divisors : goal.returns-in_ok-divisors
returns-in_ok-divisors g c =
    let s = g.EF.RingCore.ring in
    let n = 2 ^ c.args.log_size in
    let scale : c.from_base-scale.result ≡ g.EF.ExtensionField.embed (g.F.FieldCore.inv (of_nat g.F.RingCore.ring n)) = cc (c.from_base-scale.ensures, c.inverse.ensures, c.from_u64.ensures, size_of_shift c.args.log_size _ c.requires.subgroup g.met.F.TwoAdicCore.below_64) in
    let step : c.from_base-step.result ≡ g.EF.ExtensionField.embed (g.F.FieldCore.inv (g.F.TwoAdicCore.root c.args.log_size)) = cc (c.from_base-step.ensures, c.inverse-2.ensures, c.two_adic_generator.ensures) in
    let ratio : c.mul-ratio.result ≡ s.mul (g.EF.ExtensionField.embed (g.F.FieldCore.inv c.args.shift)) c.args.point = cc (g.met.EF.PrimeCharacteristicRing.muls _ _ _ c.mul-ratio.ensures, c.from_base.ensures, c.inverse-3.ensures) in
    let same : tabulate n (weight_at s n c.from_base-scale.result c.from_base-step.result c.mul-ratio.result)
    ≡ tabulate n (weight_at s n (g.EF.ExtensionField.embed (g.F.FieldCore.inv (of_nat g.F.RingCore.ring n))) (g.EF.ExtensionField.embed (g.F.FieldCore.inv (g.F.TwoAdicCore.root c.args.log_size))) (s.mul (g.EF.ExtensionField.embed (g.F.FieldCore.inv c.args.shift)) c.args.point)) = cc (scale, step, ratio) in
    let Q : List g.row.EF.Denot → Type 0 = λ l. IfOk c.scaled_inverses.result (λ v. v.items ≡ l) in
    subst Q ((division g (goal.at.returns-in_ok-divisors g c).After-mul).1 ∙ same) c.scaled_inverses.ensures
