use Rattle.std.proofs.Common.{◌≡◌, ℕ, ◌^◌, ◌∙◌, sym, ap, arith, get_or}
use Rattle.std.proofs.lemmas.List.{get_or_read}
use Rattle.p3_field.specs.Ring.{of_nat}
use Rattle.p3_field.specs.Poly.{total}
use Rattle.p3_field.specs.Laws.Inverses.{root_inverts, size_inverts}
use Rattle.p3_field.specs.Laws.Tabulate.{total_more}
use Rattle.p3_matrix.specs.Interpolation.{weight_at}
use Rattle.p3_matrix.specs.Laws.Interpolants.{next_ratio, first_ratio, weight_is, interpolated_by_weights}
use Rattle.commit_core.proofs.interpolation.interpolated_at.Goals as goal

pub inverse-requires : goal.inverse-requires
inverse-requires g c = λ e.
    size_inverts g.F.RingCore.ring g.met.F.RingCore.ring_laws g.F.FieldCore.inv g.met.F.FieldCore.field_laws g.F.TwoAdicCore.TWO_ADICITY g.F.TwoAdicCore.root g.met.F.TwoAdicCore.root_laws
    c.args.domain.now.log_size c.valid.ensures.1 (ap (of_nat g.F.RingCore.ring) (sym c.size.ensures) ∙ (sym c.from_u64.ensures ∙ e))

pub inverse-requires-2 : goal.inverse-requires-2
inverse-requires-2 g c = λ e.
    root_inverts g.F.RingCore.ring g.met.F.RingCore.ring_laws g.F.FieldCore.inv g.met.F.FieldCore.field_laws g.F.TwoAdicCore.TWO_ADICITY g.F.TwoAdicCore.root g.met.F.TwoAdicCore.root_laws
    c.args.domain.now.log_size c.valid.ensures.1 (sym c.subgroup_generator.ensures ∙ e)

pub loop-value-init : goal.loop-value-init
loop-value-init g c = record {
  sum_is = c.ZERO-sum.ensures ∙ g.met.EF.RingCore.zero_is;
  ratio_is = first_ratio g.EF.RingCore.ring g.met.EF.RingCore.ring_laws c.from_base-step.result c.mul-ratio.result;
}

pub loop-value-preserved : goal.loop-value-preserved
loop-value-preserved g c =
    let s = g.EF.RingCore.ring in
    let M = g.met.EF.RingCore.ring_laws in
    let P = g.met.EF.PrimeCharacteristicRing in
    let f = g.EF.ExtensionField.embed in
    let zero = g.F.RingCore.ring.zero in
    let v = c.args.values.now in
    let i = c.loop-value.value-index in
    let n = 2 ^ c.log_size-log_size.result in
    let t = λ (k : ℕ). s.mul (f (get_or v k zero)) (weight_at s n c.from_base-scale.result c.from_base-step.result c.mul-ratio.result k) in
    let item = get_or_read v i c.value-item.result (omega arith) c.value-item.is zero in
    let weight = weight_is s M n c.from_base-scale.result c.from_base-step.result c.mul-ratio.result i _ _ _ c.loop-value.invariant.ratio_is c.sum_of_powers.ensures (P.muls _ _ _ c.mul.ensures) in
    record {
      sum_is = cc (P.adds _ _ _ c.add-sum.ensures, P.muls _ _ _ c.mul-in-loop-value.ensures, c.from_base-in-loop-value.ensures, item, weight, c.loop-value.invariant.sum_is, total_more s M i t);
      ratio_is = P.muls _ _ _ c.mul-ratio-in-loop-value.ensures ∙ (ap (s.mul c.from_base-step.result) c.loop-value.invariant.ratio_is ∙ next_ratio s M c.from_base-step.result c.mul-ratio.result i);
    }

pub returns : goal.returns
returns g c =
    let r = g.F.RingCore.ring in
    let s = g.EF.RingCore.ring in
    let M = g.met.EF.RingCore.ring_laws in
    let P = g.met.EF.PrimeCharacteristicRing in
    let f = g.EF.ExtensionField.embed in
    let inv = g.F.FieldCore.inv in
    let d = c.args.domain.now in
    let k = d.log_size in
    let v = c.args.values.now in
    let x = c.args.x in
    let n : c.loop-value.value-index ≡ 2 ^ k = omega (arith, c.requires) in
    let size : c.from_u64.result ≡ of_nat r (2 ^ k) = c.from_u64.ensures ∙ ap (of_nat r) c.size.ensures in
    let scale : c.from_base-scale.result ≡ f (inv (of_nat r (2 ^ k))) = c.from_base-scale.ensures ∙ ap f (c.inverse.ensures ∙ ap inv size) in
    let step : c.from_base-step.result ≡ f (inv (g.F.TwoAdicCore.root k)) = c.from_base-step.ensures ∙ ap f (c.inverse-2.ensures ∙ ap inv c.subgroup_generator.ensures) in
    let ratio : c.mul-ratio.result ≡ s.mul (f (inv d.shift)) x = cc (P.muls _ _ _ c.mul-ratio.ensures, c.from_base.ensures, c.shift_inverse.ensures) in
    let sum : c.loop-value.sum ≡ total s (2 ^ k) (λ i. s.mul (f (get_or v i r.zero)) (weight_at s (2 ^ k) (f (inv (of_nat r (2 ^ k)))) (f (inv (g.F.TwoAdicCore.root k))) (s.mul (f (inv d.shift)) x) i)) =
    c.loop-value.invariant.sum_is
    ∙ (ap (λ m. total s m (λ i. s.mul (f (get_or v i r.zero)) (weight_at s (2 ^ c.log_size-log_size.result) c.from_base-scale.result c.from_base-step.result c.mul-ratio.result i))) n
    ∙ (ap (λ l. total s (2 ^ k) (λ i. s.mul (f (get_or v i r.zero)) (weight_at s (2 ^ l) c.from_base-scale.result c.from_base-step.result c.mul-ratio.result i))) c.log_size-log_size.ensures
    ∙ (ap (λ z. total s (2 ^ k) (λ i. s.mul (f (get_or v i r.zero)) (weight_at s (2 ^ k) z c.from_base-step.result c.mul-ratio.result i))) scale
    ∙ (ap (λ z. total s (2 ^ k) (λ i. s.mul (f (get_or v i r.zero)) (weight_at s (2 ^ k) (f (inv (of_nat r (2 ^ k)))) z c.mul-ratio.result i))) step
    ∙ ap (λ z. total s (2 ^ k) (λ i. s.mul (f (get_or v i r.zero)) (weight_at s (2 ^ k) (f (inv (of_nat r (2 ^ k)))) (f (inv (g.F.TwoAdicCore.root k))) z i))) ratio)))) in
    interpolated_by_weights r g.met.F.RingCore.ring_laws s M f g.met.EF.ExtensionField.embed_laws inv g.met.F.FieldCore.field_laws g.F.TwoAdicCore.TWO_ADICITY g.F.TwoAdicCore.root g.met.F.TwoAdicCore.root_laws
    k d.shift v x c.loop-value.sum c.valid.ensures.1 c.valid.ensures.0 c.requires sum
