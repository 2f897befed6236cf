use Rattle.std.proofs.Common.{◌≡◌, ◌^◌, ◌∙◌, sym, ap, arith}
use Rattle.p3_field.specs.Ring.{of_nat}
use Rattle.p3_field.specs.Laws.Inverses.{root_inverts, size_inverts}
use Rattle.p3_field.specs.Laws.Tabulate.{tabulate_push}
use Rattle.p3_matrix.specs.Interpolation.{weight_at}
use Rattle.p3_matrix.specs.Laws.Interpolants.{next_ratio, first_ratio, weight_is}
use Rattle.commit_core.proofs.interpolation.weights_at.Goals as goal

pub inverse-requires : goal.inverse-requires
inverse-requires g c = λ e.
    size_inverts g.F.RingCore.ring g.met.F.RingCore.ring_laws g.F.FieldCore.inv g.met.F.FieldCore.field_laws g.F.TwoAdicCore.TWO_ADICITY g.F.TwoAdicCore.root g.met.F.TwoAdicCore.root_laws
    c.args.domain.now.log_size c.valid.ensures.1 (ap (of_nat g.F.RingCore.ring) (sym c.size-size.ensures) ∙ (sym c.from_u64.ensures ∙ e))

pub inverse-requires-2 : goal.inverse-requires-2
inverse-requires-2 g c = λ e.
    root_inverts g.F.RingCore.ring g.met.F.RingCore.ring_laws g.F.FieldCore.inv g.met.F.FieldCore.field_laws g.F.TwoAdicCore.TWO_ADICITY g.F.TwoAdicCore.root g.met.F.TwoAdicCore.root_laws
    c.args.domain.now.log_size c.valid.ensures.1 (sym c.subgroup_generator.ensures ∙ e)

pub loop-init : goal.loop-init
loop-init g c = record {
  weights_so_far = c.in_ok-weights.ensures.items;
  ratio_is = first_ratio g.EF.RingCore.ring g.met.EF.RingCore.ring_laws c.from_base-step.result c.mul-ratio.result;
}

pub loop-preserved : goal.loop-preserved
loop-preserved g c =
    let s = g.EF.RingCore.ring in
    let M = g.met.EF.RingCore.ring_laws in
    let P = g.met.EF.PrimeCharacteristicRing in
    let n = 2 ^ c.log_size-log_size.result in
    let i = c.loop.counter in
    let weight = weight_is s M n c.from_base-scale.result c.from_base-step.result c.mul-ratio.result i _ _ _ c.loop.invariant.ratio_is c.sum_of_powers.ensures (P.muls _ _ _ c.mul.ensures) in
    record {
      weights_so_far = c.in_ok-push.ensures.items ∙ tabulate_push i (weight_at s n c.from_base-scale.result c.from_base-step.result c.mul-ratio.result) _ _ c.loop.invariant.weights_so_far weight;
      ratio_is = P.muls _ _ _ c.mul-ratio-in-loop.ensures ∙ (ap (s.mul c.from_base-step.result) c.loop.invariant.ratio_is ∙ next_ratio s M c.from_base-step.result c.mul-ratio.result i);
    }

pub returns : goal.returns
returns g c =
    let r = g.F.RingCore.ring in
    let s = g.EF.RingCore.ring in
    let P = g.met.EF.PrimeCharacteristicRing in
    let f = g.EF.ExtensionField.embed in
    let inv = g.F.FieldCore.inv in
    let d = c.args.domain.now in
    let k = d.log_size in
    let n : c.loop.counter ≡ 2 ^ k = omega (arith, c.size-size.ensures) in
    let size : c.from_u64.result ≡ of_nat r (2 ^ k) = c.from_u64.ensures ∙ ap (of_nat r) c.size-size.ensures in
    let scale : c.from_base-scale.result ≡ f (inv (of_nat r (2 ^ k))) = c.from_base-scale.ensures ∙ ap f (c.inverse.ensures ∙ ap inv size) in
    let step : c.from_base-step.result ≡ f (inv (g.F.TwoAdicCore.root k)) = c.from_base-step.ensures ∙ ap f (c.inverse-2.ensures ∙ ap inv c.subgroup_generator.ensures) in
    let ratio : c.mul-ratio.result ≡ s.mul (f (inv d.shift)) c.args.x = cc (P.muls _ _ _ c.mul-ratio.ensures, c.from_base.ensures, c.shift_inverse.ensures) in
    cc (c.loop.invariant.weights_so_far, n, c.log_size-log_size.ensures, scale, step, ratio)
