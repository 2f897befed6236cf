use Rattle.std.proofs.Common.{◌≡◌, ◌+◌, ◌-◌, ◌^◌, ◌≤◌, ◌∙◌, inl, inr, sym, ap, arith}
use Rattle.std.proofs.lemmas.Option.{MatchOption-at_some}
use Rattle.p3_field.specs.Ring.{pow}
use Rattle.p3_field.specs.Laws.Roots.{field_no_zero_divisors}
use Rattle.commit_core.specs.Laws.Repeated.{power_not_zero}
use Rattle.commit_core.specs.Laws.Periods.{period_below}
use Rattle.commit_core.specs.Laws.Options.{match_some}
use Rattle.commit_core.proofs.PeriodWeights.{weights_are}
use Rattle.commit_core.proofs.periodic_values.period_weights.Goals as goal

pub overflow_sub-folds : goal.overflow_sub-folds
overflow_sub-folds g c =
    omega (arith, period_below c.log2_strict_usize-log_period.result c.args.domain.now.log_size c.args.period c.log2_strict_usize-log_period.ensures c.requires.1, c.log_size.ensures)

pub unwrap-coset-requires : goal.unwrap-coset-requires
unwrap-coset-requires g c =
    let r = g.F.RingCore.ring in
    let W = g.met.F.FieldCore.field_laws in
    let N = field_no_zero_divisors r g.met.F.RingCore.ring_laws g.F.FieldCore.inv W in
    let k = c.log2_strict_usize-log_period.result in
    let n = c.args.domain.now.log_size in
    match_some c.new.result _ _
    (λ p. elim p [
      | inl over ↦ omega (arith, over, c.valid.ensures.1, period_below k n c.args.period c.log2_strict_usize-log_period.ensures c.requires.1, c.log_size.ensures)
      | inr zero ↦ power_not_zero r N W.one_differs c.shift.result (2 ^ (c.log_size.result - k)) (λ z. c.valid.ensures.0 (sym c.shift.ensures ∙ z)) (sym c.exp_power_of_2-shift.ensures ∙ zero)
    ])
    c.new.ensures

pub returns : goal.returns
returns g c =
    let r = g.F.RingCore.ring in
    let s = g.EF.RingCore.ring in
    let f = g.EF.ExtensionField.embed in
    let root = g.F.TwoAdicCore.root in
    let d = c.args.domain.now in
    let e = c.unwrap-coset.result in
    let k = c.log2_strict_usize-log_period.result in
    let a = c.log_size.result - k in
    let q = MatchOption-at_some _ _ e c.unwrap-coset.ensures c.new.ensures in
    let below : k ≤ d.log_size = period_below k d.log_size c.args.period c.log2_strict_usize-log_period.ensures c.requires.1 in
    let sum : e.log_size + a ≡ d.log_size = omega (arith, q.1, c.log_size.ensures) in
    let shift : e.shift ≡ pow r d.shift (2 ^ a) = q.0 ∙ (c.exp_power_of_2-shift.ensures ∙ ap (λ z. pow r z (2 ^ a)) c.shift.ensures) in
    let size : c.args.period ≡ 2 ^ e.log_size = c.log2_strict_usize-log_period.ensures ∙ ap (λ j. 2 ^ j) (sym q.1) in
    weights_are r g.met.F.RingCore.ring_laws s g.met.EF.RingCore.ring_laws f g.met.EF.ExtensionField.embed_laws g.F.FieldCore.inv g.met.F.FieldCore.field_laws g.F.TwoAdicCore.TWO_ADICITY root g.met.F.TwoAdicCore.root_laws
    d e a c.args.period c.args.x c.exp_power_of_2.result c.in_ok-weights.weights.items c.valid.ensures.1 sum shift size (λ z. q.3 (sym q.0 ∙ z)) c.exp_power_of_2.ensures c.in_ok-weights.ensures
