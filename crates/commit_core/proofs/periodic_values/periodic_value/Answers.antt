use Rattle.std.proofs.Common.{◌≡◌, ◌+◌, ◌-◌, ◌^◌, ◌≤◌, ◌∙◌, inl, inr, length, subst, sym, ap, arith}
use Rattle.std.proofs.lemmas.Option.{MatchOption-at_some}
use Rattle.p3_field.specs.Ring.{pow}
use Rattle.p3_field.specs.Domain.{point}
use Rattle.p3_field.specs.Laws.Roots.{field_no_zero_divisors}
use Rattle.p3_matrix.specs.Interpolation.{IsInterpolatedAt}
use Rattle.commit_core.specs.Laws.Repeated.{power_not_zero, periodic_on_coset}
use Rattle.commit_core.specs.Laws.Periods.{period_below}
use Rattle.commit_core.specs.Laws.Options.{match_some}
use Rattle.commit_core.proofs.periodic_values.periodic_value.Goals as goal

pub overflow_sub-folds : goal.overflow_sub-folds
overflow_sub-folds g c =
    omega (arith, period_below c.log2_strict_usize-log_period.result c.args.domain.now.log_size (length c.args.column.now) c.log2_strict_usize-log_period.ensures c.requires.1, c.log_size.ensures)

pub unwrap-period-requires : goal.unwrap-period-requires
unwrap-period-requires g c =
    let r = g.F.RingCore.ring in
    let W = g.met.F.FieldCore.field_laws in
    let N = field_no_zero_divisors r g.met.F.RingCore.ring_laws g.F.FieldCore.inv W in
    let k = c.log2_strict_usize-log_period.result in
    let n = c.args.domain.now.log_size in
    match_some c.new.result _ _
    (λ p. elim p [
      | inl over ↦ omega (arith, over, c.valid.ensures.1, period_below k n (length c.args.column.now) c.log2_strict_usize-log_period.ensures c.requires.1, c.log_size.ensures)
      | inr zero ↦ power_not_zero r N W.one_differs c.shift.result (2 ^ (c.log_size.result - k)) (λ z. c.valid.ensures.0 (sym c.shift.ensures ∙ z)) (sym c.exp_power_of_2-shift.ensures ∙ zero)
    ])
    c.new.ensures

pub returns : goal.returns
returns g c =
    let r = g.F.RingCore.ring in
    let s = g.EF.RingCore.ring in
    let f = g.EF.ExtensionField.embed in
    let root = g.F.TwoAdicCore.root in
    let d = c.args.domain.now in
    let e = c.unwrap-period.result in
    let k = c.log2_strict_usize-log_period.result in
    let a = c.log_size.result - k in
    let q = MatchOption-at_some _ _ e c.unwrap-period.ensures c.new.ensures in
    let below : k ≤ d.log_size = period_below k d.log_size (length c.args.column.now) c.log2_strict_usize-log_period.ensures c.requires.1 in
    let sum : e.log_size + a ≡ d.log_size = omega (arith, q.1, c.log_size.ensures) in
    let shift : e.shift ≡ pow r d.shift (2 ^ a) = q.0 ∙ (c.exp_power_of_2-shift.ensures ∙ ap (λ z. pow r z (2 ^ a)) c.shift.ensures) in
    let size : length c.args.column.now ≡ 2 ^ e.log_size = c.log2_strict_usize-log_period.ensures ∙ ap (λ j. 2 ^ j) (sym q.1) in
    let at : IsInterpolatedAt r s f (point r root e) c.args.column.now (pow s c.args.x (2 ^ a)) c.interpolated_at.result =
    subst (λ z. IsInterpolatedAt r s f (point r root e) c.args.column.now z c.interpolated_at.result) c.exp_power_of_2.ensures c.interpolated_at.ensures in
    periodic_on_coset r g.met.F.RingCore.ring_laws s g.met.EF.RingCore.ring_laws f g.met.EF.ExtensionField.embed_laws g.F.TwoAdicCore.TWO_ADICITY root g.met.F.TwoAdicCore.root_laws
    d e a c.args.column.now c.args.x c.interpolated_at.result c.valid.ensures.1 sum shift size at
