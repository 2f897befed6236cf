use Rattle.std.proofs.Common.{◌≡◌, ◌∙◌}
use Rattle.p3_field.specs.Laws.TwoAdic.{decide_by}
use Rattle.commit_core.specs.Laws.SelectorLaws.{vanishing_list}
use Rattle.commit_core.proofs.selectors.vanishing_on.Goals as goal

pub returns : goal.returns
returns g c =
    let r = g.F.RingCore.ring in
    let inv = g.F.FieldCore.inv in
    let root = g.F.TwoAdicCore.root in
    let d = c.args.domain.now in
    let e = c.args.coset.now in
    let P = g.met.F.PrimeCharacteristicRing in
    let dec = decide_by _ g.met.F.FieldCore.eq_same g.met.F.FieldCore.same_eq in
    let ratio : c.mul-ratio.result ≡ r.mul (inv d.shift) e.shift = cc (P.muls _ _ _ c.mul-ratio.ensures, c.shift_inverse.ensures, c.shift.ensures) in
    vanishing_list r g.met.F.RingCore.ring_laws inv g.met.F.FieldCore.field_laws g.F.TwoAdicCore.TWO_ADICITY root g.met.F.TwoAdicCore.root_laws dec d e c.valid.ensures.0 c.valid.ensures.1 c.requires
    c.in_ok-values.values.items c.size-size.result c.exp_power_of_2.result c.exp_power_of_2-2.result c.ONE.result c.in_ok-values.ensures c.size-size.ensures
    (cc (c.exp_power_of_2.ensures, ratio, c.log_size-log_size.ensures)) (cc (c.exp_power_of_2-2.ensures, c.subgroup_generator-step.ensures, c.log_size-log_size.ensures)) (c.ONE.ensures ∙ g.met.F.RingCore.one_is)
