use Rattle.std.proofs.Common.{◌≡◌, ◌∙◌, sym, ap, map}
use Rattle.p3_field.specs.Ring.{sub}
use Rattle.p3_field.specs.Poly.{eval_poly}
use Rattle.p3_field.specs.Domain.{vanishing_polynomial}
use Rattle.p3_field.specs.Laws.Inverses.{root_inverts}
use Rattle.p3_field.specs.Laws.TwoAdic.{decide_by}
use Rattle.p3_field.specs.Laws.Selectors.{vanishing_value, transition_selector_value}
use Rattle.commit_core.specs.Laws.SelectorLaws.{vanishing_polynomial_not_zero, first_not_zero, last_not_zero, first_is, last_is}
use Rattle.commit_core.proofs.selectors.selectors_at.Goals as goal

pub inverse-requires : goal.inverse-requires
inverse-requires g c = λ e.
    root_inverts g.F.RingCore.ring g.met.F.RingCore.ring_laws g.F.FieldCore.inv g.met.F.FieldCore.field_laws g.F.TwoAdicCore.TWO_ADICITY g.F.TwoAdicCore.root g.met.F.TwoAdicCore.root_laws
    c.args.domain.now.log_size c.valid.ensures.1 (sym c.subgroup_generator.ensures ∙ e)

pub inverse-requires-2 : goal.inverse-requires-2
inverse-requires-2 g c =
    let r = g.F.RingCore.ring in
    let L = g.met.F.RingCore.ring_laws in
    let inv = g.F.FieldCore.inv in
    let W = g.met.F.FieldCore.field_laws in
    let top = g.F.TwoAdicCore.TWO_ADICITY in
    let root = g.F.TwoAdicCore.root in
    let T = g.met.F.TwoAdicCore.root_laws in
    let s = g.EF.RingCore.ring in
    let M = g.met.EF.RingCore.ring_laws in
    let f = g.EF.ExtensionField.embed in
    let H = g.met.EF.ExtensionField.embed_laws in
    let P = g.met.EF.PrimeCharacteristicRing in
    let d = c.args.domain.now in
    let x = c.args.x in
    let dec = decide_by _ g.met.EF.FieldCore.eq_same g.met.EF.FieldCore.same_eq in
    let ratio : c.mul-ratio.result ≡ s.mul (f (inv d.shift)) x = cc (P.muls _ _ _ c.mul-ratio.ensures, c.from_base.ensures, c.shift_inverse.ensures) in
    let from_first : c.sub-from_first.result ≡ sub s (s.mul (f (inv d.shift)) x) s.one = cc (P.subs _ _ _ c.sub-from_first.ensures, ratio, c.ONE-2.ensures, g.met.EF.RingCore.one_is) in
    λ e. first_not_zero r L s M f H inv W top root T g.EF.FieldCore.inv g.met.EF.FieldCore.field_laws dec d c.valid.ensures.0 c.valid.ensures.1 x c.requires (sym from_first ∙ e)

pub inverse-requires-3 : goal.inverse-requires-3
inverse-requires-3 g c =
    let r = g.F.RingCore.ring in
    let L = g.met.F.RingCore.ring_laws in
    let inv = g.F.FieldCore.inv in
    let W = g.met.F.FieldCore.field_laws in
    let top = g.F.TwoAdicCore.TWO_ADICITY in
    let root = g.F.TwoAdicCore.root in
    let T = g.met.F.TwoAdicCore.root_laws in
    let s = g.EF.RingCore.ring in
    let M = g.met.EF.RingCore.ring_laws in
    let f = g.EF.ExtensionField.embed in
    let H = g.met.EF.ExtensionField.embed_laws in
    let P = g.met.EF.PrimeCharacteristicRing in
    let d = c.args.domain.now in
    let x = c.args.x in
    let dec = decide_by _ g.met.EF.FieldCore.eq_same g.met.EF.FieldCore.same_eq in
    let ratio : c.mul-ratio.result ≡ s.mul (f (inv d.shift)) x = cc (P.muls _ _ _ c.mul-ratio.ensures, c.from_base.ensures, c.shift_inverse.ensures) in
    let from_last : c.sub-from_last.result ≡ sub s (s.mul (f (inv d.shift)) x) (f (inv (root d.log_size))) = cc (P.subs _ _ _ c.sub-from_last.ensures, ratio, c.from_base-2.ensures, c.inverse.ensures, c.subgroup_generator.ensures) in
    λ e. last_not_zero r L s M f H inv W top root T g.EF.FieldCore.inv g.met.EF.FieldCore.field_laws dec d c.valid.ensures.0 c.valid.ensures.1 x c.requires (sym from_last ∙ e)

pub inverse-requires-4 : goal.inverse-requires-4
inverse-requires-4 g c =
    let r = g.F.RingCore.ring in
    let L = g.met.F.RingCore.ring_laws in
    let inv = g.F.FieldCore.inv in
    let W = g.met.F.FieldCore.field_laws in
    let top = g.F.TwoAdicCore.TWO_ADICITY in
    let root = g.F.TwoAdicCore.root in
    let T = g.met.F.TwoAdicCore.root_laws in
    let s = g.EF.RingCore.ring in
    let M = g.met.EF.RingCore.ring_laws in
    let f = g.EF.ExtensionField.embed in
    let H = g.met.EF.ExtensionField.embed_laws in
    let P = g.met.EF.PrimeCharacteristicRing in
    let d = c.args.domain.now in
    let x = c.args.x in
    let dec = decide_by _ g.met.EF.FieldCore.eq_same g.met.EF.FieldCore.same_eq in
    let ratio : c.mul-ratio.result ≡ s.mul (f (inv d.shift)) x = cc (P.muls _ _ _ c.mul-ratio.ensures, c.from_base.ensures, c.shift_inverse.ensures) in
    let vanishing : c.sub-vanishing.result ≡ eval_poly s (map f (vanishing_polynomial r inv d)) x =
    cc (vanishing_value r L s M f H inv W d x c.valid.ensures.0, P.subs _ _ _ c.sub-vanishing.ensures, c.exp_power_of_2.ensures, c.log_size.ensures, ratio, c.ONE.ensures, g.met.EF.RingCore.one_is) in
    λ e. vanishing_polynomial_not_zero r L s M f H inv W top root T g.EF.FieldCore.inv g.met.EF.FieldCore.field_laws dec d c.valid.ensures.0 c.valid.ensures.1 x c.requires (sym vanishing ∙ e)

pub returns-clause-first : goal.returns-clause-first
returns-clause-first g c =
    let r = g.F.RingCore.ring in
    let L = g.met.F.RingCore.ring_laws in
    let inv = g.F.FieldCore.inv in
    let W = g.met.F.FieldCore.field_laws in
    let top = g.F.TwoAdicCore.TWO_ADICITY in
    let root = g.F.TwoAdicCore.root in
    let T = g.met.F.TwoAdicCore.root_laws in
    let s = g.EF.RingCore.ring in
    let M = g.met.EF.RingCore.ring_laws in
    let f = g.EF.ExtensionField.embed in
    let H = g.met.EF.ExtensionField.embed_laws in
    let P = g.met.EF.PrimeCharacteristicRing in
    let d = c.args.domain.now in
    let x = c.args.x in
    let dec = decide_by _ g.met.EF.FieldCore.eq_same g.met.EF.FieldCore.same_eq in
    let ratio : c.mul-ratio.result ≡ s.mul (f (inv d.shift)) x = cc (P.muls _ _ _ c.mul-ratio.ensures, c.from_base.ensures, c.shift_inverse.ensures) in
    let from_first : c.sub-from_first.result ≡ sub s (s.mul (f (inv d.shift)) x) s.one = cc (P.subs _ _ _ c.sub-from_first.ensures, ratio, c.ONE-2.ensures, g.met.EF.RingCore.one_is) in
    let vanishing : c.sub-vanishing.result ≡ eval_poly s (map f (vanishing_polynomial r inv d)) x =
    cc (vanishing_value r L s M f H inv W d x c.valid.ensures.0, P.subs _ _ _ c.sub-vanishing.ensures, c.exp_power_of_2.ensures, c.log_size.ensures, ratio, c.ONE.ensures, g.met.EF.RingCore.one_is) in
    cc (P.muls _ _ _ c.mul.ensures, vanishing, c.inverse-2.ensures, from_first, first_is r L s M f H inv W top root T g.EF.FieldCore.inv g.met.EF.FieldCore.field_laws dec d c.valid.ensures.0 c.valid.ensures.1 x c.requires)

pub returns-clause-last : goal.returns-clause-last
returns-clause-last g c =
    let r = g.F.RingCore.ring in
    let L = g.met.F.RingCore.ring_laws in
    let inv = g.F.FieldCore.inv in
    let W = g.met.F.FieldCore.field_laws in
    let top = g.F.TwoAdicCore.TWO_ADICITY in
    let root = g.F.TwoAdicCore.root in
    let T = g.met.F.TwoAdicCore.root_laws in
    let s = g.EF.RingCore.ring in
    let M = g.met.EF.RingCore.ring_laws in
    let f = g.EF.ExtensionField.embed in
    let H = g.met.EF.ExtensionField.embed_laws in
    let P = g.met.EF.PrimeCharacteristicRing in
    let d = c.args.domain.now in
    let x = c.args.x in
    let dec = decide_by _ g.met.EF.FieldCore.eq_same g.met.EF.FieldCore.same_eq in
    let ratio : c.mul-ratio.result ≡ s.mul (f (inv d.shift)) x = cc (P.muls _ _ _ c.mul-ratio.ensures, c.from_base.ensures, c.shift_inverse.ensures) in
    let from_last : c.sub-from_last.result ≡ sub s (s.mul (f (inv d.shift)) x) (f (inv (root d.log_size))) = cc (P.subs _ _ _ c.sub-from_last.ensures, ratio, c.from_base-2.ensures, c.inverse.ensures, c.subgroup_generator.ensures) in
    let vanishing : c.sub-vanishing.result ≡ eval_poly s (map f (vanishing_polynomial r inv d)) x =
    cc (vanishing_value r L s M f H inv W d x c.valid.ensures.0, P.subs _ _ _ c.sub-vanishing.ensures, c.exp_power_of_2.ensures, c.log_size.ensures, ratio, c.ONE.ensures, g.met.EF.RingCore.one_is) in
    cc (P.muls _ _ _ c.mul-2.ensures, vanishing, c.inverse-3.ensures, from_last, last_is r L s M f H inv W top root T g.EF.FieldCore.inv g.met.EF.FieldCore.field_laws dec d c.valid.ensures.0 c.valid.ensures.1 x c.requires)

pub returns-clause-transition : goal.returns-clause-transition
returns-clause-transition g c =
    let r = g.F.RingCore.ring in
    let L = g.met.F.RingCore.ring_laws in
    let inv = g.F.FieldCore.inv in
    let W = g.met.F.FieldCore.field_laws in
    let top = g.F.TwoAdicCore.TWO_ADICITY in
    let root = g.F.TwoAdicCore.root in
    let T = g.met.F.TwoAdicCore.root_laws in
    let s = g.EF.RingCore.ring in
    let M = g.met.EF.RingCore.ring_laws in
    let f = g.EF.ExtensionField.embed in
    let H = g.met.EF.ExtensionField.embed_laws in
    let P = g.met.EF.PrimeCharacteristicRing in
    let d = c.args.domain.now in
    let x = c.args.x in
    let dec = decide_by _ g.met.EF.FieldCore.eq_same g.met.EF.FieldCore.same_eq in
    let ratio : c.mul-ratio.result ≡ s.mul (f (inv d.shift)) x = cc (P.muls _ _ _ c.mul-ratio.ensures, c.from_base.ensures, c.shift_inverse.ensures) in
    let from_last : c.sub-from_last.result ≡ sub s (s.mul (f (inv d.shift)) x) (f (inv (root d.log_size))) = cc (P.subs _ _ _ c.sub-from_last.ensures, ratio, c.from_base-2.ensures, c.inverse.ensures, c.subgroup_generator.ensures) in
    from_last ∙ sym (transition_selector_value r L s M f H inv W root d x)

pub returns-clause-inverse : goal.returns-clause-inverse
returns-clause-inverse g c =
    let r = g.F.RingCore.ring in
    let L = g.met.F.RingCore.ring_laws in
    let inv = g.F.FieldCore.inv in
    let W = g.met.F.FieldCore.field_laws in
    let top = g.F.TwoAdicCore.TWO_ADICITY in
    let root = g.F.TwoAdicCore.root in
    let T = g.met.F.TwoAdicCore.root_laws in
    let s = g.EF.RingCore.ring in
    let M = g.met.EF.RingCore.ring_laws in
    let f = g.EF.ExtensionField.embed in
    let H = g.met.EF.ExtensionField.embed_laws in
    let P = g.met.EF.PrimeCharacteristicRing in
    let d = c.args.domain.now in
    let x = c.args.x in
    let dec = decide_by _ g.met.EF.FieldCore.eq_same g.met.EF.FieldCore.same_eq in
    let ratio : c.mul-ratio.result ≡ s.mul (f (inv d.shift)) x = cc (P.muls _ _ _ c.mul-ratio.ensures, c.from_base.ensures, c.shift_inverse.ensures) in
    let vanishing : c.sub-vanishing.result ≡ eval_poly s (map f (vanishing_polynomial r inv d)) x =
    cc (vanishing_value r L s M f H inv W d x c.valid.ensures.0, P.subs _ _ _ c.sub-vanishing.ensures, c.exp_power_of_2.ensures, c.log_size.ensures, ratio, c.ONE.ensures, g.met.EF.RingCore.one_is) in
    c.inverse-4.ensures ∙ ap g.EF.FieldCore.inv vanishing
