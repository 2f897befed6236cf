use Rattle.std.proofs.Common.{◌∙◌, map, sym, ap}
use Rattle.p3_field.specs.Poly.{eval_poly}
use Rattle.p3_field.specs.Domain.{vanishing_polynomial}
use Rattle.p3_field.specs.Laws.Roots.{field_no_zero_divisors}
use Rattle.p3_field.specs.Laws.TwoAdic.{decide_by}
use Rattle.p3_field.specs.Laws.Selectors.{vanishing_value, vanishing_only_there, vanishing_polynomial_vanishes}
use Rattle.commit_core.proofs.domain.TwoAdicMultiplicativeCosetPolynomialSpace.vanishing_poly_at_point.Goals as goal

pub returns-clause-value : goal.returns-clause-value
returns-clause-value g c =
    let r = g.F.RingCore.ring in
    let s = g.Ext.RingCore.ring in
    let M = g.met.Ext.PrimeCharacteristicRing in
    let R = g.met.Ext.RingCore in
    let d = c.args.self.now in
    let value = vanishing_value r g.met.F.RingCore.ring_laws s R.ring_laws g.Ext.ExtensionField.embed g.met.Ext.ExtensionField.embed_laws g.F.FieldCore.inv g.met.F.FieldCore.field_laws d c.args.point c.valid.ensures.0 in
    let product = M.muls _ _ _ c.mul.ensures in
    let difference = M.subs _ _ _ c.sub.ensures in
    let comm = R.ring_laws.mul_comm c.args.point c.from_base.result in
    cc (value, product, difference, comm, R.one_is, c.from_base.ensures, c.shift_inverse.ensures, c.exp_power_of_2.ensures, c.log_size.ensures)

pub returns-clause-zero : goal.returns-clause-zero
returns-clause-zero g c =
    let r = g.F.RingCore.ring in
    let L = g.met.F.RingCore.ring_laws in
    let s = g.Ext.RingCore.ring in
    let M = g.met.Ext.RingCore.ring_laws in
    let f = g.Ext.ExtensionField.embed in
    let H = g.met.Ext.ExtensionField.embed_laws in
    let inv = g.F.FieldCore.inv in
    let W = g.met.F.FieldCore.field_laws in
    let V = g.met.Ext.FieldCore.field_laws in
    let root = g.F.TwoAdicCore.root in
    let top = g.F.TwoAdicCore.TWO_ADICITY in
    let T = g.met.F.TwoAdicCore.root_laws in
    let d = c.args.self.now in
    let x = c.args.point in
    let value = returns-clause-value g c in
    let dec = decide_by _ g.met.Ext.FieldCore.eq_same g.met.Ext.FieldCore.same_eq in (
      λ z. vanishing_only_there r L s M f H inv W top root T dec V.one_differs (field_no_zero_divisors s M g.Ext.FieldCore.inv V) d x c.valid.ensures.0 c.valid.ensures.1 (sym value ∙ z),
      λ p. value ∙ (ap (λ y. eval_poly s (map f (vanishing_polynomial r inv d)) y) p.2 ∙ vanishing_polynomial_vanishes r L s M f H inv W top root T d p.0 c.valid.ensures.0 c.valid.ensures.1),
    )
