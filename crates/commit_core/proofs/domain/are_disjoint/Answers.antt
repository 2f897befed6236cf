use Rattle.std.proofs.Common.{◌≡◌, ◌^◌, ◌∙◌, Bool, true, false, refl, sym}
use Rattle.std.specs.Prelude.{IsTrue, not, max}
use Rattle.p3_field.specs.Ring.{pow, sub}
use Rattle.p3_field.specs.Laws.Roots.{sub_zero, sub_self}
use Rattle.p3_field.specs.Laws.TwoAdic.{decide_by}
use Rattle.commit_core.proofs.Disjoint.{disjoint_by_ratio, meet_by_ratio}
use Rattle.commit_core.proofs.domain.are_disjoint.Goals as goal

not_both : (b : Bool) → IsTrue (not b) → IsTrue b → ⊥
not_both true h k = cc
not_both false h k = cc

not_true : (b : Bool) → (IsTrue b → ⊥) → IsTrue (not b)
not_true true h = absurd (h refl)
not_true false h = refl

pub returns : goal.returns
returns g c =
    let r = g.F.RingCore.ring in
    let L = g.met.F.RingCore.ring_laws in
    let inv = g.F.FieldCore.inv in
    let W = g.met.F.FieldCore.field_laws in
    let top = g.F.TwoAdicCore.TWO_ADICITY in
    let root = g.F.TwoAdicCore.root in
    let T = g.met.F.TwoAdicCore.root_laws in
    let P = g.met.F.PrimeCharacteristicRing in
    let d = c.args.first.now in
    let e = c.args.second.now in
    let dec = decide_by _ g.met.F.FieldCore.eq_same g.met.F.FieldCore.same_eq in
    let power = pow r (r.mul d.shift (inv e.shift)) (2 ^ max d.log_size e.log_size) in
    let difference : c.sub.result ≡ sub r power r.one =
    cc (P.subs _ _ _ c.sub.ensures, c.exp_power_of_2.ensures, P.muls _ _ _ c.mul-ratio.ensures, c.shift.ensures, c.shift_inverse.ensures, c.max-log_size.ensures, c.log_size.ensures, c.log_size-2.ensures, c.ONE.ensures, g.met.F.RingCore.one_is) in (
      λ t. disjoint_by_ratio r L inv W top root T d e c.valid-2.ensures.0 c.valid.ensures.1 c.valid-2.ensures.1
          (λ q. not_both c.is_zero.result t (c.is_zero.ensures.1 (difference ∙ sub_self r L power r.one q))),
      λ apart. not_true c.is_zero.result
          (λ z. meet_by_ratio r L inv W top root T dec d e c.valid-2.ensures.0 c.valid.ensures.1 c.valid-2.ensures.1 apart (sub_zero r L power r.one (sym difference ∙ c.is_zero.ensures.0 z))),
    )
