use Rattle.std.proofs.Common.{◌≡◌, ◌-◌, ◌^◌, sym, ◌∙◌, ap}
use Rattle.p3_field.specs.Ring.{sub}
use Rattle.p3_field.specs.Poly.{eval_poly, tabulate}
use Rattle.p3_field.specs.Domain.{coset_point, point, vanishing_polynomial}
use Rattle.p3_field.specs.Laws.Inverses.{root_inverts}
use Rattle.p3_field.specs.Laws.TwoAdic.{decide_by}
use Rattle.commit_core.specs.Laws.SelectorLaws.{from_first, from_last, nonzero_items, inverse_list, first_not_zero_at, last_not_zero_at, transition_list}
use Rattle.prover_values.proofs.Selecting.{some, values_not_zero, firsts, lasts}
use Rattle.prover_values.proofs.selectors.row_selectors.Goals as goal

pub inverse-last_place-requires : goal.inverse-last_place-requires
inverse-last_place-requires g c = λ e.
    root_inverts g.F.RingCore.ring g.met.F.RingCore.ring_laws g.F.FieldCore.inv g.met.F.FieldCore.field_laws g.F.TwoAdicCore.TWO_ADICITY g.F.TwoAdicCore.root g.met.F.TwoAdicCore.root_laws
    c.args.trace_domain.now.log_size c.valid.ensures.1 (sym c.subgroup_generator.ensures ∙ e)

pub repeated_quotients-requires-clause-some : goal.repeated_quotients-requires-clause-some
repeated_quotients-requires-clause-some g c =
    let r = g.F.RingCore.ring in
    let L = g.met.F.RingCore.ring_laws in
    let inv = g.F.FieldCore.inv in
    let W = g.met.F.FieldCore.field_laws in
    let top = g.F.TwoAdicCore.TWO_ADICITY in
    let root = g.F.TwoAdicCore.root in
    let T = g.met.F.TwoAdicCore.root_laws in
    let dec = decide_by _ g.met.F.FieldCore.eq_same g.met.F.FieldCore.same_eq in
    let d = c.args.trace_domain.now in
    let e = c.args.quotient_domain.now in
    some r L inv W top root T dec d e c.valid.ensures.0 c.valid.ensures.1 c.requires.disjoint c.requires.larger c.valid-2.ensures.1 c.deref.result.now (c.deref.ensures.value ∙ c.in_ok-vanishing.ensures)

pub repeated_quotients-requires-clause-nonzero : goal.repeated_quotients-requires-clause-nonzero
repeated_quotients-requires-clause-nonzero g c =
    let r = g.F.RingCore.ring in
    let L = g.met.F.RingCore.ring_laws in
    let inv = g.F.FieldCore.inv in
    let W = g.met.F.FieldCore.field_laws in
    let top = g.F.TwoAdicCore.TWO_ADICITY in
    let root = g.F.TwoAdicCore.root in
    let T = g.met.F.TwoAdicCore.root_laws in
    let dec = decide_by _ g.met.F.FieldCore.eq_same g.met.F.FieldCore.same_eq in
    let d = c.args.trace_domain.now in
    let e = c.args.quotient_domain.now in
    let xs : c.in_ok-from_first.from_first.items ≡ tabulate (2 ^ e.log_size) (from_first r L inv W top root T dec d e c.valid.ensures.0 c.valid.ensures.1 c.requires.disjoint) =
    c.in_ok-from_first.ensures ∙ ap (λ o. tabulate (2 ^ e.log_size) (λ i. sub r (coset_point r (r.mul (inv d.shift) e.shift) (root e.log_size) i) o)) (c.ONE.ensures ∙ g.met.F.RingCore.one_is) in
    nonzero_items r.zero c.deref-2.result.now (2 ^ e.log_size) (from_first r L inv W top root T dec d e c.valid.ensures.0 c.valid.ensures.1 c.requires.disjoint) (c.deref-2.ensures.value ∙ xs) (first_not_zero_at r L inv W top root T dec d e c.valid.ensures.0 c.valid.ensures.1 c.requires.disjoint)

pub repeated_quotients-requires-2-clause-some : goal.repeated_quotients-requires-2-clause-some
repeated_quotients-requires-2-clause-some g c =
    let r = g.F.RingCore.ring in
    let L = g.met.F.RingCore.ring_laws in
    let inv = g.F.FieldCore.inv in
    let W = g.met.F.FieldCore.field_laws in
    let top = g.F.TwoAdicCore.TWO_ADICITY in
    let root = g.F.TwoAdicCore.root in
    let T = g.met.F.TwoAdicCore.root_laws in
    let dec = decide_by _ g.met.F.FieldCore.eq_same g.met.F.FieldCore.same_eq in
    let d = c.args.trace_domain.now in
    let e = c.args.quotient_domain.now in
    some r L inv W top root T dec d e c.valid.ensures.0 c.valid.ensures.1 c.requires.disjoint c.requires.larger c.valid-2.ensures.1 c.deref-3.result.now (c.deref-3.ensures.value ∙ c.in_ok-vanishing.ensures)

pub repeated_quotients-requires-2-clause-nonzero : goal.repeated_quotients-requires-2-clause-nonzero
repeated_quotients-requires-2-clause-nonzero g c =
    let r = g.F.RingCore.ring in
    let L = g.met.F.RingCore.ring_laws in
    let inv = g.F.FieldCore.inv in
    let W = g.met.F.FieldCore.field_laws in
    let top = g.F.TwoAdicCore.TWO_ADICITY in
    let root = g.F.TwoAdicCore.root in
    let T = g.met.F.TwoAdicCore.root_laws in
    let dec = decide_by _ g.met.F.FieldCore.eq_same g.met.F.FieldCore.same_eq in
    let d = c.args.trace_domain.now in
    let e = c.args.quotient_domain.now in
    let xs : c.in_ok-from_last.from_last.items ≡ tabulate (2 ^ e.log_size) (from_last r L inv W top root T dec d e c.valid.ensures.0 c.valid.ensures.1 c.requires.disjoint) =
    c.in_ok-from_last.ensures ∙ ap (λ o. tabulate (2 ^ e.log_size) (λ i. sub r (coset_point r (r.mul (inv d.shift) e.shift) (root e.log_size) i) o)) (c.inverse-last_place.ensures ∙ ap inv c.subgroup_generator.ensures) in
    nonzero_items r.zero c.deref-4.result.now (2 ^ e.log_size) (from_last r L inv W top root T dec d e c.valid.ensures.0 c.valid.ensures.1 c.requires.disjoint) (c.deref-4.ensures.value ∙ xs) (last_not_zero_at r L inv W top root T dec d e c.valid.ensures.0 c.valid.ensures.1 c.requires.disjoint)

pub batch_multiplicative_inverse-requires : goal.batch_multiplicative_inverse-requires
batch_multiplicative_inverse-requires g c =
    let r = g.F.RingCore.ring in
    let L = g.met.F.RingCore.ring_laws in
    let inv = g.F.FieldCore.inv in
    let W = g.met.F.FieldCore.field_laws in
    let top = g.F.TwoAdicCore.TWO_ADICITY in
    let root = g.F.TwoAdicCore.root in
    let T = g.met.F.TwoAdicCore.root_laws in
    let dec = decide_by _ g.met.F.FieldCore.eq_same g.met.F.FieldCore.same_eq in
    let d = c.args.trace_domain.now in
    let e = c.args.quotient_domain.now in
    values_not_zero r L inv W top root T dec d e c.valid.ensures.0 c.valid.ensures.1 c.requires.disjoint c.requires.larger c.valid-2.ensures.1 c.deref-5.result.now (c.deref-5.ensures.value ∙ c.in_ok-vanishing.ensures)

pub returns-clause-first : goal.returns-clause-first
returns-clause-first g c =
    let r = g.F.RingCore.ring in
    let L = g.met.F.RingCore.ring_laws in
    let inv = g.F.FieldCore.inv in
    let W = g.met.F.FieldCore.field_laws in
    let top = g.F.TwoAdicCore.TWO_ADICITY in
    let root = g.F.TwoAdicCore.root in
    let T = g.met.F.TwoAdicCore.root_laws in
    let dec = decide_by _ g.met.F.FieldCore.eq_same g.met.F.FieldCore.same_eq in
    let d = c.args.trace_domain.now in
    let e = c.args.quotient_domain.now in
    let xs : c.in_ok-from_first.from_first.items ≡ tabulate (2 ^ e.log_size) (from_first r L inv W top root T dec d e c.valid.ensures.0 c.valid.ensures.1 c.requires.disjoint) =
    c.in_ok-from_first.ensures ∙ ap (λ o. tabulate (2 ^ e.log_size) (λ i. sub r (coset_point r (r.mul (inv d.shift) e.shift) (root e.log_size) i) o)) (c.ONE.ensures ∙ g.met.F.RingCore.one_is) in
    c.in_ok-repeated_quotients.ensures ∙ firsts r L inv W top root T dec d e c.valid.ensures.0 c.valid.ensures.1 c.requires.disjoint c.requires.larger c.valid-2.ensures.1 c.deref.result.now (c.deref.ensures.value ∙ c.in_ok-vanishing.ensures) c.deref-2.result.now (c.deref-2.ensures.value ∙ xs)

pub returns-clause-last : goal.returns-clause-last
returns-clause-last g c =
    let r = g.F.RingCore.ring in
    let L = g.met.F.RingCore.ring_laws in
    let inv = g.F.FieldCore.inv in
    let W = g.met.F.FieldCore.field_laws in
    let top = g.F.TwoAdicCore.TWO_ADICITY in
    let root = g.F.TwoAdicCore.root in
    let T = g.met.F.TwoAdicCore.root_laws in
    let dec = decide_by _ g.met.F.FieldCore.eq_same g.met.F.FieldCore.same_eq in
    let d = c.args.trace_domain.now in
    let e = c.args.quotient_domain.now in
    let xs : c.in_ok-from_last.from_last.items ≡ tabulate (2 ^ e.log_size) (from_last r L inv W top root T dec d e c.valid.ensures.0 c.valid.ensures.1 c.requires.disjoint) =
    c.in_ok-from_last.ensures ∙ ap (λ o. tabulate (2 ^ e.log_size) (λ i. sub r (coset_point r (r.mul (inv d.shift) e.shift) (root e.log_size) i) o)) (c.inverse-last_place.ensures ∙ ap inv c.subgroup_generator.ensures) in
    c.in_ok-repeated_quotients-2.ensures ∙ lasts r L inv W top root T dec d e c.valid.ensures.0 c.valid.ensures.1 c.requires.disjoint c.requires.larger c.valid-2.ensures.1 c.deref-3.result.now (c.deref-3.ensures.value ∙ c.in_ok-vanishing.ensures) c.deref-4.result.now (c.deref-4.ensures.value ∙ xs)

pub returns-clause-transition : goal.returns-clause-transition
returns-clause-transition g c =
    let r = g.F.RingCore.ring in
    let L = g.met.F.RingCore.ring_laws in
    let inv = g.F.FieldCore.inv in
    let W = g.met.F.FieldCore.field_laws in
    let top = g.F.TwoAdicCore.TWO_ADICITY in
    let root = g.F.TwoAdicCore.root in
    let T = g.met.F.TwoAdicCore.root_laws in
    let dec = decide_by _ g.met.F.FieldCore.eq_same g.met.F.FieldCore.same_eq in
    let d = c.args.trace_domain.now in
    let e = c.args.quotient_domain.now in
    let xs : c.in_ok-from_last.from_last.items ≡ tabulate (2 ^ e.log_size) (from_last r L inv W top root T dec d e c.valid.ensures.0 c.valid.ensures.1 c.requires.disjoint) =
    c.in_ok-from_last.ensures ∙ ap (λ o. tabulate (2 ^ e.log_size) (λ i. sub r (coset_point r (r.mul (inv d.shift) e.shift) (root e.log_size) i) o)) (c.inverse-last_place.ensures ∙ ap inv c.subgroup_generator.ensures) in
    transition_list r L inv W top root T dec d e c.valid.ensures.0 c.valid.ensures.1 c.requires.disjoint c.in_ok-from_last.from_last.items xs

pub returns-clause-inverse : goal.returns-clause-inverse
returns-clause-inverse g c =
    let r = g.F.RingCore.ring in
    let L = g.met.F.RingCore.ring_laws in
    let inv = g.F.FieldCore.inv in
    let W = g.met.F.FieldCore.field_laws in
    let top = g.F.TwoAdicCore.TWO_ADICITY in
    let root = g.F.TwoAdicCore.root in
    let T = g.met.F.TwoAdicCore.root_laws in
    let dec = decide_by _ g.met.F.FieldCore.eq_same g.met.F.FieldCore.same_eq in
    let d = c.args.trace_domain.now in
    let e = c.args.quotient_domain.now in
    c.in_ok-batch_multiplicative_inverse.ensures ∙ inverse_list inv c.deref-5.result.now (2 ^ (e.log_size - d.log_size)) (λ i. eval_poly r (vanishing_polynomial r inv d) (point r root e i)) (c.deref-5.ensures.value ∙ c.in_ok-vanishing.ensures)
