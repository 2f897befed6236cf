use Rattle.std.proofs.Common.{◌≡◌, ℕ, ◌^◌, ◌∙◌, sym, ap, List, length, get_or, map}
use Rattle.p3_field.specs.Ring.{Ring, sub}
use Rattle.p3_field.specs.Poly.{eval_poly, tabulate}
use Rattle.p3_field.specs.Domain.{coset_point, point, vanishing_polynomial, first_selector, last_selector}
use Rattle.p3_field.specs.Laws.Inverses.{root_inverts}
use Rattle.p3_field.specs.Laws.TwoAdic.{decide_by}
use Rattle.commit_core.specs.Laws.SelectorLaws.{nonzero_items, same_count, quotient_list, inverse_list, vanishing_not_zero, from_first, from_last, first_not_zero_at, last_not_zero_at, first_at, last_at, transition_list}
use Rattle.commit_core.proofs.selectors.selectors_on.Goals as goal

-- a list of points, each less an equal element
less : {A : Type 0} (xs : List A) (n : ℕ) (r : Ring A) (p q o o' : A) → xs ≡ tabulate n (λ i. sub r (coset_point r p q i) o) → o ≡ o' → xs ≡ tabulate n (λ i. sub r (coset_point r p q i) o')
less xs n r p q o o' h z = h ∙ ap (λ v. tabulate n (λ i. sub r (coset_point r p q i) v)) z

pub inverse-before_first-requires : goal.inverse-before_first-requires
inverse-before_first-requires g c = λ e.
    root_inverts g.F.RingCore.ring g.met.F.RingCore.ring_laws g.F.FieldCore.inv g.met.F.FieldCore.field_laws g.F.TwoAdicCore.TWO_ADICITY g.F.TwoAdicCore.root g.met.F.TwoAdicCore.root_laws
    c.args.domain.now.log_size c.valid.ensures.1 (sym c.subgroup_generator.ensures ∙ e)

pub quotients-requires-clause-same : goal.quotients-requires-clause-same
quotients-requires-clause-same g c = same_count c.deref.result.now c.deref-2.result.now (2 ^ c.args.coset.now.log_size) _ _ (c.deref.ensures.value ∙ c.in_ok-vanishing.ensures) (c.deref-2.ensures.value ∙ c.in_ok-from_first.ensures)

pub quotients-requires-clause-nonzero : goal.quotients-requires-clause-nonzero
quotients-requires-clause-nonzero g c =
    let r = g.F.RingCore.ring in
    let L = g.met.F.RingCore.ring_laws in
    let inv = g.F.FieldCore.inv in
    let W = g.met.F.FieldCore.field_laws in
    let top = g.F.TwoAdicCore.TWO_ADICITY in
    let root = g.F.TwoAdicCore.root in
    let T = g.met.F.TwoAdicCore.root_laws in
    let dec = decide_by _ g.met.F.FieldCore.eq_same g.met.F.FieldCore.same_eq in
    let d = c.args.domain.now in
    let e = c.args.coset.now in
    let firsts : c.in_ok-from_first.from_first.items ≡ tabulate (2 ^ e.log_size) (from_first r L inv W top root T dec d e c.valid.ensures.0 c.valid.ensures.1 c.requires) =
    less c.in_ok-from_first.from_first.items (2 ^ e.log_size) r (r.mul (inv d.shift) e.shift) (root e.log_size) c.ONE.result r.one c.in_ok-from_first.ensures (c.ONE.ensures ∙ g.met.F.RingCore.one_is) in
    nonzero_items r.zero c.deref-2.result.now (2 ^ e.log_size) (from_first r L inv W top root T dec d e c.valid.ensures.0 c.valid.ensures.1 c.requires) (c.deref-2.ensures.value ∙ firsts) (first_not_zero_at r L inv W top root T dec d e c.valid.ensures.0 c.valid.ensures.1 c.requires)

pub quotients-requires-2-clause-same : goal.quotients-requires-2-clause-same
quotients-requires-2-clause-same g c =
    same_count c.deref-3.result.now c.deref-4.result.now (2 ^ c.args.coset.now.log_size) _ _ (c.deref-3.ensures.value ∙ c.in_ok-vanishing.ensures) (c.deref-4.ensures.value ∙ c.in_ok-from_last.ensures)

pub quotients-requires-2-clause-nonzero : goal.quotients-requires-2-clause-nonzero
quotients-requires-2-clause-nonzero g c =
    let r = g.F.RingCore.ring in
    let L = g.met.F.RingCore.ring_laws in
    let inv = g.F.FieldCore.inv in
    let W = g.met.F.FieldCore.field_laws in
    let top = g.F.TwoAdicCore.TWO_ADICITY in
    let root = g.F.TwoAdicCore.root in
    let T = g.met.F.TwoAdicCore.root_laws in
    let dec = decide_by _ g.met.F.FieldCore.eq_same g.met.F.FieldCore.same_eq in
    let d = c.args.domain.now in
    let e = c.args.coset.now in
    let lasts : c.in_ok-from_last.from_last.items ≡ tabulate (2 ^ e.log_size) (from_last r L inv W top root T dec d e c.valid.ensures.0 c.valid.ensures.1 c.requires) =
    less c.in_ok-from_last.from_last.items (2 ^ e.log_size) r (r.mul (inv d.shift) e.shift) (root e.log_size) c.inverse-before_first.result (inv (root d.log_size)) c.in_ok-from_last.ensures
    (c.inverse-before_first.ensures ∙ ap inv c.subgroup_generator.ensures) in
    nonzero_items r.zero c.deref-4.result.now (2 ^ e.log_size) (from_last r L inv W top root T dec d e c.valid.ensures.0 c.valid.ensures.1 c.requires) (c.deref-4.ensures.value ∙ lasts) (last_not_zero_at r L inv W top root T dec d e c.valid.ensures.0 c.valid.ensures.1 c.requires)

pub batch_multiplicative_inverse-requires : goal.batch_multiplicative_inverse-requires
batch_multiplicative_inverse-requires g c =
    let r = g.F.RingCore.ring in
    let L = g.met.F.RingCore.ring_laws in
    let inv = g.F.FieldCore.inv in
    let W = g.met.F.FieldCore.field_laws in
    let top = g.F.TwoAdicCore.TWO_ADICITY in
    let root = g.F.TwoAdicCore.root in
    let T = g.met.F.TwoAdicCore.root_laws in
    let dec = decide_by _ g.met.F.FieldCore.eq_same g.met.F.FieldCore.same_eq in
    let d = c.args.domain.now in
    let e = c.args.coset.now in
    nonzero_items r.zero c.deref-5.result.now (2 ^ e.log_size) (λ i. eval_poly r (vanishing_polynomial r inv d) (point r root e i)) (c.deref-5.ensures.value ∙ c.in_ok-vanishing.ensures) (vanishing_not_zero r L inv W top root T dec d e c.valid.ensures.0 c.valid.ensures.1 c.requires)

pub returns-clause-first : goal.returns-clause-first
returns-clause-first g c =
    let r = g.F.RingCore.ring in
    let L = g.met.F.RingCore.ring_laws in
    let inv = g.F.FieldCore.inv in
    let W = g.met.F.FieldCore.field_laws in
    let top = g.F.TwoAdicCore.TWO_ADICITY in
    let root = g.F.TwoAdicCore.root in
    let T = g.met.F.TwoAdicCore.root_laws in
    let dec = decide_by _ g.met.F.FieldCore.eq_same g.met.F.FieldCore.same_eq in
    let d = c.args.domain.now in
    let e = c.args.coset.now in
    let firsts : c.in_ok-from_first.from_first.items ≡ tabulate (2 ^ e.log_size) (from_first r L inv W top root T dec d e c.valid.ensures.0 c.valid.ensures.1 c.requires) =
    less c.in_ok-from_first.from_first.items (2 ^ e.log_size) r (r.mul (inv d.shift) e.shift) (root e.log_size) c.ONE.result r.one c.in_ok-from_first.ensures (c.ONE.ensures ∙ g.met.F.RingCore.one_is) in
    let made : c.in_ok-quotients.field-0.items ≡ tabulate (length c.deref.result.now) (λ i. r.mul (get_or c.deref.result.now i r.zero) (inv (get_or c.deref-2.result.now i r.zero))) = c.in_ok-quotients.ensures in
    made ∙ quotient_list r inv c.deref.result.now c.deref-2.result.now (2 ^ e.log_size) (λ i. eval_poly r (vanishing_polynomial r inv d) (point r root e i)) (from_first r L inv W top root T dec d e c.valid.ensures.0 c.valid.ensures.1 c.requires) (λ i. eval_poly r (first_selector r inv d) (point r root e i))
    (c.deref.ensures.value ∙ c.in_ok-vanishing.ensures) (c.deref-2.ensures.value ∙ firsts) (first_at r L inv W top root T dec d e c.valid.ensures.0 c.valid.ensures.1 c.requires)

pub returns-clause-last : goal.returns-clause-last
returns-clause-last g c =
    let r = g.F.RingCore.ring in
    let L = g.met.F.RingCore.ring_laws in
    let inv = g.F.FieldCore.inv in
    let W = g.met.F.FieldCore.field_laws in
    let top = g.F.TwoAdicCore.TWO_ADICITY in
    let root = g.F.TwoAdicCore.root in
    let T = g.met.F.TwoAdicCore.root_laws in
    let dec = decide_by _ g.met.F.FieldCore.eq_same g.met.F.FieldCore.same_eq in
    let d = c.args.domain.now in
    let e = c.args.coset.now in
    let lasts : c.in_ok-from_last.from_last.items ≡ tabulate (2 ^ e.log_size) (from_last r L inv W top root T dec d e c.valid.ensures.0 c.valid.ensures.1 c.requires) =
    less c.in_ok-from_last.from_last.items (2 ^ e.log_size) r (r.mul (inv d.shift) e.shift) (root e.log_size) c.inverse-before_first.result (inv (root d.log_size)) c.in_ok-from_last.ensures
    (c.inverse-before_first.ensures ∙ ap inv c.subgroup_generator.ensures) in
    let made : c.in_ok-quotients-2.field-0.items ≡ tabulate (length c.deref-3.result.now) (λ i. r.mul (get_or c.deref-3.result.now i r.zero) (inv (get_or c.deref-4.result.now i r.zero))) = c.in_ok-quotients-2.ensures in
    made ∙ quotient_list r inv c.deref-3.result.now c.deref-4.result.now (2 ^ e.log_size) (λ i. eval_poly r (vanishing_polynomial r inv d) (point r root e i)) (from_last r L inv W top root T dec d e c.valid.ensures.0 c.valid.ensures.1 c.requires) (λ i. eval_poly r (last_selector r inv root d) (point r root e i))
    (c.deref-3.ensures.value ∙ c.in_ok-vanishing.ensures) (c.deref-4.ensures.value ∙ lasts) (last_at r L inv W top root T dec d e c.valid.ensures.0 c.valid.ensures.1 c.requires)

pub returns-clause-transition : goal.returns-clause-transition
returns-clause-transition g c =
    let r = g.F.RingCore.ring in
    let L = g.met.F.RingCore.ring_laws in
    let inv = g.F.FieldCore.inv in
    let W = g.met.F.FieldCore.field_laws in
    let top = g.F.TwoAdicCore.TWO_ADICITY in
    let root = g.F.TwoAdicCore.root in
    let T = g.met.F.TwoAdicCore.root_laws in
    let dec = decide_by _ g.met.F.FieldCore.eq_same g.met.F.FieldCore.same_eq in
    let d = c.args.domain.now in
    let e = c.args.coset.now in
    let lasts : c.in_ok-from_last.from_last.items ≡ tabulate (2 ^ e.log_size) (from_last r L inv W top root T dec d e c.valid.ensures.0 c.valid.ensures.1 c.requires) =
    less c.in_ok-from_last.from_last.items (2 ^ e.log_size) r (r.mul (inv d.shift) e.shift) (root e.log_size) c.inverse-before_first.result (inv (root d.log_size)) c.in_ok-from_last.ensures
    (c.inverse-before_first.ensures ∙ ap inv c.subgroup_generator.ensures) in
    transition_list r L inv W top root T dec d e c.valid.ensures.0 c.valid.ensures.1 c.requires c.in_ok-from_last.from_last.items lasts

pub returns-clause-inverse : goal.returns-clause-inverse
returns-clause-inverse g c =
    let r = g.F.RingCore.ring in
    let inv = g.F.FieldCore.inv in
    let root = g.F.TwoAdicCore.root in
    let d = c.args.domain.now in
    let e = c.args.coset.now in
    let made : c.in_ok-batch_multiplicative_inverse.field-0.items ≡ map inv c.deref-5.result.now = c.in_ok-batch_multiplicative_inverse.ensures in
    made ∙ inverse_list inv c.deref-5.result.now (2 ^ e.log_size) (λ i. eval_poly r (vanishing_polynomial r inv d) (point r root e i)) (c.deref-5.ensures.value ∙ c.in_ok-vanishing.ensures)
