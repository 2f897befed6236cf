use Rattle.std.proofs.Common.{◌-◌, ◌^◌, ◌∙◌, inl, inr, sym, ap, arith}
use Rattle.p3_field.specs.Ring.{pow}
use Rattle.p3_field.specs.Laws.Roots.{field_no_zero_divisors}
use Rattle.commit_core.specs.Laws.Repeated.{power_not_zero}
use Rattle.plain_pcs.proofs.PeriodicTables.{same_domain}
use Rattle.plain_pcs.proofs.evaluating.powers_of.Goals as goal

pub unreachable-requires : goal.unreachable-requires
unreachable-requires g c =
    let r = g.F.RingCore.ring in
    let W = g.met.F.FieldCore.field_laws in
    let N = field_no_zero_divisors r g.met.F.RingCore.ring_laws g.F.FieldCore.inv W in
    elim c.in-None.ensures [
      | inl over ↦ omega (arith, over, c.valid.ensures.1, c.log_size.ensures)
      | inr zero ↦ power_not_zero r N W.one_differs c.shift.result (2 ^ c.args.folds) (λ z. c.valid.ensures.0 (sym c.shift.ensures ∙ z)) (sym c.exp_power_of_2-shift.ensures ∙ zero)
    ]

pub returns : goal.returns
returns g c =
    let r = g.F.RingCore.ring in
    same_domain c.in-Some.powers (pow r c.args.domain.shift (2 ^ c.args.folds)) (c.args.domain.log_size - c.args.folds)
    (c.in-Some.ensures.0 ∙ (c.exp_power_of_2-shift.ensures ∙ ap (λ z. pow r z (2 ^ c.args.folds)) c.shift.ensures))
    (c.in-Some.ensures.1 ∙ ap (λ n. n - c.args.folds) c.log_size.ensures)
