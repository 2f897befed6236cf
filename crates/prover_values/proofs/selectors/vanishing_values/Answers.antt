use Rattle.std.proofs.Common.{ℕ, ◌∙◌, ap}
use Rattle.std.proofs.lemmas.List.{map-id}
use Rattle.p3_field.specs.Poly.{eval_poly}
use Rattle.p3_field.specs.Domain.{point, vanishing_polynomial}
use Rattle.p3_field.specs.Laws.Tabulate.{tabulate_push}
use Rattle.prover_values.proofs.selectors.vanishing_values.Goals as goal

pub loop-i-preserved : goal.loop-i-preserved
loop-i-preserved g c =
    let r = g.F.RingCore.ring in
    let V = vanishing_polynomial r g.F.FieldCore.inv c.args.trace_domain.now in
    let t = λ (i : ℕ). eval_poly r V (point r g.F.TwoAdicCore.root c.args.quotient_domain.now i) in
    c.in_ok-push.ensures.items
    ∙ tabulate_push c.loop-i.i t _ _ c.loop-i.invariant (c.vanishing_poly_at_point.ensures.value ∙ (ap (λ l. eval_poly r l c.point.result) (map-id V) ∙ ap (eval_poly r V) c.point.ensures))
