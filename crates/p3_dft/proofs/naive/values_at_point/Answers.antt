use Rattle.std.proofs.Common.{◌≡◌, ℕ, ◌∙◌, List, ap, arith, map-id}
use Rattle.p3_field.specs.Poly.{eval_poly, tabulate}
use Rattle.p3_field.specs.Laws.Tabulate.{tabulate_push}
use Rattle.p3_matrix.specs.Matrix.{column}
use Rattle.p3_dft.proofs.naive.values_at_point.Goals as goal

pub loop-j-preserved : goal.loop-j-preserved
loop-j-preserved g c =
    let r = g.F.RingCore.ring in
    let m = c.args.m.now in
    let x = c.args.point in
    let t = λ (j : ℕ). eval_poly r (column r.zero m j) x in
    let f : c.deref.result.now ≡ column r.zero m c.loop-j.j = c.deref.ensures.value ∙ c.in_ok-coefficients.ensures.values r.zero in
    c.in_ok-push.ensures.items ∙ tabulate_push c.loop-j.j t _ _ c.loop-j.invariant
    (c.polynomial_value.ensures ∙ (ap (λ (cs : List g.row.F.Denot). eval_poly r cs x) (map-id c.deref.result.now) ∙ ap (λ (cs : List g.row.F.Denot). eval_poly r cs x) f))

pub returns : goal.returns
returns g c =
    let r = g.F.RingCore.ring in
    let m = c.args.m.now in
    let last : c.loop-j.j ≡ m.width = omega (arith, c.width-j-end.ensures) in
    c.loop-j.invariant ∙ ap (λ (k : ℕ). tabulate k (λ j. eval_poly r (column r.zero m j) c.args.point)) last
