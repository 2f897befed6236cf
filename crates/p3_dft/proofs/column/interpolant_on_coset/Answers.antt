use Rattle.std.proofs.Common.{◌≡◌, ◌<◌, ◌∙◌, List, sym, ap, subst, arith}
use Rattle.p3_field.specs.Domain.{coset_point, IsInterpolant}
use Rattle.p3_matrix.specs.Matrix.{Rows, column}
use Rattle.p3_dft.proofs.Columns.{only_column}
use Rattle.p3_dft.proofs.column.interpolant_on_coset.Goals as goal

pub returns : goal.returns
returns g c =
    let r = g.F.RingCore.ring in
    let m = c.new_col-m.result in
    let f = c.in_ok-coefficients.coefficients in
    let p = coset_point r c.args.shift (g.F.TwoAdicCore.root c.args.log_size) in
    let wide : m.width ≡ 1 = ap (λ (x : Rows g.row.F.Denot). x.width) c.new_col-m.ensures in
    let inside : 0 < m.width = omega (arith, wide) in
    let list : m.values ≡ c.args.values.now = ap (λ (x : Rows g.row.F.Denot). x.values) c.new_col-m.ensures ∙ c.in_ok-from_slice.ensures.items in
    let result : column r.zero f 0 ≡ c.coefficients.inside.values.items =
    only_column r.zero f (c.in_ok-coefficients.ensures.width ∙ wide) ∙ sym (ap (λ (x : Rows g.row.F.Denot). x.values) c.coefficients.view_is) in
    let here : IsInterpolant r p c.args.values.now (column r.zero f 0) =
    subst (λ (x : List g.row.F.Denot). IsInterpolant r p x (column r.zero f 0)) (only_column r.zero m wide ∙ list) (c.in_ok-coefficients.ensures.columns 0 inside) in
    subst (λ (x : List g.row.F.Denot). IsInterpolant r p c.args.values.now x) result here
