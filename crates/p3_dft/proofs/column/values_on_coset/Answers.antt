use Rattle.std.proofs.Common.{◌≡◌, ◌^◌, ◌<◌, ◌∙◌, sym, ap, arith}
use Rattle.p3_field.specs.Domain.{coset_point}
use Rattle.p3_matrix.specs.Matrix.{Rows}
use Rattle.p3_dft.specs.Transform.{values_at}
use Rattle.p3_dft.proofs.Columns.{only_column}
use Rattle.p3_dft.proofs.column.values_on_coset.Goals as goal

pub returns : goal.returns
returns g c =
    let r = g.F.RingCore.ring in
    let m = c.new_col-m.result in
    let v = c.in_ok-values.values in
    let p = coset_point r c.args.shift (g.F.TwoAdicCore.root c.args.log_size) in
    let wide : m.width ≡ 1 = ap (λ (x : Rows g.row.F.Denot). x.width) c.new_col-m.ensures in
    let inside : 0 < m.width = omega (arith, wide) in
    let list : m.values ≡ c.args.coefficients.now = ap (λ (x : Rows g.row.F.Denot). x.values) c.new_col-m.ensures ∙ c.in_ok-from_slice.ensures.items in
    ap (λ (x : Rows g.row.F.Denot). x.values) c.values.view_is
    ∙ (sym (only_column r.zero v (c.in_ok-values.ensures.width ∙ wide))
    ∙ (c.in_ok-values.ensures.columns 0 inside ∙ ap (values_at r p (2 ^ c.args.log_size)) (only_column r.zero m wide ∙ list)))
