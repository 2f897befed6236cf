use Rattle.std.proofs.Common.{◌≡◌, ◌+◌, ◌*◌, ◌/◌, ◌<◌, ◌∙◌, sym, ap, arith, length, get_or}
use Rattle.std.proofs.lemmas.List.{get_or_read, length_push}
use Rattle.p3_field.specs.Poly.{tabulate}
use Rattle.p3_field.specs.Laws.Tabulate.{tabulate_push}
use Rattle.p3_matrix.specs.Matrix.{Rows, height, column as column_of}
use Rattle.p3_matrix.specs.Laws.Grids.{in_grid}
use Rattle.p3_matrix.proofs.dense.RowMajorMatrix.column.Goals as goal

pub loop-row-preserved : goal.loop-row-preserved
loop-row-preserved g c =
    let values = c.self.inside.values.items in
    let w = c.self.inside.width in
    let i = c.loop-row.row in
    let at = i * w + c.args.column in
    let rows : height c.args.self.now ≡ length values / w = ap (λ (v : Rows g.row.F.Denot). height v) (sym c.self.view_is) in
    let width : c.args.self.now.width ≡ w = ap (λ (v : Rows g.row.F.Denot). v.width) (sym c.self.view_is) in
    let below : at < length values = in_grid i c.args.column (length values / w) w (length values) c.self.invariant (omega (arith, c.height-height.ensures.result)) (omega arith) in
    record {
      count = ap length c.in_ok-push.ensures.items ∙ omega (arith, length_push c.loop-row.values.items c.index.result.now);
      items = λ d. c.in_ok-push.ensures.items ∙ tabulate_push i (λ k. get_or values (k * w + c.args.column) d) _ _ (c.loop-row.invariant.items d) (get_or_read values at c.index.result.now below c.index.ensures d);
    }

pub returns-clause-count : goal.returns-clause-count
returns-clause-count g c = omega (arith, c.loop-row.invariant.count, c.height-height.ensures.result)

pub returns-clause-values : goal.returns-clause-values
unfolding column_of
returns-clause-values g c = λ d.
    let values = c.self.inside.values.items in
    let w = c.self.inside.width in
    let rows : height c.args.self.now ≡ length values / w = ap (λ (v : Rows g.row.F.Denot). height v) (sym c.self.view_is) in
    let n : c.loop-row.row ≡ length values / w = omega (arith, c.height-height.ensures.result) in
    c.loop-row.invariant.items d ∙ (ap (λ k. tabulate k (λ i. get_or values (i * w + c.args.column) d)) n
    ∙ ap (λ (v : Rows g.row.F.Denot). column_of d v c.args.column) c.self.view_is)
