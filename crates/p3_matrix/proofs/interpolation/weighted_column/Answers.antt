use Rattle.std.proofs.Common.{◌≡◌, ℕ, ◌+◌, ◌*◌, ◌/◌, ◌<◌, ◌∙◌, sym, ap, arith, get_or, length}
use Rattle.std.proofs.lemmas.List.{get_or_read}
use Rattle.p3_field.specs.Laws.Tabulate.{total_more}
use Rattle.p3_matrix.specs.Matrix.{Rows, height}
use Rattle.p3_matrix.specs.Laws.Grids.{in_grid}
use Rattle.p3_matrix.proofs.interpolation.weighted_column.Goals as goal

pub loop-row-preserved : goal.loop-row-preserved
loop-row-preserved g c =
    let s = g.EF.RingCore.ring in
    let P = g.met.EF.PrimeCharacteristicRing in
    let i = c.loop-row.row in
    let weight = get_or_read c.args.weights.now i c.index-weights-row.result (omega arith) c.index-weights-row.is s.zero in
    let values = c.m.inside.values.items in
    let at = i * c.m.inside.width + c.args.column in
    let t = λ (k : ℕ). s.mul (g.EF.ExtensionField.embed (get_or values (k * c.m.inside.width + c.args.column) g.F.RingCore.ring.zero)) (get_or c.args.weights.now k s.zero) in
    let rows : length c.args.weights.now ≡ length values / c.m.inside.width = c.requires.rows ∙ ap (λ (v : Rows g.row.F.Denot). height v) (sym c.m.view_is) in
    let width : c.args.m.now.width ≡ c.m.inside.width = ap (λ (v : Rows g.row.F.Denot). v.width) (sym c.m.view_is) in
    let below : at < length values = in_grid i c.args.column (length values / c.m.inside.width) c.m.inside.width (length values) c.m.invariant (omega arith) (omega arith) in
    let item = get_or_read values at c.index.result.now below c.index.ensures g.F.RingCore.ring.zero in
    cc (P.adds _ _ _ c.add-sum.ensures, P.muls _ _ _ c.mul.ensures, c.from_base.ensures, item, weight, c.loop-row.invariant, total_more s g.met.EF.RingCore.ring_laws i t)
