use Rattle.std.proofs.Common.{◌≡◌, ℕ, ◌^◌, ◌<◌, ◌≤◌, ◌∙◌, sym, ap, arith, get_or, length}
use Rattle.p3_field.specs.Poly.{total, tabulate}
use Rattle.p3_field.specs.Laws.Tabulate.{tabulate_push, length-tabulate, get_or-tabulate}
use Rattle.p3_matrix.specs.Matrix.{height, cell_at}
use Rattle.p3_matrix.specs.Laws.Powers.{power_le_cancel, power_cancel}
use Rattle.p3_field.specs.Ring.{of_nat}
use Rattle.p3_matrix.specs.Interpolation.{weight_at}
use Rattle.p3_matrix.specs.Laws.Interpolants.{interpolated_column}
use Rattle.p3_matrix.proofs.interpolation.interpolate_coset.Goals as goal

pub interpolation_weights-requires-clause-subgroup : goal.interpolation_weights-requires-clause-subgroup
interpolation_weights-requires-clause-subgroup g c =
    power_le_cancel c.log2_strict_usize.result g.F.TwoAdicCore.TWO_ADICITY (omega (arith, c.height.ensures.result, c.log2_strict_usize.ensures, c.requires.subgroup))

pub weighted_column-requires-clause-rows : goal.weighted_column-requires-clause-rows
weighted_column-requires-clause-rows g c =
    ap length (c.deref.ensures.value ∙ c.in_ok-weights.ensures) ∙ (length-tabulate (2 ^ c.log2_strict_usize.result) _ ∙ (sym c.log2_strict_usize.ensures ∙ c.height.ensures.result))

pub loop-column-preserved : goal.loop-column-preserved
loop-column-preserved g c =
    let s = g.EF.RingCore.ring in
    let t = λ (j : ℕ). total s (height c.args.m.now) (λ i. s.mul (g.EF.ExtensionField.embed (cell_at g.F.RingCore.ring.zero c.args.m.now i j)) (get_or c.in_ok-weights.weights.items i s.zero)) in
    c.in_ok-push.ensures.items ∙ tabulate_push c.loop-column.column t _ _ c.loop-column.invariant
    (c.weighted_column.ensures ∙ ap (λ ws. total s (height c.args.m.now) (λ i. s.mul (g.EF.ExtensionField.embed (cell_at g.F.RingCore.ring.zero c.args.m.now i c.loop-column.column)) (get_or ws i s.zero))) c.deref.ensures.value)

pub returns-clause-width : goal.returns-clause-width
returns-clause-width g c =
    let n : c.loop-column.column ≡ c.args.m.now.width = omega (arith, c.width-column-end.ensures) in
    ap length c.loop-column.invariant ∙ (length-tabulate c.loop-column.column _ ∙ n)

pub returns-clause-values : goal.returns-clause-values
returns-clause-values g c = λ j k below power.
    let r = g.F.RingCore.ring in
    let s = g.EF.RingCore.ring in
    let m = c.args.m.now in
    let log = c.log2_strict_usize.result in
    let same : log ≡ k = power_cancel log k (sym c.log2_strict_usize.ensures ∙ (c.height.ensures.result ∙ power)) in
    let n : c.loop-column.column ≡ m.width = omega (arith, c.width-column-end.ensures) in
    let inside : j < c.loop-column.column = omega arith in
    let t = λ (i : ℕ). total s (height m) (λ l. s.mul (g.EF.ExtensionField.embed (cell_at r.zero m l i)) (get_or c.in_ok-weights.weights.items l s.zero)) in
    let value : get_or c.loop-column.values.items j s.zero ≡ t j = ap (λ l. get_or l j s.zero) c.loop-column.invariant ∙ get_or-tabulate c.loop-column.column t j s.zero inside in
    let fits : k ≤ g.F.TwoAdicCore.TWO_ADICITY = power_le_cancel k g.F.TwoAdicCore.TWO_ADICITY (omega (arith, power, c.requires.subgroup)) in
    let weights : c.in_ok-weights.weights.items ≡ tabulate (2 ^ log) (weight_at s (2 ^ log) (g.EF.ExtensionField.embed (g.F.FieldCore.inv (of_nat r (2 ^ log)))) (g.EF.ExtensionField.embed (g.F.FieldCore.inv (g.F.TwoAdicCore.root log))) (s.mul (g.EF.ExtensionField.embed (g.F.FieldCore.inv c.args.shift)) c.args.point)) =
    c.in_ok-weights.ensures in
    interpolated_column r g.met.F.RingCore.ring_laws s g.met.EF.RingCore.ring_laws g.EF.ExtensionField.embed g.met.EF.ExtensionField.embed_laws g.F.FieldCore.inv g.met.F.FieldCore.field_laws
    g.F.TwoAdicCore.TWO_ADICITY g.F.TwoAdicCore.root g.met.F.TwoAdicCore.root_laws k c.args.shift m j c.args.point c.in_ok-weights.weights.items (get_or c.loop-column.values.items j s.zero)
    fits c.requires.shift power (cc (weights, same)) value
