use Rattle.std.proofs.Common.{◌≡◌, ◌*◌, ◌∙◌, ap}
use Rattle.std.specs.List.{flat_map}
use Rattle.p3_matrix.specs.Matrix.{Rows}
use Rattle.p3_matrix.specs.Laws.Flattened.{pieces-fill, height-pieces, row_at-pieces}
use Rattle.p3_matrix.proofs.extension.flatten_matrix.Goals as goal

pub new-requires : goal.new-requires
new-requires g c =
    let parts = g.EF.BasedVectorSpace.coefficients in
    let V = g.met.EF.BasedVectorSpace.vector_laws in
    let m = c.args.m.now in
    let values : c.in_ok-values.values.items ≡ flat_map parts m.values = c.in_ok-values.ensures ∙ ap (flat_map parts) c.as_slice.ensures.values in
    let filled = pieces-fill parts g.EF.BasedVectorSpace.DIMENSION V.coefficients_length V.positive m c.as_slice.ensures.fills in
    cc (filled, values, c.width.ensures, c.DIMENSION.ensures)

pub returns-clause-height : goal.returns-clause-height
returns-clause-height g c =
    let parts = g.EF.BasedVectorSpace.coefficients in
    let V = g.met.EF.BasedVectorSpace.vector_laws in
    let m = c.args.m.now in
    let values : c.in_ok-values.values.items ≡ flat_map parts m.values = c.in_ok-values.ensures ∙ ap (flat_map parts) c.as_slice.ensures.values in
    height-pieces parts g.EF.BasedVectorSpace.DIMENSION V.coefficients_length V.positive m c.new.result (ap (λ (v : Rows g.row.F.Denot). v.values) c.new.ensures ∙ values)
    (ap (λ (v : Rows g.row.F.Denot). v.width) c.new.ensures ∙ (ap (λ k. k * c.DIMENSION.result) c.width.ensures ∙ ap (λ k. m.width * k) c.DIMENSION.ensures))

pub returns-clause-rows : goal.returns-clause-rows
returns-clause-rows g c = λ i below.
    let parts = g.EF.BasedVectorSpace.coefficients in
    let V = g.met.EF.BasedVectorSpace.vector_laws in
    let m = c.args.m.now in
    let values : c.in_ok-values.values.items ≡ flat_map parts m.values = c.in_ok-values.ensures ∙ ap (flat_map parts) c.as_slice.ensures.values in
    row_at-pieces parts g.EF.BasedVectorSpace.DIMENSION V.coefficients_length m c.new.result i (ap (λ (v : Rows g.row.F.Denot). v.values) c.new.ensures ∙ values)
    (ap (λ (v : Rows g.row.F.Denot). v.width) c.new.ensures ∙ (ap (λ k. k * c.DIMENSION.result) c.width.ensures ∙ ap (λ k. m.width * k) c.DIMENSION.ensures))
