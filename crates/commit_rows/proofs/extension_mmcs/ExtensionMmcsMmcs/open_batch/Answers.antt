use Rattle.std.proofs.Common.{◌≡◌, ◌∙◌, List, map, ap, sym, subst}
use Rattle.p3_matrix.specs.Matrix.{Rows, height, row_at}
use Rattle.commit_rows.specs.Batches.{lists, IsRowOf, AreRowsAt, row_in, dimensions_of, flat_rows, FlatData}
use Rattle.commit_rows.specs.Laws.FlatBatches.{flat_row, flat_rows_at, restored_rows_at, divisible, flat_dimensions, moved}
use Rattle.commit_rows.proofs.extension_mmcs.ExtensionMmcsMmcs.open_batch.Goals as goal

pub open_batch-requires : goal.open_batch-requires
open_batch-requires g c =
    let V = g.EF.BasedVectorSpace in
    let L = g.met.EF.BasedVectorSpace.vector_laws in
    let M = g.InnerMmcs.Mmcs in
    let ms = c.args.prover_data.now.matrices in
    let held : M.matrices c.prover_data.inside.inner ≡ map (flat_rows V.coefficients V.DIMENSION) ms =
    c.prover_data.invariant ∙ ap (λ (v : FlatData g.row.InnerMmcs-ProverData.Denot g.row.EF.Denot). map (flat_rows V.coefficients V.DIMENSION) v.matrices) c.prover_data.view_is in
    let Q : List (Rows g.row.F.Denot) → Type 0 = λ l. IsRowOf l c.args.index in
    subst Q (sym held) (flat_row V.DIMENSION V.coefficients V.from_coefficients L ms c.args.index c.requires)

pub restored_rows-requires : goal.restored_rows-requires
restored_rows-requires g c =
    let V = g.EF.BasedVectorSpace in
    let L = g.met.EF.BasedVectorSpace.vector_laws in
    let M = g.InnerMmcs.Mmcs in
    let ms = c.args.prover_data.now.matrices in
    let held : M.matrices c.prover_data.inside.inner ≡ map (flat_rows V.coefficients V.DIMENSION) ms =
    c.prover_data.invariant ∙ ap (λ (v : FlatData g.row.InnerMmcs-ProverData.Denot g.row.EF.Denot). map (flat_rows V.coefficients V.DIMENSION) v.matrices) c.prover_data.view_is in
    let R : List (Rows g.row.F.Denot) → Type 0 = λ l. AreRowsAt l c.args.index (lists c.in_ok-opening.opening.opened_values.items) in
    let at = subst R held c.in_ok-opening.ensures.rows in
    let (most, (greatest, low)) = c.requires in
    let rows = ap lists c.deref.ensures.value ∙ c.unpack-rows.ensures.rows in
    divisible V.DIMENSION V.coefficients V.from_coefficients L c.deref.result.now (map (λ m. row_at m (row_in most (height m) c.args.index)) ms)
    (rows ∙ flat_rows_at V.DIMENSION V.coefficients V.from_coefficients L ms c.args.index most (lists c.in_ok-opening.opening.opened_values.items) greatest at)

pub returns-clause-rows : goal.returns-clause-rows
returns-clause-rows g c =
    let V = g.EF.BasedVectorSpace in
    let L = g.met.EF.BasedVectorSpace.vector_laws in
    let M = g.InnerMmcs.Mmcs in
    let ms = c.args.prover_data.now.matrices in
    let held : M.matrices c.prover_data.inside.inner ≡ map (flat_rows V.coefficients V.DIMENSION) ms =
    c.prover_data.invariant ∙ ap (λ (v : FlatData g.row.InnerMmcs-ProverData.Denot g.row.EF.Denot). map (flat_rows V.coefficients V.DIMENSION) v.matrices) c.prover_data.view_is in
    let R : List (Rows g.row.F.Denot) → Type 0 = λ l. AreRowsAt l c.args.index (lists c.in_ok-opening.opening.opened_values.items) in
    let at = subst R held c.in_ok-opening.ensures.rows in
    let rows = ap lists c.deref.ensures.value ∙ c.unpack-rows.ensures.rows in
    restored_rows_at V.DIMENSION V.coefficients V.from_coefficients L ms c.args.index (lists c.in_ok-opening.opening.opened_values.items) (lists c.in_ok-opened_values.opened_values.items) (c.in_ok-opened_values.ensures ∙ rows) at

pub returns-clause-accepted : goal.returns-clause-accepted
returns-clause-accepted g c commitment b =
    let V = g.EF.BasedVectorSpace in
    let L = g.met.EF.BasedVectorSpace.vector_laws in
    let M = g.InnerMmcs.Mmcs in
    let ms = c.args.prover_data.now.matrices in
    let held : M.matrices c.prover_data.inside.inner ≡ map (flat_rows V.coefficients V.DIMENSION) ms =
    c.prover_data.invariant ∙ ap (λ (v : FlatData g.row.InnerMmcs-ProverData.Denot g.row.EF.Denot). map (flat_rows V.coefficients V.DIMENSION) v.matrices) c.prover_data.view_is in
    let rows = ap lists c.deref.ensures.value ∙ c.unpack-rows.ensures.rows in
    let inner : c.prover_data.inside.inner ≡ c.args.prover_data.now.inner = ap (λ (v : FlatData g.row.InnerMmcs-ProverData.Denot g.row.EF.Denot). v.inner) c.prover_data.view_is in
    let B : g.row.InnerMmcs-ProverData.Denot → Type 0 = λ q. M.belongs c.args.self.now q commitment in
    let C : g.row.InnerMmcs.Denot → Type 0 = λ s. M.belongs s c.prover_data.inside.inner commitment in
    let belongs = subst C (sym c.self.view_is) (subst B (sym inner) b) in
    let dims = ap dimensions_of held ∙ flat_dimensions V.DIMENSION V.coefficients V.from_coefficients L ms in
    moved (λ s ds rs p. M.opens s commitment ds c.args.index rs p) _ _ _ _ _ _ _ _ c.self.view_is dims (sym (c.in_ok-opened_values.ensures ∙ rows)) (sym c.unpack-rows.ensures.proof) (c.in_ok-opening.ensures.accepted commitment belongs)
