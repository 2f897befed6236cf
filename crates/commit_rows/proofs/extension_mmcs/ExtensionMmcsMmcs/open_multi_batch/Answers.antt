use Rattle.std.proofs.Common.{◌≡◌, ◌∙◌, List, map, ap, sym, subst, refl, Vec, Global}
use Rattle.std.specs.Prelude.{All}
use Rattle.p3_matrix.specs.Matrix.{Rows}
use Rattle.commit_core.specs.Periodic.{EachFrom}
use Rattle.commit_rows.specs.Batches.{lists, IsRowOf, AreRowsAt, dimensions_of, flat_rows, FlatData}
use Rattle.commit_rows.specs.Laws.FlatBatches.{flat_dimensions, flat_row_each, restored_each, divisible_each, moved}
use Rattle.commit_rows.proofs.extension_mmcs.ExtensionMmcsMmcs.open_multi_batch.Goals as goal

pub open_multi_batch-requires : goal.open_multi_batch-requires
open_multi_batch-requires g c =
    let V = g.EF.BasedVectorSpace in
    let L = g.met.EF.BasedVectorSpace.vector_laws in
    let M = g.InnerMmcs.Mmcs in
    let ms = c.args.prover_data.now.matrices in
    let held : M.matrices c.prover_data.inside.inner ≡ map (flat_rows V.coefficients V.DIMENSION) ms =
    c.prover_data.invariant ∙ ap (λ (v : FlatData g.row.InnerMmcs-ProverData.Denot g.row.EF.Denot). map (flat_rows V.coefficients V.DIMENSION) v.matrices) c.prover_data.view_is in
    let Q : List (Rows g.row.F.Denot) → Type 0 = λ l. All (IsRowOf l) c.args.indices.now in
    subst Q (sym held) (flat_row_each V.DIMENSION V.coefficients V.from_coefficients L ms c.args.indices.now c.requires)

pub restored_openings-requires : goal.restored_openings-requires
restored_openings-requires g c =
    let V = g.EF.BasedVectorSpace in
    let L = g.met.EF.BasedVectorSpace.vector_laws in
    let M = g.InnerMmcs.Mmcs in
    let ms = c.args.prover_data.now.matrices in
    let held : M.matrices c.prover_data.inside.inner ≡ map (flat_rows V.coefficients V.DIMENSION) ms =
    c.prover_data.invariant ∙ ap (λ (v : FlatData g.row.InnerMmcs-ProverData.Denot g.row.EF.Denot). map (flat_rows V.coefficients V.DIMENSION) v.matrices) c.prover_data.view_is in
    let R : List (Rows g.row.F.Denot) → Type 0 = λ l. EachFrom c.args.indices.now (map (λ rows. lists rows.items) c.in_ok-openings.openings.items) (AreRowsAt l) in
    let at = subst R held c.in_ok-openings.ensures.rows in
    let O : List (Vec (Vec g.row.F.Denot Global) Global) → Type 0 = λ l. EachFrom c.args.indices.now (map (λ rows. lists rows.items) l) (AreRowsAt (map (flat_rows V.coefficients V.DIMENSION) ms)) in
    divisible_each V.DIMENSION V.coefficients V.from_coefficients L ms c.args.indices.now c.deref.result.now c.requires (subst O (sym c.deref.ensures.value) at)

pub returns-clause-rows : goal.returns-clause-rows
returns-clause-rows g c =
    let V = g.EF.BasedVectorSpace in
    let L = g.met.EF.BasedVectorSpace.vector_laws in
    let M = g.InnerMmcs.Mmcs in
    let ms = c.args.prover_data.now.matrices in
    let held : M.matrices c.prover_data.inside.inner ≡ map (flat_rows V.coefficients V.DIMENSION) ms =
    c.prover_data.invariant ∙ ap (λ (v : FlatData g.row.InnerMmcs-ProverData.Denot g.row.EF.Denot). map (flat_rows V.coefficients V.DIMENSION) v.matrices) c.prover_data.view_is in
    let R : List (Rows g.row.F.Denot) → Type 0 = λ l. EachFrom c.args.indices.now (map (λ rows. lists rows.items) c.in_ok-openings.openings.items) (AreRowsAt l) in
    let at = subst R held c.in_ok-openings.ensures.rows in
    let rows = c.in_ok-restored.ensures ∙ ap (map (λ rows. lists rows.items)) c.deref.ensures.value in
    restored_each V.DIMENSION V.coefficients V.from_coefficients L ms c.args.indices.now (map (λ rows. lists rows.items) c.in_ok-openings.openings.items) (map (λ rows. lists rows.items) c.in_ok-restored.restored.items) rows at

pub returns-clause-accepted : goal.returns-clause-accepted
returns-clause-accepted g c commitment b =
    let V = g.EF.BasedVectorSpace in
    let L = g.met.EF.BasedVectorSpace.vector_laws in
    let M = g.InnerMmcs.Mmcs in
    let ms = c.args.prover_data.now.matrices in
    let held : M.matrices c.prover_data.inside.inner ≡ map (flat_rows V.coefficients V.DIMENSION) ms =
    c.prover_data.invariant ∙ ap (λ (v : FlatData g.row.InnerMmcs-ProverData.Denot g.row.EF.Denot). map (flat_rows V.coefficients V.DIMENSION) v.matrices) c.prover_data.view_is in
    let rows = c.in_ok-restored.ensures ∙ ap (map (λ rows. lists rows.items)) c.deref.ensures.value in
    let inner : c.prover_data.inside.inner ≡ c.args.prover_data.now.inner = ap (λ (v : FlatData g.row.InnerMmcs-ProverData.Denot g.row.EF.Denot). v.inner) c.prover_data.view_is in
    let B : g.row.InnerMmcs-ProverData.Denot → Type 0 = λ q. M.belongs c.args.self.now q commitment in
    let C : g.row.InnerMmcs.Denot → Type 0 = λ s. M.belongs s c.prover_data.inside.inner commitment in
    let belongs = subst C (sym c.self.view_is) (subst B (sym inner) b) in
    let dims = ap dimensions_of held ∙ flat_dimensions V.DIMENSION V.coefficients V.from_coefficients L ms in
    moved (λ s ds rs p. M.multi_opens s commitment ds c.args.indices.now rs p) _ _ _ _ _ _ _ _ c.self.view_is dims (sym rows) refl (c.in_ok-openings.ensures.accepted commitment belongs)
