use Rattle.std.proofs.Common.{◌∙◌, List, map, ap, sym, subst}
use Rattle.std.specs.Prelude.{All}
use Rattle.p3_matrix.specs.Matrix.{Rows}
use Rattle.commit_rows.specs.Batches.{IsBatch, flat_rows}
use Rattle.commit_rows.specs.Laws.FlatBatches.{flat_batch, flat_takes}
use Rattle.commit_rows.proofs.extension_mmcs.ExtensionMmcsMmcs.commit.Goals as goal

pub commit-requires-clause-batch : goal.commit-requires-clause-batch
commit-requires-clause-batch g c =
    let V = g.EF.BasedVectorSpace in
    let inputs = c.args.inputs.items in
    let flat = c.in_ok-flat.ensures ∙ ap (map (flat_rows V.coefficients V.DIMENSION)) c.deref.ensures.value in
    let Q : List (Rows g.row.F.Denot) → Type 0 = IsBatch in
    subst Q (sym flat) (flat_batch V.DIMENSION V.coefficients V.from_coefficients g.met.EF.BasedVectorSpace.vector_laws inputs c.requires.batch)

pub commit-requires-clause-widths : goal.commit-requires-clause-widths
commit-requires-clause-widths g c =
    let V = g.EF.BasedVectorSpace in
    let inputs = c.args.inputs.items in
    let flat = c.in_ok-flat.ensures ∙ ap (map (flat_rows V.coefficients V.DIMENSION)) c.deref.ensures.value in
    let Q : List (Rows g.row.F.Denot) → Type 0 = λ l. All (λ m. g.InnerMmcs.Mmcs.takes m.width) l in
    subst Q (sym flat) (flat_takes V.DIMENSION V.coefficients V.from_coefficients g.met.EF.BasedVectorSpace.vector_laws g.InnerMmcs.Mmcs.takes inputs c.requires.widths)
