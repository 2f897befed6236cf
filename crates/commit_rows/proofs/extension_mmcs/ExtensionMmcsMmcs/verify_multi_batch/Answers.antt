use Rattle.std.proofs.Common.{◌∙◌, List, sym, subst}
use Rattle.std.specs.Prelude.{All}
use Rattle.p3_matrix.specs.declared.dense.Dimensions.{Dimensions}
use Rattle.commit_rows.specs.Laws.FlatBatches.{wide_takes}
use Rattle.commit_rows.proofs.extension_mmcs.ExtensionMmcsMmcs.verify_multi_batch.Goals as goal

pub verify_multi_batch-requires : goal.verify_multi_batch-requires
verify_multi_batch-requires g c =
    let V = g.EF.BasedVectorSpace in
    let wide = c.deref.ensures.value ∙ c.in_ok-wide.ensures in
    let Q : List Dimensions → Type 0 = λ l. All (λ s. g.InnerMmcs.Mmcs.takes s.width) l in
    subst Q (sym wide) (wide_takes V.DIMENSION V.coefficients V.from_coefficients g.met.EF.BasedVectorSpace.vector_laws g.InnerMmcs.Mmcs.takes c.args.dimensions.now c.requires)
