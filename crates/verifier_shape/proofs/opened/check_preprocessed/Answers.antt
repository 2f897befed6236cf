use Rattle.std.proofs.Common.{◌≡◌, ℕ, List, [], ◌∷◌, Option, sym, ◌∙◌, ap, subst}
use Rattle.p3_field.specs.Checks.{Check}
use Rattle.p3_field.specs.Laws.Checks.{first_stops}
use Rattle.air_core.specs.Shape.{width_of}
use Rattle.p3_uni_stark.specs.Opened.{OpenedData, PreprocessedData}
use Rattle.batch_statement.specs.Proof.{OpenedWithLookups}
use Rattle.batch_statement.specs.Verdict.{IsDecided}
use Rattle.batch_statement.specs.declared.error.BatchVerificationError.{BatchVerificationError}
use Rattle.verifier_shape.specs.ShapeChecks.{preprocessed_checks, preprocessed_next_check, preprocessed_width_check}
use Rattle.verifier_shape.specs.Laws.Verdicts.{decided_after, exits_decided}
use Rattle.verifier_shape.proofs.Preprocessed.{where_there}
use Rattle.verifier_shape.proofs.opened.check_preprocessed.Goals as goal

pub returns-in_err-check_preprocessed_width : goal.returns-in_err-check_preprocessed_width
returns-in_err-check_preprocessed_width g c =
    let a = c.args in
    let d = g.A.BaseAir.declaration a.air.now in
    let width = c.preprocessed_width-width.ensures in
    let columns = c.preprocessed_next_row_columns-declared.ensures in
    let rows = ap (λ (o : OpenedData g.row.E.Denot). o.preprocessed) c.base.view_is ∙ ap (λ (o : OpenedWithLookups g.row.E.Denot). o.base.preprocessed) c.opened.view_is in
    subst (λ cs. IsDecided cs c.from_residual.result)
    ((λ j. preprocessed_width_check a.index (width j) (columns j) (rows j) ∷ preprocessed_next_check a.index (columns j) (rows j) ∷ [])
    ∙ sym (where_there g.row.R.Denot a.index (width_of d.preprocessed) d.preprocessed_next a.opened.now.base.preprocessed (λ z. c.if-width-eq0.false (width ∙ z))))
    (exits_decided _ _ _ c.from_residual.ensures.1 (first_stops (_ ∷ []) (_ ∷ []) _ c.in_err-check_preprocessed_width.ensures))

pub returns : goal.returns
returns g c =
    let a = c.args in
    let d = g.A.BaseAir.declaration a.air.now in
    let width = c.preprocessed_width-width.ensures in
    let columns = c.preprocessed_next_row_columns-declared.ensures in
    let rows = ap (λ (o : OpenedData g.row.E.Denot). o.preprocessed) c.base.view_is ∙ ap (λ (o : OpenedWithLookups g.row.E.Denot). o.base.preprocessed) c.opened.view_is in
    subst (λ cs. IsDecided cs c.check_preprocessed_next.result)
    ((λ j. preprocessed_width_check a.index (width j) (columns j) (rows j) ∷ preprocessed_next_check a.index (columns j) (rows j) ∷ [])
    ∙ sym (where_there g.row.R.Denot a.index (width_of d.preprocessed) d.preprocessed_next a.opened.now.base.preprocessed (λ z. c.if-width-eq0.false (width ∙ z))))
    (decided_after (_ ∷ []) (_ ∷ []) _ c.in_ok-check_preprocessed_width.ensures c.check_preprocessed_next.ensures)
