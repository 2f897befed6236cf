use Rattle.std.proofs.Common.{◌≡◌, ℕ, List, [], ◌∷◌, length, ◌∙◌, ap, subst, Option, Vec, Global}
use Rattle.std.specs.Prelude.{option_map}
use Rattle.p3_field.specs.Checks.{Check}
use Rattle.p3_field.specs.Laws.Checks.{first_after, first_stops}
use Rattle.p3_uni_stark.specs.Opened.{OpenedData}
use Rattle.batch_statement.specs.Proof.{OpenedWithLookups}
use Rattle.batch_statement.specs.Verdict.{IsDecided}
use Rattle.batch_statement.specs.declared.error.BatchVerificationError.{BatchVerificationError}
use Rattle.verifier_shape.specs.ShapeChecks.{local_check, main_checks, next_check, public_values_check}
use Rattle.verifier_shape.specs.Laws.Verdicts.{decided_after, exits_decided}
use Rattle.verifier_shape.proofs.opened.check_main.Goals as goal

pub returns-in_err-check_public_values : goal.returns-in_err-check_public_values
returns-in_err-check_public_values g c =
    let a = c.args in
    let d = g.A.BaseAir.declaration a.air.now in
    exits_decided _ _ _ c.from_residual.ensures.1
    (first_stops (public_values_check d.public_values (length a.publics.now) ∷ []) (local_check a.index d.width a.opened.now.base.trace_local ∷ next_check a.index d.width d.main_next a.opened.now.base.trace_next ∷ []) _
    c.in_err-check_public_values.ensures)

pub returns-in_err-check_trace_local : goal.returns-in_err-check_trace_local
returns-in_err-check_trace_local g c =
    let a = c.args in
    let d = g.A.BaseAir.declaration a.air.now in
    let width = c.width-width.ensures in
    let row : c.deref.result.now ≡ a.opened.now.base.trace_local =
    c.deref.ensures.value ∙ (ap (λ (o : OpenedData g.row.E.Denot). o.trace_local) c.opened-2.view_is ∙ ap (λ (o : OpenedWithLookups g.row.E.Denot). o.base.trace_local) c.opened.view_is) in
    let first : Check (BatchVerificationError g.row.R.Denot) = public_values_check d.public_values (length a.publics.now) in
    let second : Check (BatchVerificationError g.row.R.Denot) = local_check a.index c.width-width.result c.deref.result.now in
    let last : Check (BatchVerificationError g.row.R.Denot) = next_check a.index d.width d.main_next a.opened.now.base.trace_next in
    let same : first ∷ second ∷ last ∷ [] ≡ main_checks a.index d (length a.publics.now) a.opened.now.base = λ j. first ∷ local_check a.index (width j) (row j) ∷ last ∷ [] in
    subst (λ cs. IsDecided cs c.from_residual-in_err-check_trace_local.result) same
    (exits_decided _ _ _ c.from_residual-in_err-check_trace_local.ensures.1
    (first_after (first ∷ []) (second ∷ last ∷ []) _ c.in_ok-check_public_values.ensures (first_stops (second ∷ []) (last ∷ []) _ c.in_err-check_trace_local.ensures)))

pub returns : goal.returns
returns g c =
    let a = c.args in
    let d = g.A.BaseAir.declaration a.air.now in
    let width = c.width-width.ensures in
    let columns = c.main_next_row_columns.ensures in
    let row : c.deref.result.now ≡ a.opened.now.base.trace_local =
    c.deref.ensures.value ∙ (ap (λ (o : OpenedData g.row.E.Denot). o.trace_local) c.opened-2.view_is ∙ ap (λ (o : OpenedWithLookups g.row.E.Denot). o.base.trace_local) c.opened.view_is) in
    let next : option_map (λ (v : Vec g.row.E.Denot Global). v.items) c.opened-2.inside.trace_next ≡ a.opened.now.base.trace_next =
    ap (λ (o : OpenedData g.row.E.Denot). o.trace_next) c.opened-2.view_is ∙ ap (λ (o : OpenedWithLookups g.row.E.Denot). o.base.trace_next) c.opened.view_is in
    let first : Check (BatchVerificationError g.row.R.Denot) = public_values_check d.public_values (length a.publics.now) in
    let second : Check (BatchVerificationError g.row.R.Denot) = local_check a.index c.width-width.result c.deref.result.now in
    let last : Check (BatchVerificationError g.row.R.Denot) = next_check a.index c.width-width.result c.main_next_row_columns.result.now (option_map (λ v. v.items) c.opened-2.inside.trace_next) in
    let same : first ∷ second ∷ last ∷ [] ≡ main_checks a.index d (length a.publics.now) a.opened.now.base =
    λ j. first ∷ local_check a.index (width j) (row j) ∷ next_check a.index (width j) (columns j) (next j) ∷ [] in
    subst (λ cs. IsDecided cs c.check_trace_next.result) same
    (decided_after (first ∷ []) (second ∷ last ∷ []) _ c.in_ok-check_public_values.ensures (decided_after (second ∷ []) (last ∷ []) _ c.in_ok-check_trace_local.ensures c.check_trace_next.ensures))
