use Rattle.std.proofs.Common.{◌≡◌, ℕ, ◌++◌, length}
use Rattle.air_core.specs.Shape.{width_of}
use Rattle.verifier_shape.specs.ShapeChecks.{table_checks, main_checks, chunk_checks, preprocessed_checks, lookup_checks}
use Rattle.verifier_shape.specs.Laws.Verdicts.{exits_decided, first_of_four, second_of_four, third_of_four, last_of_four}
use Rattle.verifier_shape.proofs.opened.check_opened.Goals as goal

pub returns-in_err-check_main : goal.returns-in_err-check_main
unfolding table_checks
returns-in_err-check_main g c =
    let a = c.args in
    let d = g.A.BaseAir.declaration a.air.now in
    exits_decided _ _ _ c.from_residual.ensures.1 (
    first_of_four (main_checks a.index d (length a.publics.now) a.opened.now.base) (chunk_checks a.index a.chunks a.dimension a.opened.now.base)
    (preprocessed_checks a.index (width_of d.preprocessed) d.preprocessed_next a.opened.now.base.preprocessed)
    (lookup_checks a.index a.lookups a.dimension a.opened.now a.terminal) _ c.in_err-check_main.ensures
    )

pub returns-in_err-check_chunks : goal.returns-in_err-check_chunks
unfolding table_checks
returns-in_err-check_chunks g c =
    let a = c.args in
    let d = g.A.BaseAir.declaration a.air.now in
    exits_decided _ _ _ c.from_residual-in_err-check_chunks.ensures.1 (
    second_of_four (main_checks a.index d (length a.publics.now) a.opened.now.base) (chunk_checks a.index a.chunks a.dimension a.opened.now.base)
    (preprocessed_checks a.index (width_of d.preprocessed) d.preprocessed_next a.opened.now.base.preprocessed)
    (lookup_checks a.index a.lookups a.dimension a.opened.now a.terminal) _ c.in_ok-check_main.ensures c.in_err-check_chunks.ensures
    )

pub returns-in_err-check_preprocessed : goal.returns-in_err-check_preprocessed
unfolding table_checks
returns-in_err-check_preprocessed g c =
    let a = c.args in
    let d = g.A.BaseAir.declaration a.air.now in
    exits_decided _ _ _ c.from_residual-in_err-check_preprocessed.ensures.1 (
    third_of_four (main_checks a.index d (length a.publics.now) a.opened.now.base) (chunk_checks a.index a.chunks a.dimension a.opened.now.base)
    (preprocessed_checks a.index (width_of d.preprocessed) d.preprocessed_next a.opened.now.base.preprocessed)
    (lookup_checks a.index a.lookups a.dimension a.opened.now a.terminal) _ c.in_ok-check_main.ensures c.in_ok-check_chunks.ensures
    c.in_err-check_preprocessed.ensures
    )

pub returns : goal.returns
unfolding table_checks
returns g c =
    let a = c.args in
    let d = g.A.BaseAir.declaration a.air.now in
    last_of_four (main_checks a.index d (length a.publics.now) a.opened.now.base) (chunk_checks a.index a.chunks a.dimension a.opened.now.base)
    (preprocessed_checks a.index (width_of d.preprocessed) d.preprocessed_next a.opened.now.base.preprocessed)
    (lookup_checks a.index a.lookups a.dimension a.opened.now a.terminal) _ c.in_ok-check_main.ensures c.in_ok-check_chunks.ensures
    c.in_ok-check_preprocessed.ensures c.check_lookup_rows.ensures
