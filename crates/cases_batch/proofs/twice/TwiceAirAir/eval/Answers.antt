use Rattle.std.proofs.Common.{[], ◌∷◌}
use Rattle.std.proofs.lemmas.Result.{IfOk-weaker, on_err_weaker}
use Rattle.air_core.specs.Laws.Represent.{holds_on_err}
use Rattle.air_core.specs.Laws.Appending.{some_after, some_of_more}
use Rattle.cases_batch.proofs.twice.TwiceAirAir.eval.Goals as goal

pub returns-clause-appends : goal.returns-clause-appends
returns-clause-appends g c =
    let then = g.met.AB.AirBuilder.appends_along in
    IfOk-weaker _ _ _ (λ _ p. then _ _ _ [] [] (_ ∷ []) (_ ∷ []) c.in_ok-eval.ensures.appends p) c.eval-2.ensures.appends

pub returns-in_err-eval-clause-on_error : goal.returns-in_err-eval-clause-on_error
returns-in_err-eval-clause-on_error g c =
    holds_on_err _ (some_of_more g.AB.AirBuilder.appends _ _ [] [] (_ ∷ []) (_ ∷ []) c.in_err-eval.ensures.on_error)

pub returns-clause-on_error : goal.returns-clause-on_error
returns-clause-on_error g c =
    let then = some_after g.met.AB.AirBuilder.appends_along in
    on_err_weaker _ (λ p. then _ _ _ [] [] (_ ∷ []) (_ ∷ []) c.in_ok-eval.ensures.appends p) c.eval-2.ensures.on_error
