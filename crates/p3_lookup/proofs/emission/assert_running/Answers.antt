use Rattle.std.proofs.Common.{[], ◌∷◌}
use Rattle.std.proofs.lemmas.Result.{IfOk-weaker, on_err_weaker}
use Rattle.air_core.specs.Laws.Appending.{none_first, none_on_err, some_after}
use Rattle.air_core.specs.Laws.Represent.{holds_on_err}
use Rattle.p3_lookup.proofs.emission.assert_running.Goals as goal

pub returns-in_err-assert_first-clause-on_error : goal.returns-in_err-assert_first-clause-on_error
returns-in_err-assert_first-clause-on_error g c = none_on_err g.AB.AirBuilder.appends _ _ _ _ _ c.in_err-assert_first.ensures.on_error

pub returns-in_err-sum-clause-on_error : goal.returns-in_err-sum-clause-on_error
returns-in_err-sum-clause-on_error g c =
    let then = some_after g.met.AB.AirBuilder.appends_along in
    holds_on_err _
    (then _ _ _ (_ ∷ []) _ [] [] c.in_ok-assert_first.ensures.appends
    (none_first g.AB.AirBuilder.appends _ _ _ _ c.sum_of_fractions.ensures.appends))

pub returns-in_err-assert_step-clause-on_error : goal.returns-in_err-assert_step-clause-on_error
returns-in_err-assert_step-clause-on_error g c =
    let then = some_after g.met.AB.AirBuilder.appends_along in
    holds_on_err _
    (then _ _ _ (_ ∷ []) _ [] [] c.in_ok-assert_first.ensures.appends
    (then _ _ _ [] _ [] [] c.sum_of_fractions.ensures.appends
    (none_first g.AB.AirBuilder.appends _ _ _ _ c.in_err-assert_step.ensures.on_error)))

pub returns-clause-on_error : goal.returns-clause-on_error
returns-clause-on_error g c =
    let then = some_after g.met.AB.AirBuilder.appends_along in
    on_err_weaker _
    (λ p. then _ _ _ (_ ∷ []) (_ ∷ _ ∷ []) [] [] c.in_ok-assert_first.ensures.appends
    (then _ _ _ [] (_ ∷ _ ∷ []) [] [] c.sum_of_fractions.ensures.appends
    (then _ _ _ (_ ∷ []) (_ ∷ []) [] [] (c.in_ok-assert_step.ensures.appends _ c.in_ok-sum.ensures.represents)
    (none_first g.AB.AirBuilder.appends _ _ _ _ p))))
    c.assert_step-2.ensures.on_error

pub returns-clause-appends : goal.returns-clause-appends
returns-clause-appends g c =
    let B = g.met.AB.AirBuilder in
    let X = g.met.AB.ExtensionBuilder in
    let then = B.appends_along in
    let sum = c.in_ok-sum.ensures.represents in
    let later = X.persists_ext _ _ (B.appends_later _ _ _ _ (c.in_ok-assert_step.ensures.appends _ sum)) _ _ sum in
    IfOk-weaker _ _ _
    (λ _ q. then _ _ _ _ _ [] [] c.in_ok-assert_first.ensures.appends
    (then _ _ _ [] _ [] [] c.sum_of_fractions.ensures.appends
    (then _ _ _ _ _ [] [] (c.in_ok-assert_step.ensures.appends _ sum) q)))
    (c.assert_step-2.ensures.appends _ later)
