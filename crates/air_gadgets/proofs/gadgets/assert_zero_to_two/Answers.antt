use Rattle.std.proofs.lemmas.Result.{IfOk-weaker, on_err_weaker}
use Rattle.std.proofs.Common.{[]}
use Rattle.air_core.specs.Laws.Represent.{holds_on_err}
use Rattle.air_gadgets.proofs.gadgets.assert_zero_to_two.Goals as goal

pub returns-clause-appends : goal.returns-clause-appends
returns-clause-appends g c t h =
    let B = g.met.AB.AirBuilder in
    let x = B.persists _ _ (B.appends_later _ _ _ _ c.times_more.ensures.appends) _ _ h in
    let all = c.in_ok-all.ensures.represents _ _ (c.in_ok-both.ensures.represents _ _ h h) x in
    IfOk-weaker _ _ _
    (λ _ p. B.appends_along _ _ _ [] _ [] [] c.times_more.ensures.appends
    (B.appends_along _ _ _ [] _ [] [] c.times_more-2.ensures.appends p))
    (c.assert_zero.ensures.appends _ all)

pub returns-in_err-all-clause-on_error : goal.returns-in_err-all-clause-on_error
returns-in_err-all-clause-on_error g c =
    holds_on_err _ (g.met.AB.AirBuilder.appends_along _ _ _ [] [] [] [] c.times_more.ensures.appends c.times_more-2.ensures.appends)

pub returns-clause-on_error : goal.returns-clause-on_error
returns-clause-on_error g c =
    let then = g.met.AB.AirBuilder.appends_along in
    on_err_weaker _ (λ p. then _ _ _ [] [] [] [] c.times_more.ensures.appends (then _ _ _ [] [] [] [] c.times_more-2.ensures.appends p)) c.assert_zero.ensures.on_error
