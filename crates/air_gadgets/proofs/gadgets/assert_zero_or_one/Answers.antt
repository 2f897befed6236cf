use Rattle.std.proofs.lemmas.Result.{IfOk-weaker, on_err_weaker}
use Rattle.std.proofs.Common.{[]}
use Rattle.air_gadgets.proofs.gadgets.assert_zero_or_one.Goals as goal

pub returns-clause-appends : goal.returns-clause-appends
returns-clause-appends g c t h =
    IfOk-weaker _ _ _
    (λ _ p. g.met.AB.AirBuilder.appends_along _ _ _ [] _ [] [] c.times_more.ensures.appends p)
    (c.assert_zero.ensures.appends _ (c.in_ok-both.ensures.represents _ _ h h))

pub returns-clause-on_error : goal.returns-clause-on_error
returns-clause-on_error g c =
    on_err_weaker _ (λ p. g.met.AB.AirBuilder.appends_along _ _ _ [] [] [] [] c.times_more.ensures.appends p) c.assert_zero.ensures.on_error
