use Rattle.std.proofs.Common.{[]}
use Rattle.std.proofs.lemmas.Result.{IfOk-weaker, on_err_weaker}
use Rattle.p3_lookup.proofs.emission.assert_step.Goals as goal

pub returns-clause-appends : goal.returns-clause-appends
returns-clause-appends g c t h =
    IfOk-weaker _ _ _
    (λ _ q. g.met.AB.AirBuilder.appends_along _ _ _ [] _ [] [] c.excess.ensures.appends q)
    (c.assert_selected.ensures.appends _ (c.in_ok-rest.ensures.represents _ h))

pub returns-clause-on_error : goal.returns-clause-on_error
returns-clause-on_error g c =
    on_err_weaker _ (λ q. g.met.AB.AirBuilder.appends_along _ _ _ [] [] [] [] c.excess.ensures.appends q) c.assert_selected.ensures.on_error
