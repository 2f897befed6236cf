use Rattle.std.proofs.Common.{[]}
use Rattle.std.proofs.lemmas.Result.{IfOk-weaker, on_err_weaker}
use Rattle.p3_lookup.proofs.emission.assert_first.Goals as goal

pub returns-clause-appends : goal.returns-clause-appends
returns-clause-appends g c =
    IfOk-weaker _ _ _
    (λ _ q. g.met.AB.AirBuilder.appends_along _ _ _ [] _ [] [] c.ext_cell.ensures.appends q)
    (c.assert_selected.ensures.appends _ c.in_ok-running.ensures.represents)

pub returns-clause-on_error : goal.returns-clause-on_error
returns-clause-on_error g c =
    on_err_weaker _ (λ q. g.met.AB.AirBuilder.appends_along _ _ _ [] [] [] [] c.ext_cell.ensures.appends q) c.assert_selected.ensures.on_error
