use Rattle.std.proofs.Common.{[]}
use Rattle.std.proofs.lemmas.Result.{IfOk-weaker, on_err_weaker}
use Rattle.air_core.specs.Laws.Represent.{holds_on_err, represent-none, represent-more}
use Rattle.example_air.proofs.air.send_number.Goals as goal

pub returns-in_err-value-clause-on_error : goal.returns-in_err-value-clause-on_error
returns-in_err-value-clause-on_error g c = holds_on_err _ (g.met.AB.AirBuilder.appends_along _ _ _ [] [] [] [] c.column.ensures.appends c.constant.ensures.appends)

pub returns-clause-appends : goal.returns-clause-appends
returns-clause-appends g c =
    let B = g.met.AB.AirBuilder in
    let number = B.persists _ _ (B.appends_later _ _ _ _ c.constant.ensures.appends) _ _ c.in_ok-number.ensures.represents in
    let then = B.appends_along in
    IfOk-weaker _ _ _
    (λ _ q. then _ _ _ [] [] [] _ c.column.ensures.appends (then _ _ _ [] [] [] _ c.constant.ensures.appends q))
    (c.push_interaction.ensures.appends _ _ (represent-more _ _ _ _ _ number (represent-none _)) c.in_ok-value.ensures.represents)

pub returns-clause-on_error : goal.returns-clause-on_error
returns-clause-on_error g c =
    let then = g.met.AB.AirBuilder.appends_along in
    on_err_weaker _
    (λ q. then _ _ _ [] [] [] [] c.column.ensures.appends (then _ _ _ [] [] [] [] c.constant.ensures.appends q))
    c.push_interaction.ensures.on_error
