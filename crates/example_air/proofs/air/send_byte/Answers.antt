use Rattle.std.proofs.Common.{[]}
use Rattle.std.proofs.lemmas.Result.{IfOk-weaker, on_err_weaker}
use Rattle.air_core.specs.Laws.Represent.{holds_on_err, represent-none, represent-more}
use Rattle.example_air.proofs.air.send_byte.Goals as goal

pub returns-in_err-times-clause-on_error : goal.returns-in_err-times-clause-on_error
returns-in_err-times-clause-on_error g c = holds_on_err _ (g.met.AB.AirBuilder.appends_along _ _ _ [] [] [] [] c.cell.ensures.appends c.column.ensures.appends)

pub returns-in_err-nothing-clause-on_error : goal.returns-in_err-nothing-clause-on_error
returns-in_err-nothing-clause-on_error g c =
    let then = g.met.AB.AirBuilder.appends_along in
    holds_on_err _ (then _ _ _ [] [] [] [] c.cell.ensures.appends (then _ _ _ [] [] [] [] c.column.ensures.appends c.constant.ensures.appends))

pub returns-in_err-value-clause-on_error : goal.returns-in_err-value-clause-on_error
returns-in_err-value-clause-on_error g c =
    let then = g.met.AB.AirBuilder.appends_along in
    holds_on_err _
    (then _ _ _ [] [] [] [] c.cell.ensures.appends
    (then _ _ _ [] [] [] [] c.column.ensures.appends (then _ _ _ [] [] [] [] c.constant.ensures.appends c.sub.ensures.appends)))

pub returns-clause-later : goal.returns-clause-later
returns-clause-later g c =
    let B = g.met.AB.AirBuilder in
    let after = B.appends_later in
    B.later_along _ _ _ (after _ _ _ _ c.cell.ensures.appends)
    (B.later_along _ _ _ (after _ _ _ _ c.column.ensures.appends)
    (B.later_along _ _ _ (after _ _ _ _ c.constant.ensures.appends) (B.later_along _ _ _ (after _ _ _ _ c.sub.ensures.appends) c.push_interaction.ensures.later)))

pub returns-clause-appends : goal.returns-clause-appends
returns-clause-appends g c =
    let B = g.met.AB.AirBuilder in
    let past_times = B.persists _ _ (B.appends_later _ _ _ _ c.column.ensures.appends) in
    let past_nothing = B.persists _ _ (B.appends_later _ _ _ _ c.constant.ensures.appends) in
    let past_value = B.persists _ _ (B.appends_later _ _ _ _ c.sub.ensures.appends) in
    let byte = past_value _ _ (past_nothing _ _ (past_times _ _ c.in_ok-byte.ensures.represents)) in
    let count = c.in_ok-value.ensures.represents _ _ c.in_ok-nothing.ensures.represents (past_nothing _ _ c.in_ok-times.ensures.represents) in
    let then = B.appends_along in
    IfOk-weaker _ _ _
    (λ _ q. then _ _ _ [] [] [] _ c.cell.ensures.appends
    (then _ _ _ [] [] [] _ c.column.ensures.appends
    (then _ _ _ [] [] [] _ c.constant.ensures.appends
    (then _ _ _ [] [] [] _ c.sub.ensures.appends q))))
    (c.push_interaction.ensures.appends _ _ (represent-more _ _ _ _ _ byte (represent-none _)) count)

pub returns-clause-on_error : goal.returns-clause-on_error
returns-clause-on_error g c =
    let then = g.met.AB.AirBuilder.appends_along in
    on_err_weaker _
    (λ q. then _ _ _ [] [] [] [] c.cell.ensures.appends
    (then _ _ _ [] [] [] [] c.column.ensures.appends
    (then _ _ _ [] [] [] [] c.constant.ensures.appends
    (then _ _ _ [] [] [] [] c.sub.ensures.appends q))))
    c.push_interaction.ensures.on_error
