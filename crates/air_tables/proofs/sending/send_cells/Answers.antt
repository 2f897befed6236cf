use Rattle.std.proofs.lemmas.Result.{IfOk-weaker, on_err_weaker}
use Rattle.std.proofs.Common.{[], refl}
use Rattle.air_core.specs.Laws.Represent.{represent-none, represent-more, holds_on_err}
use Rattle.air_tables.proofs.sending.send_cells.Goals as goal

pub returns-in_err-b-clause-on_error : goal.returns-in_err-b-clause-on_error
returns-in_err-b-clause-on_error g c =
    holds_on_err _ (g.met.AB.AirBuilder.appends_along _ _ _ [] [] [] [] c.cell.ensures.appends c.cell-2.ensures.appends)

pub returns-in_err-value-clause-on_error : goal.returns-in_err-value-clause-on_error
returns-in_err-value-clause-on_error g c =
    let then = g.met.AB.AirBuilder.appends_along in
    holds_on_err _ (then _ _ _ [] [] [] [] c.cell.ensures.appends (then _ _ _ [] [] [] [] c.cell-2.ensures.appends c.constant.ensures.appends))

pub returns-clause-appends : goal.returns-clause-appends
returns-clause-appends g c =
    let B = g.met.AB.AirBuilder in
    let past = B.persists _ _ (B.appends_later _ _ _ _ c.constant.ensures.appends) in
    let a = past _ _ (B.persists _ _ (B.appends_later _ _ _ _ c.cell-2.ensures.appends) _ _ c.in_ok-a.ensures.represents) in
    let b = past _ _ c.in_ok-b.ensures.represents in
    let pair = represent-more _ _ _ _ _ a (represent-more _ _ _ _ _ b (represent-none _)) in
    let counts = represent-more _ _ _ _ _ (b, refl) (represent-more _ _ _ _ _ (c.in_ok-value.ensures.represents, refl) (represent-none _)) in
    let then = B.appends_along in
    IfOk-weaker _ _ _
    (λ _ q. then _ _ _ [] [] [] _ c.cell.ensures.appends
    (then _ _ _ [] [] [] _ c.cell-2.ensures.appends
    (then _ _ _ [] [] [] _ c.constant.ensures.appends q)))
    (c.push_local_interaction.ensures.appends _ _ pair counts)

pub returns-clause-on_error : goal.returns-clause-on_error
returns-clause-on_error g c =
    let then = g.met.AB.AirBuilder.appends_along in
    on_err_weaker _
    (λ q. then _ _ _ [] [] [] [] c.cell.ensures.appends
    (then _ _ _ [] [] [] [] c.cell-2.ensures.appends
    (then _ _ _ [] [] [] [] c.constant.ensures.appends q)))
    c.push_local_interaction.ensures.on_error
