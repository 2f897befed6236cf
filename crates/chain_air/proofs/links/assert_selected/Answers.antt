use Rattle.std.proofs.lemmas.Result.{IfOk-weaker, on_err_weaker}
use Rattle.std.proofs.Common.{[]}
use Rattle.air_core.specs.Laws.Represent.{holds_on_err}
use Rattle.chain_air.proofs.links.assert_selected.Goals as goal

pub returns-in_err-b-clause-on_error : goal.returns-in_err-b-clause-on_error
returns-in_err-b-clause-on_error g c =
    holds_on_err _ (g.met.AB.AirBuilder.appends_along _ _ _ [] [] [] [] c.cell.ensures.appends c.cell-2.ensures.appends)

pub returns-in_err-d-clause-on_error : goal.returns-in_err-d-clause-on_error
returns-in_err-d-clause-on_error g c =
    let then = g.met.AB.AirBuilder.appends_along in
    holds_on_err _ (then _ _ _ [] [] [] [] c.cell.ensures.appends (then _ _ _ [] [] [] [] c.cell-2.ensures.appends c.sub.ensures.appends))

pub returns-in_err-p-clause-on_error : goal.returns-in_err-p-clause-on_error
returns-in_err-p-clause-on_error g c =
    let then = g.met.AB.AirBuilder.appends_along in
    holds_on_err _
    (then _ _ _ [] [] [] [] c.cell.ensures.appends (then _ _ _ [] [] [] [] c.cell-2.ensures.appends (then _ _ _ [] [] [] [] c.sub.ensures.appends c.mul.ensures.appends)))

pub returns-clause-appends : goal.returns-clause-appends
returns-clause-appends g c t h =
    let B = g.met.AB.AirBuilder in
    let then = B.appends_along in
    let past_cell = B.persists _ _ (B.appends_later _ _ _ _ c.cell-2.ensures.appends) in
    let past_sub = B.persists _ _ (B.appends_later _ _ _ _ c.sub.ensures.appends) in
    let x = past_cell _ _ (B.persists _ _ (B.appends_later _ _ _ _ c.cell.ensures.appends) _ _ h) in
    let s = past_sub _ _ (past_cell _ _ c.in_ok-s.ensures.represents) in
    let d = c.in_ok-d.ensures.represents _ _ x c.in_ok-b.ensures.represents in
    IfOk-weaker _ _ _
    (λ _ q. then _ _ _ [] _ [] [] c.cell.ensures.appends
    (then _ _ _ [] _ [] [] c.cell-2.ensures.appends
    (then _ _ _ [] _ [] [] c.sub.ensures.appends
    (then _ _ _ [] _ [] [] c.mul.ensures.appends q))))
    (c.assert_zero.ensures.appends _ (c.in_ok-p.ensures.represents _ _ s d))

pub returns-clause-on_error : goal.returns-clause-on_error
returns-clause-on_error g c =
    let then = g.met.AB.AirBuilder.appends_along in
    on_err_weaker _
    (λ q. then _ _ _ [] [] [] [] c.cell.ensures.appends
    (then _ _ _ [] [] [] [] c.cell-2.ensures.appends
    (then _ _ _ [] [] [] [] c.sub.ensures.appends
    (then _ _ _ [] [] [] [] c.mul.ensures.appends q))))
    c.assert_zero.ensures.on_error
