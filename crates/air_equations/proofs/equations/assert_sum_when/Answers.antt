use Rattle.std.proofs.lemmas.Result.{IfOk-weaker, on_err_weaker}
use Rattle.std.proofs.Common.{[]}
use Rattle.air_core.specs.Laws.Represent.{holds_on_err}
use Rattle.air_equations.proofs.equations.assert_sum_when.Goals as goal

pub returns-in_err-left-clause-on_error : goal.returns-in_err-left-clause-on_error
returns-in_err-left-clause-on_error g c =
    holds_on_err _ (g.met.AB.AirBuilder.appends_along _ _ _ [] [] [] [] c.cell.ensures.appends c.cell-2.ensures.appends)

pub returns-in_err-right-clause-on_error : goal.returns-in_err-right-clause-on_error
returns-in_err-right-clause-on_error g c =
    let then = g.met.AB.AirBuilder.appends_along in
    holds_on_err _ (then _ _ _ [] [] [] [] c.cell.ensures.appends (then _ _ _ [] [] [] [] c.cell-2.ensures.appends c.cell-3.ensures.appends))

pub returns-in_err-added-clause-on_error : goal.returns-in_err-added-clause-on_error
returns-in_err-added-clause-on_error g c =
    let then = g.met.AB.AirBuilder.appends_along in
    holds_on_err _
    (then _ _ _ [] [] [] [] c.cell.ensures.appends
    (then _ _ _ [] [] [] [] c.cell-2.ensures.appends
    (then _ _ _ [] [] [] [] c.cell-3.ensures.appends c.add.ensures.appends)))

pub returns-clause-later : goal.returns-clause-later
returns-clause-later g c =
    let B = g.met.AB.AirBuilder in
    let then = B.appends_along in
    B.later_along _ _ _
    (B.appends_later _ _ _ _
    (then _ _ _ [] [] [] [] c.cell.ensures.appends
    (then _ _ _ [] [] [] [] c.cell-2.ensures.appends
    (then _ _ _ [] [] [] [] c.cell-3.ensures.appends c.add.ensures.appends))))
    c.assert_eq_when.ensures.later

pub returns-clause-appends : goal.returns-clause-appends
returns-clause-appends g c =
    let B = g.met.AB.AirBuilder in
    let then = B.appends_along in
    let third = B.appends_later _ _ _ _ c.cell-3.ensures.appends in
    let last = B.appends_later _ _ _ _ c.add.ensures.appends in
    let left = B.persists _ _ third _ _ c.in_ok-left.ensures.represents in
    let total = B.persists _ _ last _ _ (B.persists _ _ third _ _ (B.persists _ _ (B.appends_later _ _ _ _ c.cell-2.ensures.appends) _ _ c.in_ok-total.ensures.represents)) in
    IfOk-weaker _ _ _
    (λ _ q. then _ _ _ [] _ [] [] c.cell.ensures.appends
    (then _ _ _ [] _ [] [] c.cell-2.ensures.appends
    (then _ _ _ [] _ [] [] c.cell-3.ensures.appends
    (then _ _ _ [] _ [] [] c.add.ensures.appends q))))
    (c.assert_eq_when.ensures.appends _ _ total (c.in_ok-added.ensures.represents _ _ left c.in_ok-right.ensures.represents))

pub returns-clause-on_error : goal.returns-clause-on_error
returns-clause-on_error g c =
    let then = g.met.AB.AirBuilder.appends_along in
    on_err_weaker _
    (λ q. then _ _ _ [] [] [] [] c.cell.ensures.appends
    (then _ _ _ [] [] [] [] c.cell-2.ensures.appends
    (then _ _ _ [] [] [] [] c.cell-3.ensures.appends
    (then _ _ _ [] [] [] [] c.add.ensures.appends q))))
    c.assert_eq_when.ensures.on_error
