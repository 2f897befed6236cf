use Rattle.std.proofs.lemmas.Result.{IfOk-weaker, on_err_weaker}
use Rattle.std.proofs.Common.{[]}
use Rattle.air_core.specs.Laws.Represent.{holds_on_err}
use Rattle.air_equations.proofs.equations.assert_cells_eq_when.Goals as goal

pub returns-in_err-right-clause-on_error : goal.returns-in_err-right-clause-on_error
returns-in_err-right-clause-on_error g c =
    holds_on_err _ (g.met.AB.AirBuilder.appends_along _ _ _ [] [] [] [] c.cell.ensures.appends c.cell-2.ensures.appends)

pub returns-clause-appends : goal.returns-clause-appends
returns-clause-appends g c =
    let B = g.met.AB.AirBuilder in
    let x = B.persists _ _ (B.appends_later _ _ _ _ c.cell-2.ensures.appends) _ _ c.in_ok-left.ensures.represents in
    IfOk-weaker _ _ _
    (λ _ q. B.appends_along _ _ _ [] _ [] [] c.cell.ensures.appends (B.appends_along _ _ _ [] _ [] [] c.cell-2.ensures.appends q))
    (c.assert_eq_when.ensures.appends _ _ x c.in_ok-right.ensures.represents)

pub returns-clause-on_error : goal.returns-clause-on_error
returns-clause-on_error g c =
    let then = g.met.AB.AirBuilder.appends_along in
    on_err_weaker _
    (λ q. then _ _ _ [] [] [] [] c.cell.ensures.appends (then _ _ _ [] [] [] [] c.cell-2.ensures.appends q))
    c.assert_eq_when.ensures.on_error
