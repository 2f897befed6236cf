use Rattle.std.proofs.lemmas.Result.{IfOk-weaker, on_err_weaker}
use Rattle.std.proofs.Common.{[]}
use Rattle.air_core.specs.Laws.Represent.{holds_on_err}
use Rattle.air_tables.proofs.sending.assert_product.Goals as goal

pub returns-in_err-p-clause-on_error : goal.returns-in_err-p-clause-on_error
returns-in_err-p-clause-on_error g c =
    holds_on_err _ (g.met.AB.AirBuilder.appends_along _ _ _ [] [] [] [] c.cell.ensures.appends c.product_of_cells.ensures.appends)

pub returns-clause-appends : goal.returns-clause-appends
returns-clause-appends g c =
    let B = g.met.AB.AirBuilder in
    let a = B.persists _ _ (B.appends_later _ _ _ _ c.product_of_cells.ensures.appends) _ _ c.in_ok-a.ensures.represents in
    let then = B.appends_along in
    IfOk-weaker _ _ _
    (λ _ q. then _ _ _ [] _ [] [] c.cell.ensures.appends (then _ _ _ [] _ [] [] c.product_of_cells.ensures.appends q))
    (c.assert_eq.ensures.appends _ _ a c.in_ok-p.ensures.represents)

pub returns-clause-on_error : goal.returns-clause-on_error
returns-clause-on_error g c =
    let then = g.met.AB.AirBuilder.appends_along in
    on_err_weaker _
    (λ q. then _ _ _ [] [] [] [] c.cell.ensures.appends (then _ _ _ [] [] [] [] c.product_of_cells.ensures.appends q))
    c.assert_eq.ensures.on_error
