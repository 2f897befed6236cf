use Rattle.std.proofs.lemmas.Result.{IfOk-weaker, on_err_weaker}
use Rattle.std.proofs.Common.{[]}
use Rattle.air_core.specs.Laws.Represent.{holds_on_err}
use Rattle.air_equations.proofs.equations.assert_eq_when.Goals as goal

pub returns-in_err-here-clause-on_error : goal.returns-in_err-here-clause-on_error
returns-in_err-here-clause-on_error g c =
    holds_on_err _ (g.met.AB.AirBuilder.appends_along _ _ _ [] [] [] [] c.sub.ensures.appends c.cell.ensures.appends)

pub returns-in_err-product-clause-on_error : goal.returns-in_err-product-clause-on_error
returns-in_err-product-clause-on_error g c =
    let then = g.met.AB.AirBuilder.appends_along in
    holds_on_err _ (then _ _ _ [] [] [] [] c.sub.ensures.appends (then _ _ _ [] [] [] [] c.cell.ensures.appends c.mul.ensures.appends))

pub returns-clause-appends : goal.returns-clause-appends
returns-clause-appends g c =
    let B = g.met.AB.AirBuilder in
    let then = B.appends_along in
    λ s t x y.
    let d = B.persists _ _ (B.appends_later _ _ _ _ c.cell.ensures.appends) _ _ (c.in_ok-difference.ensures.represents s t x y) in
    IfOk-weaker _ _ _
    (λ _ q. then _ _ _ [] _ [] [] c.sub.ensures.appends
    (then _ _ _ [] _ [] [] c.cell.ensures.appends
    (then _ _ _ [] _ [] [] c.mul.ensures.appends q)))
    (c.assert_zero.ensures.appends _ (c.in_ok-product.ensures.represents _ _ c.in_ok-here.ensures.represents d))

pub returns-clause-on_error : goal.returns-clause-on_error
returns-clause-on_error g c =
    let then = g.met.AB.AirBuilder.appends_along in
    on_err_weaker _
    (λ q. then _ _ _ [] [] [] [] c.sub.ensures.appends
    (then _ _ _ [] [] [] [] c.cell.ensures.appends
    (then _ _ _ [] [] [] [] c.mul.ensures.appends q)))
    c.assert_zero.ensures.on_error
