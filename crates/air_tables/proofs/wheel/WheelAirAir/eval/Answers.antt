use Rattle.std.proofs.Common.{[]}
use Rattle.air_core.specs.Laws.Appending.{none_on_err}
use Rattle.air_tables.proofs.wheel.WheelAirAir.eval.Goals as goal

pub returns-clause-appends : goal.returns-clause-appends
returns-clause-appends g c =
    let B = g.met.AB.AirBuilder in
    let after = B.appends_later in
    let past_number = B.persists _ _ (after _ _ _ _ c.cell-2.ensures.appends) in
    let past_turn = B.persists _ _ (after _ _ _ _ c.cell-3.ensures.appends) in
    let past_product = B.persists _ _ (after _ _ _ _ c.mul.ensures.appends) in
    let m = past_product _ _ (past_turn _ _ (past_number _ _ c.in_ok-m.ensures.represents)) in
    let number = past_turn _ _ c.in_ok-number.ensures.represents in
    let product = c.in_ok-product.ensures.represents _ _ number c.in_ok-turn.ensures.represents in
    let then = B.appends_along in
    then _ _ _ [] _ [] [] c.cell.ensures.appends
    (then _ _ _ [] _ [] [] c.cell-2.ensures.appends
    (then _ _ _ [] _ [] [] c.cell-3.ensures.appends
    (then _ _ _ [] _ [] [] c.mul.ensures.appends
    (c.in_ok-assert_eq.ensures.appends _ _ m product))))

pub returns-in_err-m-clause-on_error : goal.returns-in_err-m-clause-on_error
returns-in_err-m-clause-on_error g c = none_on_err g.AB.AirBuilder.appends _ _ _ _ _ c.cell.ensures.appends

pub returns-in_err-number-clause-on_error : goal.returns-in_err-number-clause-on_error
returns-in_err-number-clause-on_error g c =
    let then = g.met.AB.AirBuilder.appends_along in
    none_on_err g.AB.AirBuilder.appends _ _ _ _ _
    (then _ _ _ [] [] [] [] c.cell.ensures.appends c.cell-2.ensures.appends)

pub returns-in_err-turn-clause-on_error : goal.returns-in_err-turn-clause-on_error
returns-in_err-turn-clause-on_error g c =
    let then = g.met.AB.AirBuilder.appends_along in
    none_on_err g.AB.AirBuilder.appends _ _ _ _ _
    (then _ _ _ [] [] [] [] c.cell.ensures.appends (then _ _ _ [] [] [] [] c.cell-2.ensures.appends c.cell-3.ensures.appends))

pub returns-in_err-product-clause-on_error : goal.returns-in_err-product-clause-on_error
returns-in_err-product-clause-on_error g c =
    let then = g.met.AB.AirBuilder.appends_along in
    none_on_err g.AB.AirBuilder.appends _ _ _ _ _
    (then _ _ _ [] [] [] [] c.cell.ensures.appends (then _ _ _ [] [] [] [] c.cell-2.ensures.appends (then _ _ _ [] [] [] [] c.cell-3.ensures.appends c.mul.ensures.appends)))

pub returns-in_err-assert_eq-clause-on_error : goal.returns-in_err-assert_eq-clause-on_error
returns-in_err-assert_eq-clause-on_error g c =
    let then = g.met.AB.AirBuilder.appends_along in
    none_on_err g.AB.AirBuilder.appends _ _ _ _ _
    (then _ _ _ [] [] [] [] c.cell.ensures.appends (then _ _ _ [] [] [] [] c.cell-2.ensures.appends (then _ _ _ [] [] [] [] c.cell-3.ensures.appends (then _ _ _ [] [] [] [] c.mul.ensures.appends c.in_err-assert_eq.ensures.on_error))))

pub returns-clause-later : goal.returns-clause-later
returns-clause-later g c =
    let B = g.met.AB.AirBuilder in
    let after = B.appends_later in
    B.later_along _ _ _ (after _ _ _ _ c.cell.ensures.appends)
    (B.later_along _ _ _ (after _ _ _ _ c.cell-2.ensures.appends)
    (B.later_along _ _ _ (after _ _ _ _ c.cell-3.ensures.appends) (B.later_along _ _ _ (after _ _ _ _ c.mul.ensures.appends) c.assert_eq.ensures.later)))
