use Rattle.std.proofs.Common.{[]}
use Rattle.air_core.specs.Laws.Appending.{none_first}
use Rattle.air_core.specs.Laws.Appended.{on_failure}
use Rattle.blake3_prime.proofs.edges.assert_xor.Goals as goal

pub returns-in_err-x-clause-on_error : goal.returns-in_err-x-clause-on_error
returns-in_err-x-clause-on_error g c =
    let then = g.met.AB.AirBuilder.appends_along in
    on_failure (record { some = none_first g.AB.AirBuilder.appends _ _ _ _ (then _ _ _ [] [] [] [] c.cell_at.ensures.appends c.cell_at-2.ensures.appends) })

pub returns-in_err-y-clause-on_error : goal.returns-in_err-y-clause-on_error
returns-in_err-y-clause-on_error g c =
    let then = g.met.AB.AirBuilder.appends_along in
    on_failure (record { some = none_first g.AB.AirBuilder.appends _ _ _ _ (then _ _ _ [] [] [] [] c.cell_at.ensures.appends (then _ _ _ [] [] [] [] c.cell_at-2.ensures.appends c.cell_at-3.ensures.appends)) })

pub returns-in_err-both-clause-on_error : goal.returns-in_err-both-clause-on_error
returns-in_err-both-clause-on_error g c =
    let then = g.met.AB.AirBuilder.appends_along in
    on_failure (record { some = none_first g.AB.AirBuilder.appends _ _ _ _ (then _ _ _ [] [] [] [] c.cell_at.ensures.appends (then _ _ _ [] [] [] [] c.cell_at-2.ensures.appends (then _ _ _ [] [] [] [] c.cell_at-3.ensures.appends c.xor.ensures.appends))) })

pub returns-in_err-assert_eq-clause-on_error : goal.returns-in_err-assert_eq-clause-on_error
returns-in_err-assert_eq-clause-on_error g c =
    let then = g.met.AB.AirBuilder.appends_along in
    on_failure (record { some = none_first g.AB.AirBuilder.appends _ _ _ _ (then _ _ _ [] [] [] [] c.cell_at.ensures.appends (then _ _ _ [] [] [] [] c.cell_at-2.ensures.appends (then _ _ _ [] [] [] [] c.cell_at-3.ensures.appends (then _ _ _ [] [] [] [] c.xor.ensures.appends c.in_err-assert_eq.ensures.on_error)))) })

pub returns-clause-appends : goal.returns-clause-appends
returns-clause-appends g c =
    let B = g.met.AB.AirBuilder in
    let then = B.appends_along in
    let past_x = B.persists _ _ (B.appends_later _ _ _ _ c.cell_at-2.ensures.appends) in
    let past_y = B.persists _ _ (B.appends_later _ _ _ _ c.cell_at-3.ensures.appends) in
    let past_both = B.persists _ _ (B.appends_later _ _ _ _ c.xor.ensures.appends) in
    let cell = past_both _ _ (past_y _ _ (past_x _ _ c.in_ok-cell.ensures.represents)) in
    let x = past_y _ _ c.in_ok-x.ensures.represents in
    let both = c.in_ok-both.ensures.represents _ _ x c.in_ok-y.ensures.represents in
    record { all = then _ _ _ [] _ [] [] c.cell_at.ensures.appends (then _ _ _ [] _ [] [] c.cell_at-2.ensures.appends (then _ _ _ [] _ [] [] c.cell_at-3.ensures.appends (then _ _ _ [] _ [] [] c.xor.ensures.appends (c.in_ok-assert_eq.ensures.appends _ _ cell both)))) }
