use Rattle.std.proofs.Common.{[]}
use Rattle.air_core.specs.Laws.Appending.{none_first}
use Rattle.air_core.specs.Laws.Appended.{on_failure}
use Rattle.blake3_binary.proofs.air.assert_bit.Goals as goal

pub returns-in_err-assert_bool-clause-on_error : goal.returns-in_err-assert_bool-clause-on_error
returns-in_err-assert_bool-clause-on_error g c =
    let then = g.met.AB.AirBuilder.appends_along in
    on_failure (record { some = none_first g.AB.AirBuilder.appends _ _ _ _ (then _ _ _ [] [] [] [] c.cell_at.ensures.appends c.in_err-assert_bool.ensures.on_error) })

pub returns-clause-appends : goal.returns-clause-appends
returns-clause-appends g c =
    let then = g.met.AB.AirBuilder.appends_along in
    record { all = then _ _ _ [] _ [] [] c.cell_at.ensures.appends (c.in_ok-assert_bool.ensures.appends _ c.in_ok-cell.ensures.represents) }
