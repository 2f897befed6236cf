use Rattle.std.proofs.Common.{[]}
use Rattle.air_core.specs.Laws.Appending.{none_first}
use Rattle.air_core.specs.Laws.Appended.{on_failure}
use Rattle.chain_air.proofs.links.assert_link.Goals as goal

pub returns-in_err-assert_selected-clause-on_error : goal.returns-in_err-assert_selected-clause-on_error
returns-in_err-assert_selected-clause-on_error g c =
    let then = g.met.AB.AirBuilder.appends_along in
    on_failure (record { some = none_first g.AB.AirBuilder.appends _ _ _ _ (then _ _ _ [] [] [] [] c.cell.ensures.appends c.in_err-assert_selected.ensures.on_error) })

pub returns-clause-appends : goal.returns-clause-appends
returns-clause-appends g c =
    let then = g.met.AB.AirBuilder.appends_along in
    record { all = then _ _ _ [] _ [] [] c.cell.ensures.appends (c.in_ok-assert_selected.ensures.appends _ c.in_ok-next.ensures.represents) }
