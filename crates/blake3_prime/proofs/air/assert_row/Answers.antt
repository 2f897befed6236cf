use Rattle.blake3_prime.specs.Trees.{blake3_trees}
use Rattle.air_core.specs.Laws.Appended.{both, later, front, on_failure}
use Rattle.blake3_prime.proofs.air.assert_row.Goals as goal

pub returns-clause-appends : goal.returns-clause-appends
unfolding blake3_trees
returns-clause-appends g c =
    let G = g.AB.AirBuilder.appends in
    let along = g.met.AB.AirBuilder.appends_along in
    both G along (both G along c.in_ok-assert_first.ensures.appends c.in_ok-assert_rounds.ensures.appends) c.in_ok-assert_last.ensures.appends

pub returns-in_err-assert_first-clause-on_error : goal.returns-in_err-assert_first-clause-on_error
unfolding blake3_trees
returns-in_err-assert_first-clause-on_error g c =
    let G = g.AB.AirBuilder.appends in
    let along = g.met.AB.AirBuilder.appends_along in
    on_failure (front G along _ (front G along _ c.in_err-assert_first.ensures.on_error.holds))

pub returns-in_err-assert_rounds-clause-on_error : goal.returns-in_err-assert_rounds-clause-on_error
unfolding blake3_trees
returns-in_err-assert_rounds-clause-on_error g c =
    let G = g.AB.AirBuilder.appends in
    let along = g.met.AB.AirBuilder.appends_along in
    on_failure (front G along _ (later G along c.in_ok-assert_first.ensures.appends c.in_err-assert_rounds.ensures.on_error.holds))

pub returns-in_err-assert_last-clause-on_error : goal.returns-in_err-assert_last-clause-on_error
unfolding blake3_trees
returns-in_err-assert_last-clause-on_error g c =
    let G = g.AB.AirBuilder.appends in
    let along = g.met.AB.AirBuilder.appends_along in
    on_failure (later G along (both G along c.in_ok-assert_first.ensures.appends c.in_ok-assert_rounds.ensures.appends) c.in_err-assert_last.ensures.on_error.holds)
