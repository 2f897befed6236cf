use Rattle.blake3_prime.specs.Trees.{last_trees}
use Rattle.air_core.specs.Laws.Appended.{both, later, front, on_failure}
use Rattle.blake3_prime.proofs.edges.assert_last.Goals as goal

pub returns-clause-appends : goal.returns-clause-appends
unfolding last_trees
returns-clause-appends g c =
    let G = g.AB.AirBuilder.appends in
    let along = g.met.AB.AirBuilder.appends_along in
    both G along c.in_ok-assert_first_output.ensures.appends c.in_ok-assert_other_output.ensures.appends

pub returns-in_err-assert_first_output-clause-on_error : goal.returns-in_err-assert_first_output-clause-on_error
unfolding last_trees
returns-in_err-assert_first_output-clause-on_error g c =
    let G = g.AB.AirBuilder.appends in
    let along = g.met.AB.AirBuilder.appends_along in
    on_failure (front G along _ c.in_err-assert_first_output.ensures.on_error.holds)

pub returns-in_err-assert_other_output-clause-on_error : goal.returns-in_err-assert_other_output-clause-on_error
unfolding last_trees
returns-in_err-assert_other_output-clause-on_error g c =
    let G = g.AB.AirBuilder.appends in
    let along = g.met.AB.AirBuilder.appends_along in
    on_failure (later G along c.in_ok-assert_first_output.ensures.appends c.in_err-assert_other_output.ensures.on_error.holds)
