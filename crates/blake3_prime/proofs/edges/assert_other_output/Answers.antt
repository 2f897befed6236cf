use Rattle.blake3_prime.specs.Trees.{other_output_trees}
use Rattle.air_core.specs.Laws.Appended.{both, later, front, on_failure}
use Rattle.blake3_prime.proofs.edges.assert_other_output.Goals as goal

pub returns-clause-appends : goal.returns-clause-appends
unfolding other_output_trees
returns-clause-appends g c =
    let G = g.AB.AirBuilder.appends in
    let along = g.met.AB.AirBuilder.appends_along in
    both G along (both G along c.in_ok-assert_xors.ensures.appends c.in_ok-assert_xors-2.ensures.appends) c.in_ok-assert_xors-3.ensures.appends

pub returns-in_err-assert_xors-clause-on_error : goal.returns-in_err-assert_xors-clause-on_error
unfolding other_output_trees
returns-in_err-assert_xors-clause-on_error g c =
    let G = g.AB.AirBuilder.appends in
    let along = g.met.AB.AirBuilder.appends_along in
    on_failure (front G along _ (front G along _ c.in_err-assert_xors.ensures.on_error.holds))

pub returns-in_err-assert_xors-2-clause-on_error : goal.returns-in_err-assert_xors-2-clause-on_error
unfolding other_output_trees
returns-in_err-assert_xors-2-clause-on_error g c =
    let G = g.AB.AirBuilder.appends in
    let along = g.met.AB.AirBuilder.appends_along in
    on_failure (front G along _ (later G along c.in_ok-assert_xors.ensures.appends c.in_err-assert_xors-2.ensures.on_error.holds))

pub returns-in_err-assert_xors-3-clause-on_error : goal.returns-in_err-assert_xors-3-clause-on_error
unfolding other_output_trees
returns-in_err-assert_xors-3-clause-on_error g c =
    let G = g.AB.AirBuilder.appends in
    let along = g.met.AB.AirBuilder.appends_along in
    on_failure (later G along (both G along c.in_ok-assert_xors.ensures.appends c.in_ok-assert_xors-2.ensures.appends) c.in_err-assert_xors-3.ensures.on_error.holds)
