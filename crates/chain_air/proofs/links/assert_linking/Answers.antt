use Rattle.chain_air.specs.Trees.{linking_trees}
use Rattle.air_core.specs.Laws.Appended.{both, later, front, on_failure}
use Rattle.chain_air.proofs.links.assert_linking.Goals as goal

pub returns-clause-appends : goal.returns-clause-appends
unfolding linking_trees
returns-clause-appends g c =
    let G = g.AB.AirBuilder.appends in
    let along = g.met.AB.AirBuilder.appends_along in
    both G along (both G along c.in_ok-assert_links.ensures.appends c.in_ok-assert_edge.ensures.appends) c.in_ok-assert_edge-2.ensures.appends

pub returns-in_err-assert_links-clause-on_error : goal.returns-in_err-assert_links-clause-on_error
unfolding linking_trees
returns-in_err-assert_links-clause-on_error g c =
    let G = g.AB.AirBuilder.appends in
    let along = g.met.AB.AirBuilder.appends_along in
    on_failure (front G along _ (front G along _ c.in_err-assert_links.ensures.on_error.holds))

pub returns-in_err-assert_edge-clause-on_error : goal.returns-in_err-assert_edge-clause-on_error
unfolding linking_trees
returns-in_err-assert_edge-clause-on_error g c =
    let G = g.AB.AirBuilder.appends in
    let along = g.met.AB.AirBuilder.appends_along in
    on_failure (front G along _ (later G along c.in_ok-assert_links.ensures.appends c.in_err-assert_edge.ensures.on_error.holds))

pub returns-in_err-assert_edge-2-clause-on_error : goal.returns-in_err-assert_edge-2-clause-on_error
unfolding linking_trees
returns-in_err-assert_edge-2-clause-on_error g c =
    let G = g.AB.AirBuilder.appends in
    let along = g.met.AB.AirBuilder.appends_along in
    on_failure (later G along (both G along c.in_ok-assert_links.ensures.appends c.in_ok-assert_edge.ensures.appends) c.in_err-assert_edge-2.ensures.on_error.holds)
