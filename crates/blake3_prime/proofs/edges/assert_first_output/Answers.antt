use Rattle.blake3_prime.specs.Trees.{first_output_trees}
use Rattle.air_core.specs.Laws.Appended.{both, later, front, on_failure}
use Rattle.blake3_prime.proofs.edges.assert_first_output.Goals as goal

pub returns-clause-appends : goal.returns-clause-appends
unfolding first_output_trees
returns-clause-appends g c =
    let G = g.AB.AirBuilder.appends in
    let along = g.met.AB.AirBuilder.appends_along in
    both G along (both G along c.in_ok-assert_limbs.ensures.appends c.in_ok-assert_bits.ensures.appends) c.in_ok-assert_masked.ensures.appends

pub returns-in_err-assert_limbs-clause-on_error : goal.returns-in_err-assert_limbs-clause-on_error
unfolding first_output_trees
returns-in_err-assert_limbs-clause-on_error g c =
    let G = g.AB.AirBuilder.appends in
    let along = g.met.AB.AirBuilder.appends_along in
    on_failure (front G along _ (front G along _ c.in_err-assert_limbs.ensures.on_error.holds))

pub returns-in_err-assert_bits-clause-on_error : goal.returns-in_err-assert_bits-clause-on_error
unfolding first_output_trees
returns-in_err-assert_bits-clause-on_error g c =
    let G = g.AB.AirBuilder.appends in
    let along = g.met.AB.AirBuilder.appends_along in
    on_failure (front G along _ (later G along c.in_ok-assert_limbs.ensures.appends c.in_err-assert_bits.ensures.on_error.holds))

pub returns-in_err-assert_masked-clause-on_error : goal.returns-in_err-assert_masked-clause-on_error
unfolding first_output_trees
returns-in_err-assert_masked-clause-on_error g c =
    let G = g.AB.AirBuilder.appends in
    let along = g.met.AB.AirBuilder.appends_along in
    on_failure (later G along (both G along c.in_ok-assert_limbs.ensures.appends c.in_ok-assert_bits.ensures.appends) c.in_err-assert_masked.ensures.on_error.holds)
