use Rattle.blake3_binary.specs.Trees.{binary_steps_trees, binary_trees}
use Rattle.air_core.specs.Laws.Appended.{both, later, front, on_failure}
use Rattle.blake3_binary.proofs.air.assert_all.Goals as goal

pub returns-clause-appends : goal.returns-clause-appends
unfolding binary_trees
returns-clause-appends g c =
    both g.AB.AirBuilder.appends g.met.AB.AirBuilder.appends_along c.in_ok-assert_bits.ensures.appends c.in_ok-assert_steps.ensures.appends

pub returns-in_err-assert_bits-clause-on_error : goal.returns-in_err-assert_bits-clause-on_error
unfolding binary_trees
returns-in_err-assert_bits-clause-on_error g c =
    on_failure (front g.AB.AirBuilder.appends g.met.AB.AirBuilder.appends_along (binary_steps_trees g.AB.F.RingCore.ring) c.in_err-assert_bits.ensures.on_error.holds)

pub returns-in_err-assert_steps-clause-on_error : goal.returns-in_err-assert_steps-clause-on_error
unfolding binary_trees
returns-in_err-assert_steps-clause-on_error g c =
    on_failure (later g.AB.AirBuilder.appends g.met.AB.AirBuilder.appends_along c.in_ok-assert_bits.ensures.appends c.in_err-assert_steps.ensures.on_error.holds)
