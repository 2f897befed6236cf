use Rattle.air_core.specs.Laws.Appended.{both, later, front, on_failure}
use Rattle.blake3_binary.specs.Places.{second_sum_trees, placed_trees}
use Rattle.blake3_binary.proofs.rounds.assert_placed.Goals as goal

pub returns-clause-appends : goal.returns-clause-appends
unfolding placed_trees
returns-clause-appends g c =
    both g.AB.AirBuilder.appends g.met.AB.AirBuilder.appends_along c.in_ok-assert_first_sum.ensures.appends c.in_ok-assert_second_sum.ensures.appends

pub returns-in_err-assert_first_sum-clause-on_error : goal.returns-in_err-assert_first_sum-clause-on_error
unfolding placed_trees
returns-in_err-assert_first_sum-clause-on_error g c =
    on_failure (front g.AB.AirBuilder.appends g.met.AB.AirBuilder.appends_along (second_sum_trees g.AB.F.RingCore.ring c.args.t c.args.c c.args.b c.args.cells) c.in_err-assert_first_sum.ensures.on_error.holds)

pub returns-in_err-assert_second_sum-clause-on_error : goal.returns-in_err-assert_second_sum-clause-on_error
unfolding placed_trees
returns-in_err-assert_second_sum-clause-on_error g c =
    on_failure (later g.AB.AirBuilder.appends g.met.AB.AirBuilder.appends_along c.in_ok-assert_first_sum.ensures.appends c.in_err-assert_second_sum.ensures.on_error.holds)
