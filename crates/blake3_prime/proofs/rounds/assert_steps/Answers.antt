use Rattle.std.proofs.Common.{◌∙◌, arith}
use Rattle.blake3_prime.specs.Trees.{step_trees, steps_trees}
use Rattle.air_core.specs.Laws.Appended.{on_failure, one_more, some_turns, no_turns, all_turns}
use Rattle.blake3_prime.proofs.rounds.assert_steps.Goals as goal

pub loop-g-init : goal.loop-g-init
loop-g-init g c =
    let B = g.met.AB.AirBuilder in
    let r = g.AB.F.RingCore.ring in record {
      later = B.later_same _;
      keeps_shape = λ i. g.AB.AirBuilder.shape c.args.builder.now;
      grown = no_turns g.AB.AirBuilder.appends B.appends_along _ (step_trees r c.args.p) (B.appends_none _);
    }

pub loop-g-preserved : goal.loop-g-preserved
loop-g-preserved g c =
    let B = g.met.AB.AirBuilder in
    let r = g.AB.F.RingCore.ring in record {
      later = B.later_along _ _ _ c.loop-g.invariant.later c.assert_step.ensures.later;
      keeps_shape = c.assert_step.ensures.keeps_shape ∙ c.loop-g.invariant.keeps_shape;
      grown = one_more g.AB.AirBuilder.appends B.appends_along c.loop-g.g (step_trees r c.args.p) c.loop-g.invariant.grown c.in_ok-assert_step.ensures.appends;
    }

pub returns-clause-appends : goal.returns-clause-appends
unfolding steps_trees
returns-clause-appends g c =
    let B = g.met.AB.AirBuilder in
    let r = g.AB.F.RingCore.ring in
    all_turns g.AB.AirBuilder.appends B.appends_along _ _ c.loop-g.g 4 (step_trees r c.args.p) (omega arith) c.loop-g.invariant.grown

pub returns-in_err-assert_step-clause-on_error : goal.returns-in_err-assert_step-clause-on_error
unfolding steps_trees
returns-in_err-assert_step-clause-on_error g c =
    let B = g.met.AB.AirBuilder in
    let r = g.AB.F.RingCore.ring in
    on_failure (some_turns g.AB.AirBuilder.appends B.appends_along _ _ _ c.loop-g.g 4 (step_trees r c.args.p) c.loop-g-test.true c.loop-g.invariant.grown c.in_err-assert_step.ensures.on_error.holds)
