use Rattle.std.proofs.Common.{◌∙◌, arith}
use Rattle.blake3_binary.specs.Trees.{laid, binary_steps_trees}
use Rattle.blake3_binary.specs.Places.{binary_step_trees}
use Rattle.air_core.specs.Laws.Appended.{on_failure, one_more, some_turns, no_turns, all_turns}
use Rattle.blake3_binary.proofs.rounds.assert_steps.Goals as goal

pub loop-k-init : goal.loop-k-init
loop-k-init g c =
    let B = g.met.AB.AirBuilder in
    let r = g.AB.F.RingCore.ring in record {
      later = B.later_same _;
      keeps_shape = λ i. g.AB.AirBuilder.shape c.args.builder.now;
      grown = no_turns g.AB.AirBuilder.appends B.appends_along _ (binary_step_trees r) (B.appends_none _);
    }

pub loop-k-preserved : goal.loop-k-preserved
loop-k-preserved g c =
    let B = g.met.AB.AirBuilder in
    let r = g.AB.F.RingCore.ring in record {
      later = B.later_along _ _ _ c.loop-k.invariant.later c.assert_step.ensures.later;
      keeps_shape = c.assert_step.ensures.keeps_shape ∙ c.loop-k.invariant.keeps_shape;
      grown = one_more g.AB.AirBuilder.appends B.appends_along c.loop-k.k (binary_step_trees r) c.loop-k.invariant.grown c.in_ok-assert_step.ensures.appends;
    }

pub returns-clause-appends : goal.returns-clause-appends
unfolding binary_steps_trees laid binary_step_trees
returns-clause-appends g c =
    let B = g.met.AB.AirBuilder in
    let r = g.AB.F.RingCore.ring in
    all_turns g.AB.AirBuilder.appends B.appends_along _ _ c.loop-k.k 56 (binary_step_trees r) (omega arith) c.loop-k.invariant.grown

pub returns-in_err-assert_step-clause-on_error : goal.returns-in_err-assert_step-clause-on_error
unfolding binary_steps_trees laid binary_step_trees
returns-in_err-assert_step-clause-on_error g c =
    let B = g.met.AB.AirBuilder in
    let r = g.AB.F.RingCore.ring in
    on_failure (some_turns g.AB.AirBuilder.appends B.appends_along _ _ _ c.loop-k.k 56 (binary_step_trees r) c.loop-k-test.true c.loop-k.invariant.grown c.in_err-assert_step.ensures.on_error.holds)
