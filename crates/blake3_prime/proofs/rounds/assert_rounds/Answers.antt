use Rattle.std.proofs.Common.{◌∙◌, arith}
use Rattle.blake3_prime.specs.Trees.{steps_trees, rounds_trees}
use Rattle.air_core.specs.Laws.Appended.{on_failure, one_more, some_turns, no_turns, all_turns}
use Rattle.blake3_prime.proofs.rounds.assert_rounds.Goals as goal

pub loop-p-init : goal.loop-p-init
loop-p-init g c =
    let B = g.met.AB.AirBuilder in
    let r = g.AB.F.RingCore.ring in record {
      later = B.later_same _;
      keeps_shape = λ i. g.AB.AirBuilder.shape c.args.builder.now;
      grown = no_turns g.AB.AirBuilder.appends B.appends_along _ (steps_trees r) (B.appends_none _);
    }

pub loop-p-preserved : goal.loop-p-preserved
loop-p-preserved g c =
    let B = g.met.AB.AirBuilder in
    let r = g.AB.F.RingCore.ring in record {
      later = B.later_along _ _ _ c.loop-p.invariant.later c.assert_steps.ensures.later;
      keeps_shape = c.assert_steps.ensures.keeps_shape ∙ c.loop-p.invariant.keeps_shape;
      grown = one_more g.AB.AirBuilder.appends B.appends_along c.loop-p.p (steps_trees r) c.loop-p.invariant.grown c.in_ok-assert_steps.ensures.appends;
    }

pub returns-clause-appends : goal.returns-clause-appends
unfolding rounds_trees
returns-clause-appends g c =
    let B = g.met.AB.AirBuilder in
    let r = g.AB.F.RingCore.ring in
    all_turns g.AB.AirBuilder.appends B.appends_along _ _ c.loop-p.p 14 (steps_trees r) (omega arith) c.loop-p.invariant.grown

pub returns-in_err-assert_steps-clause-on_error : goal.returns-in_err-assert_steps-clause-on_error
unfolding rounds_trees
returns-in_err-assert_steps-clause-on_error g c =
    let B = g.met.AB.AirBuilder in
    let r = g.AB.F.RingCore.ring in
    on_failure (some_turns g.AB.AirBuilder.appends B.appends_along _ _ _ c.loop-p.p 14 (steps_trees r) c.loop-p-test.true c.loop-p.invariant.grown c.in_err-assert_steps.ensures.on_error.holds)
