use Rattle.std.proofs.Common.{◌+◌, ◌*◌, ◌/◌, ◌%◌, ◌∙◌, arith}
use Rattle.blake3_binary.specs.Trees.{half_step_trees}
use Rattle.blake3_binary.specs.Places.{binary_step_trees}
use Rattle.air_core.specs.Laws.Appended.{on_failure, one_more, some_turns, no_turns, all_turns}
use Rattle.blake3_binary.proofs.rounds.assert_step.Goals as goal

pub loop-h-init : goal.loop-h-init
loop-h-init g c =
    let B = g.met.AB.AirBuilder in
    let r = g.AB.F.RingCore.ring in record {
      later = B.later_same _;
      keeps_shape = λ i. g.AB.AirBuilder.shape c.args.builder.now;
      grown = no_turns g.AB.AirBuilder.appends B.appends_along _ (λ h. half_step_trees r (2 * (c.args.k / 4) + h) (c.args.k % 4)) (B.appends_none _);
    }

pub loop-h-preserved : goal.loop-h-preserved
loop-h-preserved g c =
    let B = g.met.AB.AirBuilder in
    let r = g.AB.F.RingCore.ring in record {
      later = B.later_along _ _ _ c.loop-h.invariant.later c.assert_half_step.ensures.later;
      keeps_shape = c.assert_half_step.ensures.keeps_shape ∙ c.loop-h.invariant.keeps_shape;
      grown = one_more g.AB.AirBuilder.appends B.appends_along c.loop-h.h (λ h. half_step_trees r (2 * (c.args.k / 4) + h) (c.args.k % 4)) c.loop-h.invariant.grown c.in_ok-assert_half_step.ensures.appends;
    }

pub returns-clause-appends : goal.returns-clause-appends
unfolding binary_step_trees
returns-clause-appends g c =
    let B = g.met.AB.AirBuilder in
    let r = g.AB.F.RingCore.ring in
    all_turns g.AB.AirBuilder.appends B.appends_along _ _ c.loop-h.h 2 (λ h. half_step_trees r (2 * (c.args.k / 4) + h) (c.args.k % 4)) (omega arith) c.loop-h.invariant.grown

pub returns-in_err-assert_half_step-clause-on_error : goal.returns-in_err-assert_half_step-clause-on_error
unfolding binary_step_trees
returns-in_err-assert_half_step-clause-on_error g c =
    let B = g.met.AB.AirBuilder in
    let r = g.AB.F.RingCore.ring in
    on_failure (some_turns g.AB.AirBuilder.appends B.appends_along _ _ _ c.loop-h.h 2 (λ h. half_step_trees r (2 * (c.args.k / 4) + h) (c.args.k % 4)) c.loop-h-test.true c.loop-h.invariant.grown c.in_err-assert_half_step.ensures.on_error.holds)
