use Rattle.std.proofs.Common.{◌+◌, ◌*◌, ◌∙◌, arith}
use Rattle.blake3_prime.specs.Trees.{step_half_trees, step_trees}
use Rattle.air_core.specs.Laws.Appended.{on_failure, one_more, some_turns, no_turns, all_turns}
use Rattle.blake3_prime.proofs.rounds.assert_step.Goals as goal

pub loop-h-init : goal.loop-h-init
loop-h-init g c =
    let B = g.met.AB.AirBuilder in
    let r = g.AB.F.RingCore.ring in record {
      later = B.later_same _;
      keeps_shape = λ i. g.AB.AirBuilder.shape c.args.builder.now;
      grown = no_turns g.AB.AirBuilder.appends B.appends_along _ (λ h. step_half_trees r (2 * c.args.p + h) c.args.g) (B.appends_none _);
    }

pub loop-h-preserved : goal.loop-h-preserved
loop-h-preserved g c =
    let B = g.met.AB.AirBuilder in
    let r = g.AB.F.RingCore.ring in record {
      later = B.later_along _ _ _ c.loop-h.invariant.later c.assert_step_half.ensures.later;
      keeps_shape = c.assert_step_half.ensures.keeps_shape ∙ c.loop-h.invariant.keeps_shape;
      grown = one_more g.AB.AirBuilder.appends B.appends_along c.loop-h.h (λ h. step_half_trees r (2 * c.args.p + h) c.args.g) c.loop-h.invariant.grown c.in_ok-assert_step_half.ensures.appends;
    }

pub returns-clause-appends : goal.returns-clause-appends
unfolding step_trees
returns-clause-appends g c =
    let B = g.met.AB.AirBuilder in
    let r = g.AB.F.RingCore.ring in
    all_turns g.AB.AirBuilder.appends B.appends_along _ _ c.loop-h.h 2 (λ h. step_half_trees r (2 * c.args.p + h) c.args.g) (omega arith) c.loop-h.invariant.grown

pub returns-in_err-assert_step_half-clause-on_error : goal.returns-in_err-assert_step_half-clause-on_error
unfolding step_trees
returns-in_err-assert_step_half-clause-on_error g c =
    let B = g.met.AB.AirBuilder in
    let r = g.AB.F.RingCore.ring in
    on_failure (some_turns g.AB.AirBuilder.appends B.appends_along _ _ _ c.loop-h.h 2 (λ h. step_half_trees r (2 * c.args.p + h) c.args.g) c.loop-h-test.true c.loop-h.invariant.grown c.in_err-assert_step_half.ensures.on_error.holds)
