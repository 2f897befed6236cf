use Rattle.std.proofs.Common.{◌+◌, ◌*◌, ◌∙◌, arith}
use Rattle.blake3_prime.specs.Trees.{packed_trees, limbs_trees}
use Rattle.air_core.specs.Laws.Appended.{on_failure, one_more, some_turns, no_turns, all_turns}
use Rattle.blake3_prime.proofs.edges.assert_limbs.Goals as goal

pub loop-i-init : goal.loop-i-init
loop-i-init g c =
    let B = g.met.AB.AirBuilder in
    let r = g.AB.F.RingCore.ring in record {
      later = B.later_same _;
      keeps_shape = λ i. g.AB.AirBuilder.shape c.args.builder.now;
      grown = no_turns g.AB.AirBuilder.appends B.appends_along _ (λ i. packed_trees r (c.args.column + 32 * i) (c.args.limbs + 2 * i)) (B.appends_none _);
    }

pub loop-i-preserved : goal.loop-i-preserved
loop-i-preserved g c =
    let B = g.met.AB.AirBuilder in
    let r = g.AB.F.RingCore.ring in record {
      later = B.later_along _ _ _ c.loop-i.invariant.later c.assert_packed.ensures.later;
      keeps_shape = c.assert_packed.ensures.keeps_shape ∙ c.loop-i.invariant.keeps_shape;
      grown = one_more g.AB.AirBuilder.appends B.appends_along c.loop-i.i (λ i. packed_trees r (c.args.column + 32 * i) (c.args.limbs + 2 * i)) c.loop-i.invariant.grown c.in_ok-assert_packed.ensures.appends;
    }

pub returns-clause-appends : goal.returns-clause-appends
unfolding limbs_trees
returns-clause-appends g c =
    let B = g.met.AB.AirBuilder in
    let r = g.AB.F.RingCore.ring in
    all_turns g.AB.AirBuilder.appends B.appends_along _ _ c.loop-i.i 4 (λ i. packed_trees r (c.args.column + 32 * i) (c.args.limbs + 2 * i)) (omega arith) c.loop-i.invariant.grown

pub returns-in_err-assert_packed-clause-on_error : goal.returns-in_err-assert_packed-clause-on_error
unfolding limbs_trees
returns-in_err-assert_packed-clause-on_error g c =
    let B = g.met.AB.AirBuilder in
    let r = g.AB.F.RingCore.ring in
    on_failure (some_turns g.AB.AirBuilder.appends B.appends_along _ _ _ c.loop-i.i 4 (λ i. packed_trees r (c.args.column + 32 * i) (c.args.limbs + 2 * i)) c.loop-i-test.true c.loop-i.invariant.grown c.in_err-assert_packed.ensures.on_error.holds)
