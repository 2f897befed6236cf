use Rattle.std.proofs.Common.{◌+◌, ◌*◌, ◌∙◌, arith}
use Rattle.blake3_compress.specs.Compress.{iv}
use Rattle.blake3_prime.specs.Trees.{word_trees, iv_trees}
use Rattle.air_core.specs.Laws.Appended.{on_failure, one_more, some_turns, no_turns, all_turns}
use Rattle.blake3_prime.proofs.edges.assert_iv.Goals as goal

pub loop-i-init : goal.loop-i-init
loop-i-init g c =
    let B = g.met.AB.AirBuilder in
    let r = g.AB.F.RingCore.ring in record {
      later = B.later_same _;
      keeps_shape = λ i. g.AB.AirBuilder.shape c.args.builder.now;
      grown = no_turns g.AB.AirBuilder.appends B.appends_along _ (λ i. word_trees r (c.args.column + 2 * i) (iv i)) (B.appends_none _);
    }

pub loop-i-preserved : goal.loop-i-preserved
loop-i-preserved g c =
    let B = g.met.AB.AirBuilder in
    let r = g.AB.F.RingCore.ring in record {
      later = B.later_along _ _ _ c.loop-i.invariant.later c.assert_word.ensures.later;
      keeps_shape = c.assert_word.ensures.keeps_shape ∙ c.loop-i.invariant.keeps_shape;
      grown = one_more g.AB.AirBuilder.appends B.appends_along c.loop-i.i (λ i. word_trees r (c.args.column + 2 * i) (iv i)) c.loop-i.invariant.grown c.in_ok-assert_word.ensures.appends;
    }

pub returns-clause-appends : goal.returns-clause-appends
unfolding iv_trees
returns-clause-appends g c =
    let B = g.met.AB.AirBuilder in
    let r = g.AB.F.RingCore.ring in
    all_turns g.AB.AirBuilder.appends B.appends_along _ _ c.loop-i.i 4 (λ i. word_trees r (c.args.column + 2 * i) (iv i)) (omega arith) c.loop-i.invariant.grown

pub returns-in_err-assert_word-clause-on_error : goal.returns-in_err-assert_word-clause-on_error
unfolding iv_trees
returns-in_err-assert_word-clause-on_error g c =
    let B = g.met.AB.AirBuilder in
    let r = g.AB.F.RingCore.ring in
    on_failure (some_turns g.AB.AirBuilder.appends B.appends_along _ _ _ c.loop-i.i 4 (λ i. word_trees r (c.args.column + 2 * i) (iv i)) c.loop-i-test.true c.loop-i.invariant.grown c.in_err-assert_word.ensures.on_error.holds)
