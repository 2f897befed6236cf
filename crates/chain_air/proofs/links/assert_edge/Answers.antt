use Rattle.std.proofs.Common.{◌+◌, ◌*◌, ◌∙◌, sym, arith, subst}
use Rattle.air_core.specs.Shape.{Shape, Declares}
use Rattle.air_core.specs.Laws.Appended.{on_failure, one_more, some_turns, no_turns, all_turns}
use Rattle.chain_air.specs.Trees.{DeclaresChain, public_word_trees, edge_trees}
use Rattle.chain_air.proofs.links.assert_edge.Goals as goal

pub assert_public_word-requires-clause-declares : goal.assert_public_word-requires-clause-declares
assert_public_word-requires-clause-declares g c = subst DeclaresChain (sym c.loop-w.invariant.keeps_shape) c.requires.declares

pub assert_public_word-requires-clause-selector : goal.assert_public_word-requires-clause-selector
assert_public_word-requires-clause-selector g c = subst (λ (s : Shape). Declares s c.args.selector) (sym c.loop-w.invariant.keeps_shape) c.requires.selector

pub loop-w-init : goal.loop-w-init
loop-w-init g c =
    let B = g.met.AB.AirBuilder in
    let r = g.AB.F.RingCore.ring in record {
      later = B.later_same _;
      keeps_shape = λ i. g.AB.AirBuilder.shape c.args.builder.now;
      grown = no_turns g.AB.AirBuilder.appends B.appends_along _ (λ w. public_word_trees r c.args.selector (c.args.column + 32 * w) (c.args.public + 2 * w)) (B.appends_none _);
    }

pub loop-w-preserved : goal.loop-w-preserved
loop-w-preserved g c =
    let B = g.met.AB.AirBuilder in
    let r = g.AB.F.RingCore.ring in record {
      later = B.later_along _ _ _ c.loop-w.invariant.later c.assert_public_word.ensures.later;
      keeps_shape = c.assert_public_word.ensures.keeps_shape ∙ c.loop-w.invariant.keeps_shape;
      grown = one_more g.AB.AirBuilder.appends B.appends_along c.loop-w.w (λ w. public_word_trees r c.args.selector (c.args.column + 32 * w) (c.args.public + 2 * w)) c.loop-w.invariant.grown
          c.in_ok-assert_public_word.ensures.appends;
    }

pub returns-clause-appends : goal.returns-clause-appends
unfolding edge_trees
returns-clause-appends g c =
    let B = g.met.AB.AirBuilder in
    let r = g.AB.F.RingCore.ring in
    all_turns g.AB.AirBuilder.appends B.appends_along _ _ c.loop-w.w 8 (λ w. public_word_trees r c.args.selector (c.args.column + 32 * w) (c.args.public + 2 * w)) (omega arith) c.loop-w.invariant.grown

pub returns-in_err-assert_public_word-clause-on_error : goal.returns-in_err-assert_public_word-clause-on_error
unfolding edge_trees
returns-in_err-assert_public_word-clause-on_error g c =
    let B = g.met.AB.AirBuilder in
    let r = g.AB.F.RingCore.ring in
    on_failure (some_turns g.AB.AirBuilder.appends B.appends_along _ _ _ c.loop-w.w 8 (λ w. public_word_trees r c.args.selector (c.args.column + 32 * w) (c.args.public + 2 * w)) c.loop-w-test.true
    c.loop-w.invariant.grown c.in_err-assert_public_word.ensures.on_error.holds)
