use Rattle.std.proofs.Common.{[], ◌∷◌, ◌∙◌, sym, arith, subst}
use Rattle.air_core.specs.Appended.{Appended, AppendedSome}
use Rattle.air_core.specs.Laws.Lists.{tabulate_joined}
use Rattle.air_core.specs.Laws.Appended.{on_failure, one_more, some_turns, no_turns, all_turns}
use Rattle.chain_air.specs.Trees.{DeclaresChain, link_tree, link_trees}
use Rattle.chain_air.proofs.links.assert_links.Goals as goal

pub assert_link-requires-clause-declares : goal.assert_link-requires-clause-declares
assert_link-requires-clause-declares g c = subst DeclaresChain (sym c.loop-i.invariant.keeps_shape) c.requires.declares

pub loop-i-init : goal.loop-i-init
loop-i-init g c =
    let B = g.met.AB.AirBuilder in record {
      later = B.later_same _;
      keeps_shape = λ i. g.AB.AirBuilder.shape c.args.builder.now;
      grown = no_turns g.AB.AirBuilder.appends B.appends_along _ (λ i. link_tree i ∷ []) (B.appends_none _);
    }

pub loop-i-preserved : goal.loop-i-preserved
loop-i-preserved g c =
    let B = g.met.AB.AirBuilder in record {
      later = B.later_along _ _ _ c.loop-i.invariant.later c.assert_link.ensures.later;
      keeps_shape = c.assert_link.ensures.keeps_shape ∙ c.loop-i.invariant.keeps_shape;
      grown = one_more g.AB.AirBuilder.appends B.appends_along c.loop-i.i (λ i. link_tree i ∷ []) c.loop-i.invariant.grown c.in_ok-assert_link.ensures.appends;
    }

pub returns-clause-appends : goal.returns-clause-appends
unfolding link_trees
returns-clause-appends g c =
    let B = g.met.AB.AirBuilder in
    subst (Appended g.AB.AirBuilder.appends _ _) (sym (tabulate_joined 256 link_tree))
    (all_turns g.AB.AirBuilder.appends B.appends_along _ _ c.loop-i.i 256 (λ i. link_tree i ∷ []) (omega arith) c.loop-i.invariant.grown)

pub returns-in_err-assert_link-clause-on_error : goal.returns-in_err-assert_link-clause-on_error
unfolding link_trees
returns-in_err-assert_link-clause-on_error g c =
    let B = g.met.AB.AirBuilder in
    on_failure (subst (AppendedSome g.AB.AirBuilder.appends _ _) (sym (tabulate_joined 256 link_tree))
    (some_turns g.AB.AirBuilder.appends B.appends_along _ _ _ c.loop-i.i 256 (λ i. link_tree i ∷ []) c.loop-i-test.true c.loop-i.invariant.grown c.in_err-assert_link.ensures.on_error.holds))
