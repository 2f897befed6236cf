use Rattle.std.proofs.Common.{[], ◌∷◌, ◌∙◌, sym, arith, subst}
use Rattle.air_core.specs.Appended.{Appended, AppendedSome}
use Rattle.air_core.specs.Laws.Lists.{tabulate_joined}
use Rattle.air_core.specs.Tree.{difference}
use Rattle.air_gadgets.specs.Gadgets.{xor_tree}
use Rattle.blake3_prime.specs.Trees.{from_column, xor_trees}
use Rattle.air_core.specs.Laws.Appended.{on_failure, one_more, some_turns, no_turns, all_turns}
use Rattle.blake3_prime.proofs.edges.assert_xors.Goals as goal

pub loop-i-init : goal.loop-i-init
loop-i-init g c =
    let B = g.met.AB.AirBuilder in
    let r = g.AB.F.RingCore.ring in record {
      later = B.later_same _;
      keeps_shape = λ i. g.AB.AirBuilder.shape c.args.builder.now;
      grown = no_turns g.AB.AirBuilder.appends B.appends_along _ (λ i. difference (from_column c.args.column i) (xor_tree r (from_column c.args.left i) (from_column c.args.right i)) ∷ []) (B.appends_none _);
    }

pub loop-i-preserved : goal.loop-i-preserved
loop-i-preserved g c =
    let B = g.met.AB.AirBuilder in
    let r = g.AB.F.RingCore.ring in record {
      later = B.later_along _ _ _ c.loop-i.invariant.later c.assert_xor.ensures.later;
      keeps_shape = c.assert_xor.ensures.keeps_shape ∙ c.loop-i.invariant.keeps_shape;
      grown = one_more g.AB.AirBuilder.appends B.appends_along c.loop-i.i (λ i. difference (from_column c.args.column i) (xor_tree r (from_column c.args.left i) (from_column c.args.right i)) ∷ []) c.loop-i.invariant.grown c.in_ok-assert_xor.ensures.appends;
    }

pub returns-clause-appends : goal.returns-clause-appends
unfolding xor_trees
returns-clause-appends g c =
    let B = g.met.AB.AirBuilder in
    let r = g.AB.F.RingCore.ring in
    subst (Appended g.AB.AirBuilder.appends _ _) (sym (tabulate_joined 128 (λ i. difference (from_column c.args.column i) (xor_tree r (from_column c.args.left i) (from_column c.args.right i)))))
    (all_turns g.AB.AirBuilder.appends B.appends_along _ _ c.loop-i.i 128 (λ i. difference (from_column c.args.column i) (xor_tree r (from_column c.args.left i) (from_column c.args.right i)) ∷ []) (omega arith) c.loop-i.invariant.grown)

pub returns-in_err-assert_xor-clause-on_error : goal.returns-in_err-assert_xor-clause-on_error
unfolding xor_trees
returns-in_err-assert_xor-clause-on_error g c =
    let B = g.met.AB.AirBuilder in
    let r = g.AB.F.RingCore.ring in
    on_failure (subst (AppendedSome g.AB.AirBuilder.appends _ _) (sym (tabulate_joined 128 (λ i. difference (from_column c.args.column i) (xor_tree r (from_column c.args.left i) (from_column c.args.right i)))))
    (some_turns g.AB.AirBuilder.appends B.appends_along _ _ _ c.loop-i.i 128 (λ i. difference (from_column c.args.column i) (xor_tree r (from_column c.args.left i) (from_column c.args.right i)) ∷ []) c.loop-i-test.true c.loop-i.invariant.grown c.in_err-assert_xor.ensures.on_error.holds))
