use Rattle.std.proofs.Common.{[], ◌∷◌, ◌∙◌, sym, arith, subst}
use Rattle.air_core.specs.Appended.{Appended, AppendedSome}
use Rattle.air_core.specs.Laws.Lists.{tabulate_joined}
use Rattle.air_core.specs.Tree.{bool_tree}
use Rattle.blake3_binary.specs.Trees.{from_column, bits_trees}
use Rattle.air_core.specs.Laws.Appended.{on_failure, one_more, some_turns, no_turns, all_turns}
use Rattle.blake3_binary.proofs.air.assert_bits.Goals as goal

pub loop-i-init : goal.loop-i-init
loop-i-init g c =
    let B = g.met.AB.AirBuilder in
    let r = g.AB.F.RingCore.ring in record {
      later = B.later_same _;
      keeps_shape = λ i. g.AB.AirBuilder.shape c.args.builder.now;
      grown = no_turns g.AB.AirBuilder.appends B.appends_along _ (λ i. bool_tree r.one (from_column c.args.column i) ∷ []) (B.appends_none _);
    }

pub loop-i-preserved : goal.loop-i-preserved
loop-i-preserved g c =
    let B = g.met.AB.AirBuilder in
    let r = g.AB.F.RingCore.ring in record {
      later = B.later_along _ _ _ c.loop-i.invariant.later c.assert_bit.ensures.later;
      keeps_shape = c.assert_bit.ensures.keeps_shape ∙ c.loop-i.invariant.keeps_shape;
      grown = one_more g.AB.AirBuilder.appends B.appends_along c.loop-i.i (λ i. bool_tree r.one (from_column c.args.column i) ∷ []) c.loop-i.invariant.grown c.in_ok-assert_bit.ensures.appends;
    }

pub returns-clause-appends : goal.returns-clause-appends
unfolding bits_trees
returns-clause-appends g c =
    let B = g.met.AB.AirBuilder in
    let r = g.AB.F.RingCore.ring in
    subst (Appended g.AB.AirBuilder.appends _ _) (sym (tabulate_joined c.args.n (λ i. bool_tree r.one (from_column c.args.column i))))
    (all_turns g.AB.AirBuilder.appends B.appends_along _ _ c.loop-i.i c.args.n (λ i. bool_tree r.one (from_column c.args.column i) ∷ []) (omega arith) c.loop-i.invariant.grown)

pub returns-in_err-assert_bit-clause-on_error : goal.returns-in_err-assert_bit-clause-on_error
unfolding bits_trees
returns-in_err-assert_bit-clause-on_error g c =
    let B = g.met.AB.AirBuilder in
    let r = g.AB.F.RingCore.ring in
    on_failure (subst (AppendedSome g.AB.AirBuilder.appends _ _) (sym (tabulate_joined c.args.n (λ i. bool_tree r.one (from_column c.args.column i))))
    (some_turns g.AB.AirBuilder.appends B.appends_along _ _ _ c.loop-i.i c.args.n (λ i. bool_tree r.one (from_column c.args.column i) ∷ []) c.loop-i-test.true c.loop-i.invariant.grown c.in_err-assert_bit.ensures.on_error.holds))
