use Rattle.std.proofs.Common.{◌≡◌, ◌-◌, ◌<◌, suc, [], length, sym, ◌∙◌, subst, arith}
use Rattle.air_core.specs.Tree.{Tree}
use Rattle.air_core.specs.Shape.{Shape, ReadsSendable}
use Rattle.air_core.specs.Symbolic.{tree_of}
use Rattle.p3_lookup.specs.Trees.{trees}
use Rattle.p3_lookup.proofs.Turns.{at_item, eval_turn}
use Rattle.p3_lookup.proofs.fraction.combined.Goals as goal

pub combined_step-requires : goal.combined_step-requires
combined_step-requires g c =
    let within : c.loop-i.i - 1 < length c.args.tuple.now = omega arith in
    let P : Shape → Type 0 = λ s. ReadsSendable s (tree_of c.index-tuple-i.result) in
    record {
      reads = subst P (sym c.loop-i.invariant.keeps_shape)
          (at_item (ReadsSendable (g.AB.AirBuilder.shape c.args.builder.now)) tree_of c.args.tuple.now (c.loop-i.i - 1) c.index-tuple-i.result within c.index-tuple-i.is c.requires.reads);
    }

pub returns-in_err-sum-2-clause-appends : goal.returns-in_err-sum-2-clause-appends
returns-in_err-sum-2-clause-appends g c = g.met.AB.AirBuilder.appends_along _ _ _ [] [] [] [] c.loop-i.invariant.appends c.combined_step.ensures.appends

pub loop-i-preserved : goal.loop-i-preserved
loop-i-preserved g c =
    let B = g.met.AB.AirBuilder in
    let r = trees g.AB.F.RingCore.ring in
    let within : c.loop-i.i - 1 < length c.args.tuple.now = omega arith in
    let next : suc (c.loop-i.i - 1) ≡ c.loop-i.i = omega arith in
    record {
      keeps_shape = c.combined_step.ensures.keeps_shape ∙ c.loop-i.invariant.keeps_shape;
      appends = B.appends_along _ _ _ [] [] [] [] c.loop-i.invariant.appends c.combined_step.ensures.appends;
      so_far = λ b h.
          let beta = g.met.AB.ExtensionBuilder.persists_ext _ _ (B.appends_later _ _ _ _ c.loop-i.invariant.appends) _ _ h in
          subst (λ (u : Tree g.row.AB-F.Denot). g.AB.ExtensionBuilder.represents_ext c.combined_step.new.builder c.in_ok-sum-2.sum u)
          (eval_turn r tree_of c.args.tuple.now c.loop-i.i (c.loop-i.i - 1) c.index-tuple-i.result b next within c.index-tuple-i.is)
          (c.in_ok-sum-2.ensures.represents _ _ beta (c.loop-i.invariant.so_far b h));
    }
