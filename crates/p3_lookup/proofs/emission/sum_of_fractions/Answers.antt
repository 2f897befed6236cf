use Rattle.std.proofs.Common.{◌≡◌, [], ◌∙◌, subst}
use Rattle.air_core.specs.Tree.{Tree, constant}
use Rattle.p3_lookup.proofs.Turns.{sum_turn}
use Rattle.p3_lookup.proofs.emission.sum_of_fractions.Goals as goal

pub loop-i-init : goal.loop-i-init
loop-i-init g c =
    let r = g.AB.F.RingCore.ring in
    let is-zero : c.ZERO.result ≡ r.zero = c.ZERO.ensures ∙ g.met.AB.F.RingCore.zero_is in
    record {
      keeps_shape = c.constant_ext.ensures.keeps_shape;
      appends = c.constant_ext.ensures.appends;
      so_far = subst (λ (x : g.row.AB-F.Denot). g.AB.ExtensionBuilder.represents_ext c.constant_ext.new.builder c.in_ok-sum.sum (constant x)) is-zero c.in_ok-sum.ensures.represents;
    }

pub returns-in_err-sum-2-clause-appends : goal.returns-in_err-sum-2-clause-appends
returns-in_err-sum-2-clause-appends g c = g.met.AB.AirBuilder.appends_along _ _ _ [] [] [] [] c.loop-i.invariant.appends c.with_column.ensures.appends

pub loop-i-preserved : goal.loop-i-preserved
loop-i-preserved g c =
    record {
      keeps_shape = c.with_column.ensures.keeps_shape ∙ c.loop-i.invariant.keeps_shape;
      appends = g.met.AB.AirBuilder.appends_along _ _ _ [] [] [] [] c.loop-i.invariant.appends c.with_column.ensures.appends;
      so_far = subst (λ (t : Tree g.row.AB-F.Denot). g.AB.ExtensionBuilder.represents_ext c.with_column.new.builder c.in_ok-sum-2.sum t)
          (sum_turn g.AB.F.RingCore.ring c.loop-i.i) (c.in_ok-sum-2.ensures.represents _ c.loop-i.invariant.so_far);
    }
