use Rattle.std.proofs.Common.{sym, ◌∙◌, arith}
use Rattle.plain_pcs.specs.Refusals.{HasSubgroupHeight}
use Rattle.plain_pcs.proofs.Lists.{one_earlier, first_without, all_earlier}
use Rattle.plain_pcs.proofs.committing.first_other_height.Goals as goal

pub returns-then-not-has_subgroup_height : goal.returns-then-not-has_subgroup_height
returns-then-not-has_subgroup_height g c =
    first_without (HasSubgroupHeight g.F.TwoAdicCore.TWO_ADICITY) c.args.ldes.now c.loop-matrix.matrix c.index-ldes-matrix.result (omega arith) c.index-ldes-matrix.is c.loop-matrix.invariant
    (λ p. let e = sym c.if-not-has_subgroup_height.true ∙ c.has_subgroup_height.ensures.1 p in cc)

pub loop-matrix-preserved : goal.loop-matrix-preserved
loop-matrix-preserved g c =
    one_earlier (HasSubgroupHeight g.F.TwoAdicCore.TWO_ADICITY) c.args.ldes.now c.loop-matrix.matrix c.index-ldes-matrix.result (omega arith) c.index-ldes-matrix.is c.loop-matrix.invariant
    (c.has_subgroup_height.ensures.0 c.if-not-has_subgroup_height.false)

pub returns : goal.returns
returns g c = all_earlier (HasSubgroupHeight g.F.TwoAdicCore.TWO_ADICITY) c.args.ldes.now c.loop-matrix.matrix (omega arith) c.loop-matrix.invariant
