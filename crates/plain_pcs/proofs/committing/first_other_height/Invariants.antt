use Rattle.plain_pcs.specs.Refusals.{HasSubgroupHeight}
use Rattle.plain_pcs.proofs.Lists.{Earlier}
use Rattle.plain_pcs.proofs.committing.first_other_height.Given as goal

abbrev pub invariant-loop-matrix : goal.invariant-loop-matrix
invariant-loop-matrix g l = Earlier (HasSubgroupHeight g.F.TwoAdicCore.TWO_ADICITY) l.ldes l.matrix
