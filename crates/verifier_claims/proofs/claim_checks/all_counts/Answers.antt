use Rattle.std.proofs.Common.{arith}
use Rattle.p3_field.specs.Laws.Checks.{none_in_turn, none_of_none, none_until, refused_in_turn}
use Rattle.verifier_shape.specs.Laws.Verdicts.{exits_decided}
use Rattle.verifier_claims.proofs.claim_checks.all_counts.Goals as goal

pub loop-index-init : goal.loop-index-init
loop-index-init g c = none_of_none _

pub returns-in_err-count_at_index : goal.returns-in_err-count_at_index
returns-in_err-count_at_index g c =
    exits_decided _ _ _ c.from_residual.ensures.1 (refused_in_turn _ c.loop-index.index _ _ (omega arith) c.loop-index.invariant c.in_err-count_at_index.ensures)

pub loop-index-preserved : goal.loop-index-preserved
loop-index-preserved g c = none_in_turn _ c.loop-index.index c.loop-index.invariant c.in_ok-count_at_index.ensures

pub returns : goal.returns
returns g c = none_until _ c.loop-index.index _ (omega arith) c.loop-index.invariant
