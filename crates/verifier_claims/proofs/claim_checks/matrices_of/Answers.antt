use Rattle.std.proofs.Common.{arith}
use Rattle.p3_field.specs.Laws.Checks.{none_in_turn, none_of_none, none_until, refused_in_turn}
use Rattle.verifier_shape.specs.Laws.Verdicts.{exits_decided}
use Rattle.verifier_claims.proofs.claim_checks.matrices_of.Goals as goal

pub loop-matrix-init : goal.loop-matrix-init
loop-matrix-init g c = none_of_none _

pub returns-in_err-matrix_at_index : goal.returns-in_err-matrix_at_index
returns-in_err-matrix_at_index g c =
    exits_decided _ _ _ c.from_residual.ensures.1 (refused_in_turn _ c.loop-matrix.matrix _ _ (omega arith) c.loop-matrix.invariant c.in_err-matrix_at_index.ensures)

pub loop-matrix-preserved : goal.loop-matrix-preserved
loop-matrix-preserved g c = none_in_turn _ c.loop-matrix.matrix c.loop-matrix.invariant c.in_ok-matrix_at_index.ensures

pub returns : goal.returns
returns g c = none_until _ c.loop-matrix.matrix _ (omega arith) c.loop-matrix.invariant
