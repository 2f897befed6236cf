use Rattle.std.proofs.Common.{arith}
use Rattle.p3_field.specs.Laws.Checks.{none_in_turn, none_of_none, none_until}
use Rattle.verifier_shape.specs.Laws.Verdicts.{exits, refusal_in_turn}
use Rattle.verifier_identity.proofs.whole.check_identities.Goals as goal

pub loop-index-init : goal.loop-index-init
loop-index-init g c = none_of_none _

pub returns-in_err-check_identity_at-clause-verdict : goal.returns-in_err-check_identity_at-clause-verdict
returns-in_err-check_identity_at-clause-verdict g c =
    exits _ _ _ c.from_residual.ensures.1 (refusal_in_turn _ c.loop-index.index _ _ (omega arith) c.loop-index.invariant c.in_err-check_identity_at.ensures)

pub returns-in_err-check_identity_at-clause-none : goal.returns-in_err-check_identity_at-clause-none
returns-in_err-check_identity_at-clause-none g c = λ none. absurd (omega (arith, none))

pub loop-index-preserved : goal.loop-index-preserved
loop-index-preserved g c = none_in_turn _ c.loop-index.index c.loop-index.invariant c.in_ok-check_identity_at.ensures

pub returns-clause-verdict : goal.returns-clause-verdict
returns-clause-verdict g c = none_until _ c.loop-index.index _ (omega arith) c.loop-index.invariant
