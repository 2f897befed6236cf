use Rattle.std.proofs.Common.{Ok, Err}
use Rattle.verifier_shape.specs.Laws.Verdicts.{exits}
use Rattle.verifier_batch.proofs.Whole.{opening_first, opening_last}
use Rattle.verifier_batch.proofs.openings.check_openings.Goals as goal

pub returns-in_err-claims-clause-verdict : goal.returns-in_err-claims-clause-verdict
returns-in_err-claims-clause-verdict g c =
    exits _ _ _ c.from_residual.ensures.1 (opening_first _ _ _ _ _ _ _ c.in_err-claims.ensures.verdict)

pub returns-in_err-opened_claims-clause-verdict : goal.returns-in_err-opened_claims-clause-verdict
returns-in_err-opened_claims-clause-verdict g c =
    exits _ _ _ c.from_residual-in_err-opened_claims.ensures.1
    (opening_last _ _ _ _ _ _ {T = Unit {0}} _ _ (Err c.in_err-opened_claims.field-0.0) c.in_ok-claims.ensures.verdict c.in_ok-claims.ensures.claims c.opening_of.ensures c.in_err-opened_claims.ensures)

pub returns-clause-verdict : goal.returns-clause-verdict
returns-clause-verdict g c =
    opening_last _ _ _ _ _ _ {T = Unit {0}} _ _ (Ok tt) c.in_ok-claims.ensures.verdict c.in_ok-claims.ensures.claims c.opening_of.ensures c.in_ok-opened_claims.ensures
