use Rattle.std.proofs.Common.{◌∙◌, inl, inr, ap, sym}
use Rattle.example_commit.proofs.Refusals.{handed_on, none_of_two}
use Rattle.example_commit.proofs.agreeing.committed_both_ways.Goals as goal

pub returns-clause-refusal : goal.returns-clause-refusal
returns-clause-refusal g c = none_of_two _ _ c.in_ok-commitment.ensures.refusal c.in_ok-again.ensures.refusal

pub returns-in_err-commitment-clause-refusal : goal.returns-in_err-commitment-clause-refusal
returns-in_err-commitment-clause-refusal g c =
    handed_on (g.row.P-Commitment.Denot × g.row.P-ProverData.Denot) _ _ (λ e h. inl h)
    c.from_residual.result c.in_err-commitment.field-0.0 c.from_residual.ensures.1 c.in_err-commitment.ensures.refusal

pub returns-in_err-again-clause-refusal : goal.returns-in_err-again-clause-refusal
returns-in_err-again-clause-refusal g c =
    handed_on (g.row.P-Commitment.Denot × g.row.P-ProverData.Denot) _ _ (λ e h. inr (c.in_ok-commitment.ensures.refusal, h))
    c.from_residual-in_err-again.result c.in_err-again.field-0.0 c.from_residual-in_err-again.ensures.1 c.in_err-again.ensures.refusal

pub returns-clause-function : goal.returns-clause-function
returns-clause-function g c plain =
    let one = g.met.P.UnivariateStarkPcs.one_commitment c.args.pcs.now in
    (one c.args.first.items c.in_ok-commitment.commitment plain c.in_ok-commitment.ensures.committed.commitment_is, one c.args.second.items c.in_ok-again.again plain c.in_ok-again.ensures.committed.commitment_is)

pub returns-clause-alike : goal.returns-clause-alike
returns-clause-alike g c plain e =
    let (first, second) = returns-clause-function g c plain in
    first ∙ (ap (g.P.UnivariateStarkPcs.commitment_of c.args.pcs.now) e ∙ sym second)
