use Rattle.std.proofs.Common.{◌∙◌, ap, map, subst}
use Rattle.commit_core.specs.Failure.{NoneOf}
use Rattle.commit_core.specs.Commitments.{IsCommitment}
use Rattle.example_commit.proofs.Refusals.{handed_on}
use Rattle.example_commit.proofs.rounds.committed_round.Goals as goal

pub returns-clause-prover_rounds : goal.returns-clause-prover_rounds
returns-clause-prover_rounds g c =
    let T = g.P.Pcs in
    let S = g.P.Domain.PolynomialSpace in
    let w : g.row.P-Commitment.Denot × g.row.P-ProverData.Denot = (c.in_ok-commitment.commitment, c.in_ok-commitment.prover_data) in
    let whole = ap (λ q. q.evaluations) c.round.view_is in
    record {
      committed = subst (λ l. IsCommitment g.P.Val.RingCore.ring S.points S.point_at (T.commits c.args.pcs.now) (T.made c.args.pcs.now) (T.holds c.args.pcs.now) l w) whole c.in_ok-commitment.ensures.committed;
      domains_are = c.in_ok-domains.ensures ∙ (ap (map (λ e. e.0)) c.deref.ensures.value ∙ ap (map (λ e. e.0)) whole);
      points_are = ap (λ q. q.points) c.round.view_is;
    }

pub returns-clause-refusal : goal.returns-clause-refusal
returns-clause-refusal g c = subst (λ l. NoneOf (g.P.Pcs.commit_fault c.args.pcs.now l)) (ap (λ q. q.evaluations) c.round.view_is) c.in_ok-commitment.ensures.refusal

pub returns-in_err-commitment-clause-refusal : goal.returns-in_err-commitment-clause-refusal
returns-in_err-commitment-clause-refusal g c =
    handed_on (g.row.P-Commitment.Denot × g.row.P-ProverData.Denot) _ _ (λ e h. subst (λ l. g.P.Pcs.commit_fault c.args.pcs.now l e) (ap (λ q. q.evaluations) c.round.view_is) h)
    c.from_residual-in_err-commitment.result c.in_err-commitment.field-0.0 c.from_residual-in_err-commitment.ensures.1 c.in_err-commitment.ensures.refusal
