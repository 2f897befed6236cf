use Rattle.std.proofs.Common.{Vec, Global}
use Rattle.example_commit.specs.Rounds.{CommittedRoundData, IsCommittedRound}
use Rattle.example_commit.proofs.Refusals.{each_pushed, none_pushed, refused_earlier, refused_last, handed_on}
use Rattle.example_commit.proofs.preprocessed.committed_with_preprocessing.Goals as goal

pub returns-clause-prover_rounds : goal.returns-clause-prover_rounds
returns-clause-prover_rounds g c =
    let T = g.P.Pcs in
    let S = g.P.Domain.PolynomialSpace in
    each_pushed (λ q k. IsCommittedRound g.P.Val.RingCore.ring S.points S.point_at (T.commits c.args.pcs.now) (T.made c.args.pcs.now) (T.holds c.args.pcs.now) q k) c.args.rounds.items c.args.preprocessed c.in_ok-prover_rounds.prover_rounds.items c.push.new.self.items _
    c.in_ok-prover_rounds.ensures.prover_rounds c.in_ok-committed_preprocessing.ensures.prover_rounds c.in_ok-push.ensures.items

pub returns-clause-refusal : goal.returns-clause-refusal
returns-clause-refusal g c = none_pushed (λ q. g.P.Pcs.commit_fault c.args.pcs.now q.evaluations) c.args.rounds.items c.args.preprocessed c.in_ok-prover_rounds.ensures.refusal c.in_ok-committed_preprocessing.ensures.refusal

pub returns-in_err-prover_rounds-clause-refusal : goal.returns-in_err-prover_rounds-clause-refusal
returns-in_err-prover_rounds-clause-refusal g c =
    handed_on (Vec (CommittedRoundData g.row.P-Domain.Denot g.row.E.Denot g.row.P-Commitment.Denot g.row.P-ProverData.Denot) Global) _ _
    (λ e h. refused_earlier (λ q. g.P.Pcs.commit_fault c.args.pcs.now q.evaluations) c.args.rounds.items c.args.preprocessed e h)
    c.from_residual.result c.in_err-prover_rounds.field-0.0 c.from_residual.ensures.1 c.in_err-prover_rounds.ensures.refusal

pub returns-in_err-committed_preprocessing-clause-refusal : goal.returns-in_err-committed_preprocessing-clause-refusal
returns-in_err-committed_preprocessing-clause-refusal g c =
    handed_on (CommittedRoundData g.row.P-Domain.Denot g.row.E.Denot g.row.P-Commitment.Denot g.row.P-ProverData.Denot) _ _
    (λ e h. refused_last (λ q. g.P.Pcs.commit_fault c.args.pcs.now q.evaluations) c.args.rounds.items c.args.preprocessed e c.in_ok-prover_rounds.ensures.refusal h)
    c.from_residual-in_err-committed_preprocessing.result c.in_err-committed_preprocessing.field-0.0 c.from_residual-in_err-committed_preprocessing.ensures.1 c.in_err-committed_preprocessing.ensures.refusal
