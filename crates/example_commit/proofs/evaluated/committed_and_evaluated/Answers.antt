use Rattle.example_commit.proofs.Evaluations.{evaluated}
use Rattle.example_commit.proofs.evaluated.committed_and_evaluated.Goals as goal

pub returns-clause-values : goal.returns-clause-values
returns-clause-values g c d m e =
    let T = g.P.Pcs in
    let S = g.P.Domain.PolynomialSpace in
    evaluated g.P.Val.RingCore.ring S.points S.point_at (T.commits c.args.pcs.now) (T.made c.args.pcs.now) (T.holds c.args.pcs.now) c.args.evaluations.items (c.in_ok-commitment.commitment, c.in_ok-commitment.prover_data) c.args.index d m c.in_ok-values.values
    (S.points c.args.domain) (S.point_at c.args.domain) c.in_ok-commitment.ensures.committed e c.in_ok-values.ensures
