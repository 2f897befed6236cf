use Rattle.std.proofs.Common.{subst}
use Rattle.commit_core.specs.Commitments.{IsCommitment}
use Rattle.prover_commits.proofs.Cosets.{commits_on}
use Rattle.prover_commits.proofs.commitment.commit_matrices.Goals as goal

pub returns-in-Ok-clause-committed : goal.returns-in-Ok-clause-committed
returns-in-Ok-clause-committed g c =
    let pcs = g.SC.StarkGenericConfig.pcs_of c.args.config.now in
    commits_on g.SC.Val.RingCore.ring g.SC.Val.TwoAdicCore.root g.bound-40.points g.bound-40.point_at (g.SC-Pcs-Pcs.commits pcs) (g.SC-Pcs-Pcs.made pcs) (g.SC-Pcs-Pcs.holds pcs)
    g.met.SC.Pcs.CosetPcs.coset_points g.met.SC.Pcs.CosetPcs.coset_point c.args.evaluations.items c.in-Ok.committed
    (subst (λ s. IsCommitment g.SC.Val.RingCore.ring g.bound-40.points g.bound-40.point_at (g.SC-Pcs-Pcs.commits s) (g.SC-Pcs-Pcs.made s) (g.SC-Pcs-Pcs.holds s) c.args.evaluations.items c.in-Ok.committed) c.pcs.ensures c.in-Ok.ensures.committed)
