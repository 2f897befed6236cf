use Rattle.std.proofs.Common.{◌^◌, cond, ◌∙◌, ap, subst}
use Rattle.std.specs.Prelude.{IfOk}
use Rattle.commit_core.specs.Commitments.{IsCommitment}
use Rattle.p3_field.specs.Domain.{CosetData, point}
use Rattle.batch_setup.specs.declared.error.ProverPhase.TheVariants.{TraceCommitment}
use Rattle.prover_answer.specs.Verdict.{IsProverVerdict}
use Rattle.law_honest.specs.HonestProof.{Prover}
use Rattle.prover_commits.specs.Commitment.{commit_part}
use Rattle.prover_commits.specs.Laws.Instances.{fit, matrices_are, powers}
use Rattle.prover_commits.proofs.traces.commit_traces.Goals as goal

pub traces_on_rows-requires-clause-powers : goal.traces_on_rows-requires-clause-powers
traces_on_rows-requires-clause-powers g c =
    let p : Prover g.row.SC-Val.Denot g.row.SC-Challenge.Denot g.row.SC-Pcs-Commitment.Denot = record { inverse = g.SC.Challenge.FieldCore.inv; canonical = g.SC.Val.PrimeCore64.canonical; commitment_of = g.SC-Pcs-UnivariateStarkPcs.commitment_of (g.SC.StarkGenericConfig.pcs_of c.args.config.now) } in
    powers _ p g.A.BaseAir.declaration g.A.Air.trees c.args.instances.now c.args.common.now c.requires.traced

pub traces_on_rows-requires-clause-fit : goal.traces_on_rows-requires-clause-fit
traces_on_rows-requires-clause-fit g c =
    let p : Prover g.row.SC-Val.Denot g.row.SC-Challenge.Denot g.row.SC-Pcs-Commitment.Denot = record { inverse = g.SC.Challenge.FieldCore.inv; canonical = g.SC.Val.PrimeCore64.canonical; commitment_of = g.SC-Pcs-UnivariateStarkPcs.commitment_of (g.SC.StarkGenericConfig.pcs_of c.args.config.now) } in
    fit _ p g.A.BaseAir.declaration g.A.Air.trees c.args.instances.now c.args.common.now c.requires.traced

pub returns-clause-verdict : goal.returns-clause-verdict
returns-clause-verdict g c =
    let p : Prover g.row.SC-Val.Denot g.row.SC-Challenge.Denot g.row.SC-Pcs-Commitment.Denot = record { inverse = g.SC.Challenge.FieldCore.inv; canonical = g.SC.Val.PrimeCore64.canonical; commitment_of = g.SC-Pcs-UnivariateStarkPcs.commitment_of (g.SC.StarkGenericConfig.pcs_of c.args.config.now) } in
    let same = matrices_are _ p g.A.BaseAir.declaration g.A.Air.trees c.args.instances.now c.args.common.now c.requires.traced (ap (λ b. cond b 1 0) c.requires.plain) in
    subst (λ ms. IsProverVerdict (commit_part TraceCommitment (g.SC-Pcs-Pcs.commit_fault (g.SC.StarkGenericConfig.pcs_of c.args.config.now)) ms) c.commit_matrices.result) (c.in_ok-traces.ensures ∙ same) c.commit_matrices.ensures.verdict

pub returns-clause-committed : goal.returns-clause-committed
returns-clause-committed g c =
    let p : Prover g.row.SC-Val.Denot g.row.SC-Challenge.Denot g.row.SC-Pcs-Commitment.Denot = record { inverse = g.SC.Challenge.FieldCore.inv; canonical = g.SC.Val.PrimeCore64.canonical; commitment_of = g.SC-Pcs-UnivariateStarkPcs.commitment_of (g.SC.StarkGenericConfig.pcs_of c.args.config.now) } in
    let same = matrices_are _ p g.A.BaseAir.declaration g.A.Air.trees c.args.instances.now c.args.common.now c.requires.traced (ap (λ b. cond b 1 0) c.requires.plain) in
    let pcs = g.SC.StarkGenericConfig.pcs_of c.args.config.now in
    subst (λ ms. IfOk c.commit_matrices.result (λ w. IsCommitment g.SC.Val.RingCore.ring (λ (d : CosetData g.row.SC-Val.Denot). 2 ^ d.log_size) (point g.SC.Val.RingCore.ring g.SC.Val.TwoAdicCore.root) (g.SC-Pcs-Pcs.commits pcs) (g.SC-Pcs-Pcs.made pcs) (g.SC-Pcs-Pcs.holds pcs) ms w)) (c.in_ok-traces.ensures ∙ same) c.commit_matrices.ensures.committed
