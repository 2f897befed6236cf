use Rattle.std.proofs.Common.{subst}
use Rattle.p3_matrix.specs.Matrix.{Rows}
use Rattle.commit_core.specs.Commitments.{AreParts}
use Rattle.example_commit.proofs.Refusals.{handed_on}
use Rattle.example_commit.proofs.quotients.quotient_committed_twice.Goals as goal

pub returns-in-Ok-clause-at_once : goal.returns-in-Ok-clause-at_once
returns-in-Ok-clause-at_once g c =
    let n = c.args.num_chunks in
    let (parts, are, none, K) = c.in-Ok.ensures.granted in (
      parts,
      subst (λ (m : Rows g.row.P-Val.Denot). AreParts (g.P.Domain.PolynomialSpace.part c.args.domain n) m n parts) c.in_ok-copy.ensures are,
      K.commitment_is,
      λ plain. g.met.P.UnivariateStarkPcs.one_commitment c.args.pcs.now parts c.in-Ok.once plain K.commitment_is,
    )

pub returns-in-Ok-clause-by_steps : goal.returns-in-Ok-clause-by_steps
returns-in-Ok-clause-by_steps g c =
    let (parts, are, K) = c.in_ok-steps.ensures.committed in
    (parts, are, K.commitment_is, λ plain. g.met.P.UnivariateStarkPcs.one_commitment c.args.pcs.now parts c.in_ok-steps.steps plain K.commitment_is)

pub returns-in_err-steps-clause-refusal : goal.returns-in_err-steps-clause-refusal
returns-in_err-steps-clause-refusal g c =
    handed_on (g.row.P-Commitment.Denot × g.row.P-ProverData.Denot) (g.P.UnivariateStarkPcs.quotient_fault c.args.pcs.now c.args.domain c.args.evaluations c.args.num_chunks) _ (λ e h. h)
    c.from_residual-in_err-steps.result c.in_err-steps.field-0.0 c.from_residual-in_err-steps.ensures.1 c.in_err-steps.ensures.refusal
