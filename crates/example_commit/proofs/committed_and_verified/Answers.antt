use Rattle.std.proofs.Common.{◌∙◌, inl, inr, List, [], ◌∷◌, ap, sym, subst, Vec, Global}
use Rattle.p3_matrix.specs.Matrix.{Rows}
use Rattle.commit_core.specs.Commitments.{IsCommitment}
use Rattle.commit_core.specs.Claims.{CommitmentClaim}
use Rattle.example_commit.specs.Single.{claim_of}
use Rattle.example_commit.proofs.Committing.{committed_one, values_of_committed, open_refused}
use Rattle.example_commit.proofs.Refusals.{handed_as_one}
use Rattle.example_commit.proofs.committed_and_verified.Goals as goal

pub opened-requires-clause-held : goal.opened-requires-clause-held
opened-requires-clause-held g c =
    let T = g.P.Pcs in
    let S = g.P.Domain.PolynomialSpace in
    let w : g.row.P-Commitment.Denot × g.row.P-ProverData.Denot = (c.in_ok-commitment.commitment, c.in_ok-commitment.prover_data) in
    let (m, (are, h)) = committed_one g.P.Val.RingCore.ring S.points S.point_at (T.commits c.args.pcs.now) (T.made c.args.pcs.now) (T.holds c.args.pcs.now) c.in_ok-one.field-0.items c.args.domain c.args.matrix w c.in_ok-one.ensures c.in_ok-commitment.ensures.committed in
    (c.in_ok-commitment.commitment, (m, h))

pub returns-then-branch-clause-values : goal.returns-then-branch-clause-values
returns-then-branch-clause-values g c =
    let T = g.P.Pcs in
    let S = g.P.Domain.PolynomialSpace in
    let w : g.row.P-Commitment.Denot × g.row.P-ProverData.Denot = (c.in_ok-commitment.commitment, c.in_ok-commitment.prover_data) in
    let r = g.P.Val.RingCore.ring in
    let (m, (are, h)) = committed_one r S.points S.point_at (T.commits c.args.pcs.now) (T.made c.args.pcs.now) (T.holds c.args.pcs.now) c.in_ok-one.field-0.items c.args.domain c.args.matrix w c.in_ok-one.ensures c.in_ok-commitment.ensures.committed in
    values_of_committed r g.E.RingCore.ring g.E.ExtensionField.embed (S.points c.args.domain) (S.point_at c.args.domain) c.args.matrix m c.args.point c.in_ok-values.values.items are
    (c.in_ok-values.ensures.values c.in_ok-commitment.commitment m h)

pub returns-else-branch-clause-accepted : goal.returns-else-branch-clause-accepted
returns-else-branch-clause-accepted g c free =
    let T = g.P.Pcs in
    let S = g.P.Domain.PolynomialSpace in
    let commitment = c.in_ok-commitment.commitment in
    let values = c.in_ok-values.values.items in
    let w : g.row.P-Commitment.Denot × g.row.P-ProverData.Denot = (commitment, c.in_ok-commitment.prover_data) in
    let (m, (are, h)) = committed_one g.P.Val.RingCore.ring S.points S.point_at (T.commits c.args.pcs.now) (T.made c.args.pcs.now) (T.holds c.args.pcs.now) c.in_ok-one.field-0.items c.args.domain c.args.matrix w c.in_ok-one.ensures c.in_ok-commitment.ensures.committed in
    let accepts = c.in_ok-values.ensures.accepted commitment m c.args.domain h free (sym are.size_is) in
    let copied = c.in_ok-claimed.ensures.items ∙ c.deref.ensures.value in
    let cloned = ap (λ k. claim_of k c.args.domain c.args.point c.in_ok-claimed.claimed.items) c.in_ok-verified_commitment.ensures in
    let same = c.in_ok-claim.ensures ∙ (cloned ∙ ap (claim_of commitment c.args.domain c.args.point) copied) in
    let Q : CommitmentClaim g.row.E.Denot g.row.P-Commitment.Denot g.row.P-Domain.Denot → Type 0 = λ k. T.opens c.args.pcs.now c.args.challenger (k ∷ []) c.in_ok-values.proof in
    sym c.if-branch.false ∙ c.in_ok-verified.ensures.1 (subst Q (sym same) accepts)

pub returns-in_err-values-clause-refused : goal.returns-in_err-values-clause-refused
returns-in_err-values-clause-refused g c =
    let T = g.P.Pcs in
    let S = g.P.Domain.PolynomialSpace in
    let w : g.row.P-Commitment.Denot × g.row.P-ProverData.Denot = (c.in_ok-commitment.commitment, c.in_ok-commitment.prover_data) in
    let Is : List (g.row.P-Domain.Denot × Rows g.row.P-Val.Denot) → Type 0 =
    λ l. IsCommitment g.P.Val.RingCore.ring S.points S.point_at (T.commits c.args.pcs.now) (T.made c.args.pcs.now) (T.holds c.args.pcs.now) l w in
    open_refused (Vec g.row.E.Denot Global × g.row.P-Proof.Denot) (T.open_fault c.args.pcs.now (record { prover_data = c.in_ok-commitment.prover_data; points = (c.args.point ∷ []) ∷ [] } ∷ [])) _ (λ e h. inr (w, subst Is c.in_ok-one.ensures c.in_ok-commitment.ensures.committed, h))
    c.from_residual-in_err-values.result c.in_err-values.field-0.0 c.from_residual-in_err-values.ensures.1 c.in_err-values.ensures.refused

pub returns-in_err-commitment-clause-refused : goal.returns-in_err-commitment-clause-refused
returns-in_err-commitment-clause-refused g c =
    handed_as_one (g.row.P-Commitment.Denot × g.row.P-ProverData.Denot) (g.P.Pcs.commit_fault c.args.pcs.now c.in_ok-one.field-0.items) _ (λ e h. inl (subst (λ l. g.P.Pcs.commit_fault c.args.pcs.now l e) c.in_ok-one.ensures h))
    c.from_residual-in_err-commitment.result c.in_err-commitment.field-0.0 c.from_residual-in_err-commitment.ensures.1 c.in_err-commitment.ensures.refusal

pub returns-then-branch-clause-committed : goal.returns-then-branch-clause-committed
returns-then-branch-clause-committed g c = subst (λ l. g.P.Pcs.commits c.args.pcs.now l c.in_ok-commitment.commitment) c.in_ok-one.ensures c.in_ok-commitment.ensures.committed.commitment_is
