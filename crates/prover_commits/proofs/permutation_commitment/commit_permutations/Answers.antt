use Rattle.std.proofs.Common.{◌≡◌, ◌^◌, true, false, vec_len, length, sym, ◌∙◌, ap, arith}
use Rattle.commit_core.specs.Commitments.{IsCommitment}
use Rattle.p3_field.specs.Domain.{CosetData, point}
use Rattle.std.proofs.lemmas.Bool.{eqb-true, eq-eqb}
use Rattle.batch_setup.specs.declared.error.ProverPhase.TheVariants.{PermutationCommitment}
use Rattle.prover_answer.specs.Laws.Verdicts.{exits}
use Rattle.prover_commits.proofs.Drawn.{none_of_nothing, none_of_some, refused_of_some, some_kept}
use Rattle.prover_commits.proofs.permutation_commitment.commit_permutations.Goals as goal

pub returns-then-is_empty-clause-verdict : goal.returns-then-is_empty-clause-verdict
returns-then-is_empty-clause-verdict g c =
    let ms = c.args.columns in
    let none : vec_len ms ≡ 0 = eqb-true (vec_len ms) 0 (sym c.is_empty.ensures ∙ c.if-is_empty.true) in
    none_of_nothing PermutationCommitment (g.SC-Pcs-Pcs.commit_fault (g.SC.StarkGenericConfig.pcs_of c.args.config.now)) ms.items (omega (arith, none, ms.ok.0))

pub returns-in_err-committed-clause-verdict : goal.returns-in_err-committed-clause-verdict
returns-in_err-committed-clause-verdict g c =
    let ms = c.args.columns in
    exits _ _ _ c.from_residual.ensures.1
    (refused_of_some PermutationCommitment (g.SC-Pcs-Pcs.commit_fault (g.SC.StarkGenericConfig.pcs_of c.args.config.now)) ms.items _
    (λ e.
    let v : vec_len ms ≡ 0 = omega (arith, e, ms.ok.0) in
    let t : true ≡ false = sym (c.is_empty.ensures ∙ eq-eqb (vec_len ms) 0 v) ∙ c.if-is_empty.false in cc)
    c.in_err-committed.ensures.verdict)

pub returns-clause-verdict : goal.returns-clause-verdict
returns-clause-verdict g c =
    none_of_some PermutationCommitment (g.SC-Pcs-Pcs.commit_fault (g.SC.StarkGenericConfig.pcs_of c.args.config.now)) c.args.columns.items c.in_ok-committed.ensures.verdict

pub returns-clause-committed : goal.returns-clause-committed
returns-clause-committed g c =
    let ms = c.args.columns in
    let pcs = g.SC.StarkGenericConfig.pcs_of c.args.config.now in
    some_kept (IsCommitment g.SC.Val.RingCore.ring (λ (d : CosetData g.row.SC-Val.Denot). 2 ^ d.log_size) (point g.SC.Val.RingCore.ring g.SC.Val.TwoAdicCore.root) (g.SC-Pcs-Pcs.commits pcs) (g.SC-Pcs-Pcs.made pcs) (g.SC-Pcs-Pcs.holds pcs)) ms.items c.in_ok-committed.committed
    (λ e.
    let v : vec_len ms ≡ 0 = omega (arith, e, ms.ok.0) in
    let t : true ≡ false = sym (c.is_empty.ensures ∙ eq-eqb (vec_len ms) 0 v) ∙ c.if-is_empty.false in cc)
    c.in_ok-committed.ensures.committed

pub returns-in_err-committed-clause-none : goal.returns-in_err-committed-clause-none
returns-in_err-committed-clause-none g c = λ e.
    let ms = c.args.columns in
    let n : length ms.items ≡ 0 = ap length e in
    let v : vec_len ms ≡ 0 = omega (arith, n, ms.ok.0) in
    absurd (let t : true ≡ false = sym (c.is_empty.ensures ∙ eq-eqb (vec_len ms) 0 v) ∙ c.if-is_empty.false in cc)

pub returns-clause-none : goal.returns-clause-none
returns-clause-none g c = λ e.
    let ms = c.args.columns in
    let n : length ms.items ≡ 0 = ap length e in
    let v : vec_len ms ≡ 0 = omega (arith, n, ms.ok.0) in
    absurd (let t : true ≡ false = sym (c.is_empty.ensures ∙ eq-eqb (vec_len ms) 0 v) ∙ c.if-is_empty.false in cc)
