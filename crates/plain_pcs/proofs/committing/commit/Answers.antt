use Rattle.std.proofs.Common.{List, All, subst}
use Rattle.p3_field.specs.Domain.{CosetData}
use Rattle.p3_field.specs.Checks.{IsFirstWithout}
use Rattle.p3_matrix.specs.Matrix.{Rows}
use Rattle.plain_pcs.specs.Scheme.{scheme}
use Rattle.plain_pcs.specs.Extension.{IsCommittable}
use Rattle.plain_pcs.proofs.Commitments.{if_out_of_memory, no_commit_fault, extended_refusal, if_ok_of}
use Rattle.plain_pcs.proofs.committing.commit.Goals as goal

pub extensions_from-requires : goal.extensions_from-requires
extensions_from-requires g c =
    let s = scheme g.F.RingCore.ring g.F.FieldCore.inv g.F.TwoAdicCore.root g.F.FieldCore.GENERATOR g.F.TwoAdicCore.TWO_ADICITY (record { log_blowup = c.args.log_blowup }) in
    subst (λ (xs : List (CosetData g.row.F.Denot × Rows g.row.F.Denot)). All (λ e. IsCommittable s e.0 e.1) xs) c.deref.ensures.value c.in_default.ensures

pub returns-in-Some-clause-refusal : goal.returns-in-Some-clause-refusal
returns-in-Some-clause-refusal g c =
    let s = scheme g.F.RingCore.ring g.F.FieldCore.inv g.F.TwoAdicCore.root g.F.FieldCore.GENERATOR g.F.TwoAdicCore.TWO_ADICITY (record { log_blowup = c.args.log_blowup }) in
    subst (λ (xs : List (CosetData g.row.F.Denot × Rows g.row.F.Denot)). IsFirstWithout (λ e. IsCommittable s e.0 e.1) xs c.in-Some.matrix) c.deref.ensures.value c.in-Some.ensures

pub returns-clause-refusal : goal.returns-clause-refusal
returns-clause-refusal g c =
    let s = scheme g.F.RingCore.ring g.F.FieldCore.inv g.F.TwoAdicCore.root g.F.FieldCore.GENERATOR g.F.TwoAdicCore.TWO_ADICITY (record { log_blowup = c.args.log_blowup }) in
    extended_refusal s g.met.F.RingCore.ring_laws g.met.F.FieldCore.field_laws g.met.F.TwoAdicCore.root_laws c.args.evaluations.items c.in_ok-ldes.ldes.items c.commit_extensions.result
    (subst (λ (xs : List (CosetData g.row.F.Denot × Rows g.row.F.Denot)). All (λ e. IsCommittable s e.0 e.1) xs) c.deref.ensures.value c.in_default.ensures) c.in_ok-ldes.ensures c.commit_extensions.ensures.refusal

pub returns-clause-searched : goal.returns-clause-searched
returns-clause-searched g c =
    let s = scheme g.F.RingCore.ring g.F.FieldCore.inv g.F.TwoAdicCore.root g.F.FieldCore.GENERATOR g.F.TwoAdicCore.TWO_ADICITY (record { log_blowup = c.args.log_blowup }) in
    if_out_of_memory c.commit_extensions.result _ (no_commit_fault s c.args.evaluations.items (subst (λ (xs : List (CosetData g.row.F.Denot × Rows g.row.F.Denot)). All (λ e. IsCommittable s e.0 e.1) xs) c.deref.ensures.value c.in_default.ensures))

pub returns-clause-committed : goal.returns-clause-committed
returns-clause-committed g c = if_ok_of c.commit_extensions.result _ _ c.commit_extensions.ensures.committed (λ w h. h c.args.evaluations.items c.in_ok-ldes.ensures)

pub returns-in_err-ldes-clause-searched : goal.returns-in_err-ldes-clause-searched
returns-in_err-ldes-clause-searched g c =
    let s = scheme g.F.RingCore.ring g.F.FieldCore.inv g.F.TwoAdicCore.root g.F.FieldCore.GENERATOR g.F.TwoAdicCore.TWO_ADICITY (record { log_blowup = c.args.log_blowup }) in
    if_out_of_memory c.from_residual.result _ (no_commit_fault s c.args.evaluations.items (subst (λ (xs : List (CosetData g.row.F.Denot × Rows g.row.F.Denot)). All (λ e. IsCommittable s e.0 e.1) xs) c.deref.ensures.value c.in_default.ensures))
