use Rattle.std.proofs.Common.{◌≡◌, List, All, subst, sym, ◌∙◌, ap, ◌^◌}
use Rattle.p3_field.specs.Domain.{point}
use Rattle.p3_matrix.specs.Matrix.{Rows}
use Rattle.commit_core.specs.Periodic.{EachFrom}
use Rattle.commit_core.specs.Commitments.{AreExtensions, IsCommitment}
use Rattle.plain_pcs.specs.Scheme.{scheme, PlainCommitmentData}
use Rattle.plain_pcs.specs.Extension.{Extends, commitment_of}
use Rattle.plain_pcs.specs.Holding.{IsMade, AreHolding}
use Rattle.plain_pcs.specs.Cosets.{IsOnCoset}
use Rattle.plain_pcs.specs.Refusals.{HasSubgroupHeight}
use Rattle.plain_pcs.proofs.Commitments.{if_out_of_memory, no_height_fault, cosets_made, commitment_extended}
use Rattle.plain_pcs.proofs.committing.commit_extensions.Goals as goal

pub with_cosets-requires : goal.with_cosets-requires
with_cosets-requires g c =
    subst (λ (xs : List (Rows g.row.F.Denot)). All (HasSubgroupHeight g.F.TwoAdicCore.TWO_ADICITY) xs) c.deref.ensures.value c.in_default.ensures

pub returns-clause-commitment : goal.returns-clause-commitment
returns-clause-commitment g c =
    let made : List (Rows g.row.F.Denot) → PlainCommitmentData g.row.F.Denot = λ ms. record { matrices = ms } in
    c.in_ok-commitment.ensures ∙ ap made (c.in_ok-matrices.ensures ∙ c.deref-2.ensures.value)

pub returns-clause-made : goal.returns-clause-made
returns-clause-made g c =
    let top = g.F.TwoAdicCore.TWO_ADICITY in
    let all : All (HasSubgroupHeight top) c.args.ldes.items = subst (λ (xs : List (Rows g.row.F.Denot)). All (HasSubgroupHeight top) xs) c.deref.ensures.value c.in_default.ensures in
    cosets_made g.F.FieldCore.GENERATOR top c.args.ldes.items c.in_ok-evaluated.evaluated.items all c.in_ok-evaluated.ensures

pub returns-clause-committed : goal.returns-clause-committed
returns-clause-committed g c = λ chunks E.
    let s = scheme g.F.RingCore.ring g.F.FieldCore.inv g.F.TwoAdicCore.root g.F.FieldCore.GENERATOR g.F.TwoAdicCore.TWO_ADICITY (record { log_blowup = c.args.log_blowup }) in
    let G = g.F.FieldCore.GENERATOR in
    let kept = c.in_ok-evaluated.evaluated.items in
    let ls = c.in_ok-matrices.matrices.items in
    let same : c.args.ldes.items ≡ ls = sym (c.in_ok-matrices.ensures ∙ c.deref-2.ensures.value) in
    let made : IsMade kept = returns-clause-made g c in
    let on : EachFrom ls kept (λ m e. IsOnCoset G m e) = subst (λ (xs : List (Rows g.row.F.Denot)). EachFrom xs kept (λ m e. IsOnCoset G m e)) same c.in_ok-evaluated.ensures in
    let each : AreExtensions (Extends s) chunks ls = subst (λ (xs : List (Rows g.row.F.Denot)). AreExtensions (Extends s) chunks xs) same E in
    subst (λ (w : PlainCommitmentData g.row.F.Denot). IsCommitment s.field.ring (λ d. 2 ^ d.log_size) (λ d. point s.field.ring s.field.root d) (λ es k. k ≡ commitment_of s es) IsMade (AreHolding s) chunks (w, kept))
    (sym c.in_ok-commitment.ensures)
    (commitment_extended s g.met.F.RingCore.ring_laws g.met.F.FieldCore.field_laws g.met.F.TwoAdicCore.root_laws chunks kept ls each made on)

pub returns-clause-refusal : goal.returns-clause-refusal
returns-clause-refusal g c =
    let s = scheme g.F.RingCore.ring g.F.FieldCore.inv g.F.TwoAdicCore.root g.F.FieldCore.GENERATOR g.F.TwoAdicCore.TWO_ADICITY (record { log_blowup = c.args.log_blowup }) in
    no_height_fault s c.args.ldes.items (subst (λ (xs : List (Rows g.row.F.Denot)). All (HasSubgroupHeight s.most) xs) c.deref.ensures.value c.in_default.ensures)

pub returns-in_err-matrices-clause-searched : goal.returns-in_err-matrices-clause-searched
returns-in_err-matrices-clause-searched g c =
    let s = scheme g.F.RingCore.ring g.F.FieldCore.inv g.F.TwoAdicCore.root g.F.FieldCore.GENERATOR g.F.TwoAdicCore.TWO_ADICITY (record { log_blowup = c.args.log_blowup }) in
    if_out_of_memory c.from_residual.result _ (no_height_fault s c.args.ldes.items (subst (λ (xs : List (Rows g.row.F.Denot)). All (HasSubgroupHeight s.most) xs) c.deref.ensures.value c.in_default.ensures))

pub returns-in_err-commitment-clause-searched : goal.returns-in_err-commitment-clause-searched
returns-in_err-commitment-clause-searched g c =
    let s = scheme g.F.RingCore.ring g.F.FieldCore.inv g.F.TwoAdicCore.root g.F.FieldCore.GENERATOR g.F.TwoAdicCore.TWO_ADICITY (record { log_blowup = c.args.log_blowup }) in
    if_out_of_memory c.from_residual-in_err-commitment.result _ (no_height_fault s c.args.ldes.items (subst (λ (xs : List (Rows g.row.F.Denot)). All (HasSubgroupHeight s.most) xs) c.deref.ensures.value c.in_default.ensures))

pub returns-in_err-evaluated-clause-searched : goal.returns-in_err-evaluated-clause-searched
returns-in_err-evaluated-clause-searched g c =
    let s = scheme g.F.RingCore.ring g.F.FieldCore.inv g.F.TwoAdicCore.root g.F.FieldCore.GENERATOR g.F.TwoAdicCore.TWO_ADICITY (record { log_blowup = c.args.log_blowup }) in
    if_out_of_memory c.from_residual-in_err-evaluated.result _ (no_height_fault s c.args.ldes.items (subst (λ (xs : List (Rows g.row.F.Denot)). All (HasSubgroupHeight s.most) xs) c.deref.ensures.value c.in_default.ensures))
