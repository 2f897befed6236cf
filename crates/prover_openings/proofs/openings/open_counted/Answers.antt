use Rattle.std.proofs.Common.{refl, ◌∙◌}
use Rattle.commit_core.specs.Commitments.{nested}
use Rattle.p3_field.specs.Laws.TwoAdic.{decide_by}
use Rattle.prover_answer.specs.Laws.Verdicts.{exits}
use Rattle.prover_openings.proofs.Given.{asked_same, columns_of, counts_long, listed, taken_same, there_same}
use Rattle.prover_openings.proofs.Unchanged.{kept_by_exit}
use Rattle.prover_openings.proofs.Whole.{granted_of_batch, left_of_batch, opened_of_batch, proves_of_batch, refusal_of_batch, taken_of_batch}
use Rattle.prover_openings.proofs.openings.open_counted.Goals as goal

pub all_requests-requires-clause-chunks : goal.all_requests-requires-clause-chunks
all_requests-requires-clause-chunks g c =
    counts_long g.A.BaseAir.declaration g.A.Air.trees c.args.instances.now _ c.args.chunk_counts.now c.requires.chunks

pub all_requests-requires-clause-listed : goal.all_requests-requires-clause-listed
all_requests-requires-clause-listed g c = listed g.A.BaseAir.declaration g.A.Air.trees c.args.instances.now _ c.requires.traced.formed

pub returns-in_err-values-clause-verdict : goal.returns-in_err-values-clause-verdict
returns-in_err-values-clause-verdict g c =
    let a = c.args in
    exits _ _ _ c.from_residual-in_err-values.ensures.1
    (refusal_of_batch _ _ _ _ _ _ _ _ c.requires.ready c.requires.preprocessed (λ d. refl) (λ d i. refl)
    (record {
      below = g.met.SC.Val.RingCore.ring_laws;
      below_field = g.met.SC.Val.FieldCore.field_laws;
      below_decided = decide_by _ g.met.SC.Val.FieldCore.eq_same g.met.SC.Val.FieldCore.same_eq;
      roots = g.met.SC.Val.TwoAdicCore.root_laws;
      above = g.met.SC.Challenge.RingCore.ring_laws;
      above_field = g.met.SC.Challenge.FieldCore.field_laws;
      above_decided = decide_by _ g.met.SC.Challenge.FieldCore.eq_same g.met.SC.Challenge.FieldCore.same_eq;
      embeds = g.met.SC.Challenge.ExtensionField.embed_laws;
      vector = g.met.SC.Challenge.BasedVectorSpace.vector_laws;
      spans = g.met.SC.Challenge.ExtensionField.basis_laws;
    })
    (record { ones = g.met.SC.Val.PrimeCore64.of_canonical; below = g.met.SC.Val.PrimeCore64.canonical_below })
    c.requires.traced c.requires.plain (columns_of g.A.BaseAir.declaration g.A.Air.trees a.instances.now g.met.A.BaseAir.has_columns)
    c.in_ok-requests.requests.items _
    (asked_same _ _ g.A.BaseAir.declaration g.A.Air.trees a.instances.now a.common.now a.degree_bits.now a.chunk_counts.now c.requires.bits c.requires.chunks _ _ _ a.zeta _ c.in_ok-requests.requests.items c.requires.ready.point_is c.is_zk-masks.ensures c.in_ok-requests.ensures)
    c.in_err-values.ensures.verdict)

pub returns-in_err-values-clause-unchanged : goal.returns-in_err-values-clause-unchanged
returns-in_err-values-clause-unchanged g c = kept_by_exit _ _ _ _ c.from_residual-in_err-values.ensures.1 c.in_err-values.ensures.unchanged

pub returns-clause-verdict : goal.returns-clause-verdict
returns-clause-verdict g c =
    let a = c.args in
    granted_of_batch _ _ _ _ _ _ _ _ c.requires.ready c.requires.preprocessed (λ d. refl) (λ d i. refl)
    (record {
      below = g.met.SC.Val.RingCore.ring_laws;
      below_field = g.met.SC.Val.FieldCore.field_laws;
      below_decided = decide_by _ g.met.SC.Val.FieldCore.eq_same g.met.SC.Val.FieldCore.same_eq;
      roots = g.met.SC.Val.TwoAdicCore.root_laws;
      above = g.met.SC.Challenge.RingCore.ring_laws;
      above_field = g.met.SC.Challenge.FieldCore.field_laws;
      above_decided = decide_by _ g.met.SC.Challenge.FieldCore.eq_same g.met.SC.Challenge.FieldCore.same_eq;
      embeds = g.met.SC.Challenge.ExtensionField.embed_laws;
      vector = g.met.SC.Challenge.BasedVectorSpace.vector_laws;
      spans = g.met.SC.Challenge.ExtensionField.basis_laws;
    })
    (record { ones = g.met.SC.Val.PrimeCore64.of_canonical; below = g.met.SC.Val.PrimeCore64.canonical_below })
    c.requires.traced c.requires.plain (columns_of g.A.BaseAir.declaration g.A.Air.trees a.instances.now g.met.A.BaseAir.has_columns)
    c.in_ok-requests.requests.items
    (asked_same _ _ g.A.BaseAir.declaration g.A.Air.trees a.instances.now a.common.now a.degree_bits.now a.chunk_counts.now c.requires.bits c.requires.chunks _ _ _ a.zeta _ c.in_ok-requests.requests.items c.requires.ready.point_is c.is_zk-masks.ensures c.in_ok-requests.ensures)
    c.in_ok-values.ensures.verdict

pub returns-clause-proves : goal.returns-clause-proves
returns-clause-proves g c =
    let a = c.args in
    proves_of_batch _ _ _ _ _ _ _ _ c.requires.ready c.requires.preprocessed (λ d. refl) (λ d i. refl)
    (record {
      below = g.met.SC.Val.RingCore.ring_laws;
      below_field = g.met.SC.Val.FieldCore.field_laws;
      below_decided = decide_by _ g.met.SC.Val.FieldCore.eq_same g.met.SC.Val.FieldCore.same_eq;
      roots = g.met.SC.Val.TwoAdicCore.root_laws;
      above = g.met.SC.Challenge.RingCore.ring_laws;
      above_field = g.met.SC.Challenge.FieldCore.field_laws;
      above_decided = decide_by _ g.met.SC.Challenge.FieldCore.eq_same g.met.SC.Challenge.FieldCore.same_eq;
      embeds = g.met.SC.Challenge.ExtensionField.embed_laws;
      vector = g.met.SC.Challenge.BasedVectorSpace.vector_laws;
      spans = g.met.SC.Challenge.ExtensionField.basis_laws;
    })
    (record { ones = g.met.SC.Val.PrimeCore64.of_canonical; below = g.met.SC.Val.PrimeCore64.canonical_below })
    c.requires.traced c.requires.plain (columns_of g.A.BaseAir.declaration g.A.Air.trees a.instances.now g.met.A.BaseAir.has_columns)
    c.in_ok-requests.requests.items
    (asked_same _ _ g.A.BaseAir.declaration g.A.Air.trees a.instances.now a.common.now a.degree_bits.now a.chunk_counts.now c.requires.bits c.requires.chunks _ _ _ a.zeta _ c.in_ok-requests.requests.items c.requires.ready.point_is c.is_zk-masks.ensures c.in_ok-requests.ensures)
    c.in_ok-values.proof c.in_ok-values.ensures.proof

pub returns-clause-after : goal.returns-clause-after
returns-clause-after g c =
    let a = c.args in
    left_of_batch _ _ _ _ _ _ _ _ c.requires.ready c.requires.preprocessed (λ d. refl) (λ d i. refl)
    (record {
      below = g.met.SC.Val.RingCore.ring_laws;
      below_field = g.met.SC.Val.FieldCore.field_laws;
      below_decided = decide_by _ g.met.SC.Val.FieldCore.eq_same g.met.SC.Val.FieldCore.same_eq;
      roots = g.met.SC.Val.TwoAdicCore.root_laws;
      above = g.met.SC.Challenge.RingCore.ring_laws;
      above_field = g.met.SC.Challenge.FieldCore.field_laws;
      above_decided = decide_by _ g.met.SC.Challenge.FieldCore.eq_same g.met.SC.Challenge.FieldCore.same_eq;
      embeds = g.met.SC.Challenge.ExtensionField.embed_laws;
      vector = g.met.SC.Challenge.BasedVectorSpace.vector_laws;
      spans = g.met.SC.Challenge.ExtensionField.basis_laws;
    })
    (record { ones = g.met.SC.Val.PrimeCore64.of_canonical; below = g.met.SC.Val.PrimeCore64.canonical_below })
    c.requires.traced c.requires.plain (columns_of g.A.BaseAir.declaration g.A.Air.trees a.instances.now g.met.A.BaseAir.has_columns)
    c.in_ok-requests.requests.items
    (asked_same _ _ g.A.BaseAir.declaration g.A.Air.trees a.instances.now a.common.now a.degree_bits.now a.chunk_counts.now c.requires.bits c.requires.chunks _ _ _ a.zeta _ c.in_ok-requests.requests.items c.requires.ready.point_is c.is_zk-masks.ensures c.in_ok-requests.ensures)
    c.in_ok-values.proof (g.SC-Pcs-Pcs.after_open (g.SC.StarkGenericConfig.pcs_of a.config.now)) c.opened_requests.new.challenger c.in_ok-values.ensures.after

pub returns-clause-taken : goal.returns-clause-taken
returns-clause-taken g c =
    let a = c.args in
    taken_of_batch _ _ _ _ _ _ _ _ c.requires.ready c.requires.preprocessed (λ d. refl) (λ d i. refl)
    (record {
      below = g.met.SC.Val.RingCore.ring_laws;
      below_field = g.met.SC.Val.FieldCore.field_laws;
      below_decided = decide_by _ g.met.SC.Val.FieldCore.eq_same g.met.SC.Val.FieldCore.same_eq;
      roots = g.met.SC.Val.TwoAdicCore.root_laws;
      above = g.met.SC.Challenge.RingCore.ring_laws;
      above_field = g.met.SC.Challenge.FieldCore.field_laws;
      above_decided = decide_by _ g.met.SC.Challenge.FieldCore.eq_same g.met.SC.Challenge.FieldCore.same_eq;
      embeds = g.met.SC.Challenge.ExtensionField.embed_laws;
      vector = g.met.SC.Challenge.BasedVectorSpace.vector_laws;
      spans = g.met.SC.Challenge.ExtensionField.basis_laws;
    })
    (record { ones = g.met.SC.Val.PrimeCore64.of_canonical; below = g.met.SC.Val.PrimeCore64.canonical_below })
    c.requires.traced c.requires.plain (columns_of g.A.BaseAir.declaration g.A.Air.trees a.instances.now g.met.A.BaseAir.has_columns)
    c.in_ok-requests.requests.items
    (asked_same _ _ g.A.BaseAir.declaration g.A.Air.trees a.instances.now a.common.now a.degree_bits.now a.chunk_counts.now c.requires.bits c.requires.chunks _ _ _ a.zeta _ c.in_ok-requests.requests.items c.requires.ready.point_is c.is_zk-masks.ensures c.in_ok-requests.ensures)
    c.in_ok-values.proof _ g.met.SC.Pcs.CosetPcs.coset_points (nested c.in_ok-values.values) (g.SC-Pcs-Pcs.opens (g.SC.StarkGenericConfig.pcs_of a.config.now)) c.in_ok-values.ensures.opening

pub returns-clause-opened : goal.returns-clause-opened
returns-clause-opened g c =
    let a = c.args in
    opened_of_batch _ _ _ _ _ _ _ _ c.requires.ready c.requires.preprocessed (λ d. refl) (λ d i. refl)
    (record {
      below = g.met.SC.Val.RingCore.ring_laws;
      below_field = g.met.SC.Val.FieldCore.field_laws;
      below_decided = decide_by _ g.met.SC.Val.FieldCore.eq_same g.met.SC.Val.FieldCore.same_eq;
      roots = g.met.SC.Val.TwoAdicCore.root_laws;
      above = g.met.SC.Challenge.RingCore.ring_laws;
      above_field = g.met.SC.Challenge.FieldCore.field_laws;
      above_decided = decide_by _ g.met.SC.Challenge.FieldCore.eq_same g.met.SC.Challenge.FieldCore.same_eq;
      embeds = g.met.SC.Challenge.ExtensionField.embed_laws;
      vector = g.met.SC.Challenge.BasedVectorSpace.vector_laws;
      spans = g.met.SC.Challenge.ExtensionField.basis_laws;
    })
    (record { ones = g.met.SC.Val.PrimeCore64.of_canonical; below = g.met.SC.Val.PrimeCore64.canonical_below })
    c.requires.traced c.requires.plain (columns_of g.A.BaseAir.declaration g.A.Air.trees a.instances.now g.met.A.BaseAir.has_columns)
    c.in_ok-requests.requests.items
    (asked_same _ _ g.A.BaseAir.declaration g.A.Air.trees a.instances.now a.common.now a.degree_bits.now a.chunk_counts.now c.requires.bits c.requires.chunks _ _ _ a.zeta _ c.in_ok-requests.requests.items c.requires.ready.point_is c.is_zk-masks.ensures c.in_ok-requests.ensures)
    c.in_ok-values.proof _ g.met.SC.Pcs.CosetPcs.coset_points (nested c.in_ok-values.values) (g.SC-Pcs-Pcs.opens (g.SC.StarkGenericConfig.pcs_of a.config.now)) c.in_ok-values.ensures.opening
    _ (c.is_some.ensures ∙ there_same _ a.preprocessed) c.in_ok-tables.tables.items
    (taken_same _ _ _ _ a.chunk_counts.now c.requires.chunks c.in_ok-tables.tables.items _ c.in_ok-tables.ensures)
