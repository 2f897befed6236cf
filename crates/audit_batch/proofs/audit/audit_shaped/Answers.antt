use Rattle.std.proofs.Common.{◌∙◌, ap, is_some, sym}
use Rattle.batch_config.specs.Setting.{Setting, Backend}
use Rattle.batch_transcript.specs.BatchScript.{BatchShapeData}
use Rattle.audit_batch.specs.Audit.{HasWitness}
use Rattle.audit_batch.proofs.Played.{missing_if_none, text_missing, texts_played, there_if_some, there_if_unasked}
use Rattle.audit_batch.proofs.audit.audit_shaped.Goals.{then-shape-eq0-via-then-shape-eq0, then-shape-eq0-via-else-shape-eq0+then-is_some}
use Rattle.audit_batch.proofs.audit.audit_shaped.Given.{Over}
use Rattle.audit_batch.proofs.audit.audit_shaped.Goals as goal

-- the configuration's parts, and its backend
abbrev setting_is : (g : Over) → g.row.SC.Denot → Setting g.row.SC-Challenger.Denot g.row.SC-Val.Denot g.row.SC-Challenge.Denot g.row.SC-Pcs-Commitment.Denot
setting_is g config = record {
  field = record { ring = g.SC.Val.RingCore.ring; inv = g.SC.Val.FieldCore.inv; root = g.SC.Val.TwoAdicCore.root; generator = g.SC.Val.FieldCore.GENERATOR };
  two_adicity = g.SC.Val.TwoAdicCore.TWO_ADICITY;
  order = g.SC.Val.PrimeCore64.ORDER_U64;
  extension = record {
    ring = g.SC.Challenge.RingCore.ring;
    embed = g.SC.Challenge.ExtensionField.embed;
    dimension = g.SC.Challenge.BasedVectorSpace.DIMENSION;
    basis = g.SC.Challenge.ExtensionField.basis;
    coefficients = g.SC.Challenge.BasedVectorSpace.coefficients;
    from_coefficients = g.SC.Challenge.BasedVectorSpace.from_coefficients;
  };
  challenger = record {
    observe = g.SC.Challenger.CanObserve-2.observed;
    observe_extension = g.SC.Challenger.CanObserve-1.observed;
    observe_opaque = g.SC.Challenger.CanObserve-3.observed;
    draw = g.SC.Challenger.CanSample-1.drawn;
    after_draw = g.SC.Challenger.CanSample-1.after_draw;
    draw_bits = g.SC.Challenger.CanSampleBits.bits_drawn;
    after_bits = g.SC.Challenger.CanSampleBits.after_bits;
  };
  initial = g.SC.StarkGenericConfig.initial_of config;
  zk = g.SC-Pcs-UnivariateStarkPcs.ZK;
  log_min = g.SC-Pcs-UnivariateStarkPcs.log_min (g.SC.StarkGenericConfig.pcs_of config);
  log_max = g.SC-Pcs-UnivariateStarkPcs.log_max (g.SC.StarkGenericConfig.pcs_of config);
  lookup_bits = g.SC.StarkGenericConfig.lookup_bits config;
  ood_bits = g.SC.StarkGenericConfig.ood_bits config;
  version = g.SC.StarkGenericConfig.version config;
}

abbrev backend_is : (g : Over) → g.row.SC.Denot
    → Backend g.row.SC-Challenger.Denot g.row.SC-Val.Denot g.row.SC-Challenge.Denot g.row.SC-Pcs-Commitment.Denot g.row.SC-Pcs-Proof.Denot g.row.SC-Pcs-Error.Denot
backend_is g config = record { opens = g.SC-Pcs-Pcs.opens (g.SC.StarkGenericConfig.pcs_of config); fault = g.SC-Pcs-Pcs.fault (g.SC.StarkGenericConfig.pcs_of config) }

pub returns-then-shape-eq0-clause-steps : goal.returns-then-shape-eq0-clause-steps
returns-then-shape-eq0-clause-steps g c =
    let n = c.shape.inside.num_lookup_instances in
    let value = c.args.proof.now.lookup_pow_witness in
    let tables = ap (λ (t : BatchShapeData). t.num_lookup_instances) c.shape.view_is ∙ ap (λ (t : BatchShapeData). t.num_lookup_instances) c.in_ok-shape.ensures in
    let there : HasWitness n value = elim c.then-shape-eq0.branch [
      | then-shape-eq0-via-then-shape-eq0 w ↦ there_if_unasked n value w.if-shape-eq0.true
      | then-shape-eq0-via-else-shape-eq0+then-is_some w ↦ there_if_some n value (sym (w.is_some.ensures ∙ ap (λ x. is_some x.lookup_pow_witness) c.proof.view_is) ∙ w.if-is_some.true)
    ] in
    texts_played (setting_is g c.args.config.now) (backend_is g c.args.config.now) _ _ _ n c.audit_played.result (λ a. a.steps.items) c.requires.shape tables there c.audit_played.ensures.steps

pub returns-clause-steps : goal.returns-clause-steps
returns-clause-steps g c =
    let n = c.shape.inside.num_lookup_instances in
    let value = c.args.proof.now.lookup_pow_witness in
    let tables = ap (λ (t : BatchShapeData). t.num_lookup_instances) c.shape.view_is ∙ ap (λ (t : BatchShapeData). t.num_lookup_instances) c.in_ok-shape.ensures in
    text_missing (setting_is g c.args.config.now) (backend_is g c.args.config.now) _ _ _ n c.new.result.items tables (missing_if_none n value c.if-shape-eq0.false (sym (c.is_some.ensures ∙ ap (λ x. is_some x.lookup_pow_witness) c.proof.view_is) ∙ c.if-is_some.false)) c.new.ensures.items
