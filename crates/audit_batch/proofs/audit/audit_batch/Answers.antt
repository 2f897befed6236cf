use Rattle.std.proofs.Common.{vec_len, arith}
use Rattle.batch_config.specs.Setting.{Setting, Backend}
use Rattle.verifier_shape.specs.ShapeChecks.{bounds_with}
use Rattle.audit_batch.proofs.Played.{chunks_here, none_if_empty, right_here, some_if_not_empty, text_wrong, wrong_here}
use Rattle.audit_batch.proofs.audit.audit_batch.Given.{Over}
use Rattle.audit_batch.proofs.audit.audit_batch.Goals as goal

-- the configuration's parts, and its backend
abbrev setting_is : (g : Over) → g.row.SC.Denot → Setting g.row.SC-Challenger.Denot g.row.SC-Val.Denot g.row.SC-Challenge.Denot g.row.SC-Pcs-Commitment.Denot
setting_is g config = record {
  field = record { ring = g.SC.Val.RingCore.ring; inv = g.SC.Val.FieldCore.inv; root = g.SC.Val.TwoAdicCore.root; generator = g.SC.Val.FieldCore.GENERATOR };
  two_adicity = g.SC.Val.TwoAdicCore.TWO_ADICITY;
  order = g.SC.Val.PrimeCore64.ORDER_U64;
  extension = record {
    ring = g.SC.Challenge.RingCore.ring;
    embed = g.SC.Challenge.ExtensionField.embed;
    dimension = g.SC.Challenge.BasedVectorSpace.DIMENSION;
    basis = g.SC.Challenge.ExtensionField.basis;
    coefficients = g.SC.Challenge.BasedVectorSpace.coefficients;
    from_coefficients = g.SC.Challenge.BasedVectorSpace.from_coefficients;
  };
  challenger = record {
    observe = g.SC.Challenger.CanObserve-2.observed;
    observe_extension = g.SC.Challenger.CanObserve-1.observed;
    observe_opaque = g.SC.Challenger.CanObserve-3.observed;
    draw = g.SC.Challenger.CanSample-1.drawn;
    after_draw = g.SC.Challenger.CanSample-1.after_draw;
    draw_bits = g.SC.Challenger.CanSampleBits.bits_drawn;
    after_bits = g.SC.Challenger.CanSampleBits.after_bits;
  };
  initial = g.SC.StarkGenericConfig.initial_of config;
  zk = g.SC-Pcs-UnivariateStarkPcs.ZK;
  log_min = g.SC-Pcs-UnivariateStarkPcs.log_min (g.SC.StarkGenericConfig.pcs_of config);
  log_max = g.SC-Pcs-UnivariateStarkPcs.log_max (g.SC.StarkGenericConfig.pcs_of config);
  lookup_bits = g.SC.StarkGenericConfig.lookup_bits config;
  ood_bits = g.SC.StarkGenericConfig.ood_bits config;
  version = g.SC.StarkGenericConfig.version config;
}

abbrev backend_is : (g : Over) → g.row.SC.Denot
    → Backend g.row.SC-Challenger.Denot g.row.SC-Val.Denot g.row.SC-Challenge.Denot g.row.SC-Pcs-Commitment.Denot g.row.SC-Pcs-Proof.Denot g.row.SC-Pcs-Error.Denot
backend_is g config = record { opens = g.SC-Pcs-Pcs.opens (g.SC.StarkGenericConfig.pcs_of config); fault = g.SC-Pcs-Pcs.fault (g.SC.StarkGenericConfig.pcs_of config) }

pub audit_shaped-requires-clause-shape : goal.audit_shaped-requires-clause-shape
audit_shaped-requires-clause-shape g c =
    let found = c.shape_bounds-bounds in
    let xs = c.name_shape.new.faults in
    let none = none_if_empty xs.items (vec_len xs) c.is_empty.result (omega (arith, xs.ok.0)) c.is_empty.ensures c.if-is_empty.true in
    right_here _ _ (bounds_with g.SC.Val.PrimeCore64.ORDER_U64 found.result) _ _ _ found.ensures.bounds _ xs.items c.new-faults.ensures.items none c.in_ok-chunks.ensures.named

pub audit_shaped-requires-clause-chunks : goal.audit_shaped-requires-clause-chunks
audit_shaped-requires-clause-chunks g c =
    let found = c.shape_bounds-bounds in
    let xs = c.name_shape.new.faults in
    let none = none_if_empty xs.items (vec_len xs) c.is_empty.result (omega (arith, xs.ok.0)) c.is_empty.ensures c.if-is_empty.true in
    let right = right_here g.row.SC-Pcs-Error.Denot _ (bounds_with g.SC.Val.PrimeCore64.ORDER_U64 found.result) _ _ _ found.ensures.bounds _ xs.items c.new-faults.ensures.items none c.in_ok-chunks.ensures.named in
    chunks_here g.row.SC-Pcs-Error.Denot _ (bounds_with g.SC.Val.PrimeCore64.ORDER_U64 found.result) _ _ _ found.ensures.bounds _ found.result.masks _ _ c.deref.result.now found.ensures.masks
    c.deref.ensures.value right c.in_ok-chunks.ensures.chunks

pub returns-clause-steps : goal.returns-clause-steps
returns-clause-steps g c =
    let found = c.shape_bounds-bounds in
    let xs = c.name_shape.new.faults in
    let some = some_if_not_empty xs.items (vec_len xs) c.is_empty.result (omega (arith, xs.ok.0)) c.is_empty.ensures c.if-is_empty.false in
    text_wrong (setting_is g c.args.config.now) (backend_is g c.args.config.now) _ _ _ (bounds_with g.SC.Val.PrimeCore64.ORDER_U64 found.result) _ xs.items c.new.result.items found.ensures.bounds c.new-faults.ensures.items some c.in_ok-chunks.ensures.named
    c.new.ensures.items

pub returns-clause-faults : goal.returns-clause-faults
returns-clause-faults g c =
    let found = c.shape_bounds-bounds in
    let xs = c.name_shape.new.faults in
    let some = some_if_not_empty xs.items (vec_len xs) c.is_empty.result (omega (arith, xs.ok.0)) c.is_empty.ensures c.if-is_empty.false in
    wrong_here _ _ _ _ (bounds_with g.SC.Val.PrimeCore64.ORDER_U64 found.result) _ xs.items _ c.check_terminals.result found.ensures.bounds c.new-faults.ensures.items some
    c.in_ok-chunks.ensures.named c.check_terminals.ensures c.in_ok-name_answer.ensures.named
