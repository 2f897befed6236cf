use Rattle.std.proofs.Common.{[], map, length, sym, ◌∙◌, ap, subst}
use Rattle.p3_challenger.specs.Script.{ChallengerOf}
use Rattle.verifier_draws.specs.Draws.{script_shape}
use Rattle.batch_statement.specs.Statement.{statement_with, tables_of}
use Rattle.batch_transcript.specs.BatchScript.{bindings_script, main_script, preprocessed_script, seeded}
use Rattle.batch_transcript.specs.Running.{Plays}
use Rattle.prover_batch.specs.Laws.Binding.{bound_state, publics_counted}
use Rattle.prover_batch.proofs.transcript.bound_transcript.Goals as goal

pub main_phase-requires-clause-count : goal.main_phase-requires-clause-count
main_phase-requires-clause-count g c =
    let same = c.in_ok-shape.ensures
    ∙ (λ i. script_shape (c.transcript_version-version.ensures i) (c.ZK.ensures i) (c.lookup_proof_of_work_bits-lookup_bits.ensures.bits i) (c.ood_proof_of_work_bits-ood_bits.ensures.bits i)
    (statement_with (tables_of g.A.BaseAir.declaration g.A.Air.trees ((c.deref.ensures.value ∙ c.in_ok-airs.ensures) i)) [] c.args.common.now)) in
    ap (map length) (ap (map (λ v. v.items)) c.deref-2.ensures.value ∙ c.in_ok-values.ensures)
    ∙ publics_counted _ _ _ _ _ c.requires.traced
    ∙ sym (ap (λ z. z.public_value_counts) (c.instance_bindings.ensures.plays.shape ∙ ap (λ t. t.shape) c.in_ok-transcript.ensures ∙ same))

pub returns-clause-shape : goal.returns-clause-shape
returns-clause-shape g c =
    let same = c.in_ok-shape.ensures
    ∙ (λ i. script_shape (c.transcript_version-version.ensures i) (c.ZK.ensures i) (c.lookup_proof_of_work_bits-lookup_bits.ensures.bits i) (c.ood_proof_of_work_bits-ood_bits.ensures.bits i)
    (statement_with (tables_of g.A.BaseAir.declaration g.A.Air.trees ((c.deref.ensures.value ∙ c.in_ok-airs.ensures) i)) [] c.args.common.now)) in
    c.preprocessed_phase.ensures.plays.shape ∙ c.main_phase.ensures.plays.shape ∙ c.instance_bindings.ensures.plays.shape ∙ ap (λ t. t.shape) c.in_ok-transcript.ensures ∙ same

pub returns-clause-state : goal.returns-clause-state
returns-clause-state g c =
    let same = c.in_ok-shape.ensures
    ∙ (λ i. script_shape (c.transcript_version-version.ensures i) (c.ZK.ensures i) (c.lookup_proof_of_work_bits-lookup_bits.ensures.bits i) (c.ood_proof_of_work_bits-ood_bits.ensures.bits i)
    (statement_with (tables_of g.A.BaseAir.declaration g.A.Air.trees ((c.deref.ensures.value ∙ c.in_ok-airs.ensures) i)) [] c.args.common.now)) in
    let functions : ChallengerOf g.row.SC-Challenger.Denot g.row.SC-Val.Denot g.row.SC-Challenge.Denot g.row.SC-Pcs-Commitment.Denot = record {
      observe = g.SC.Challenger.CanObserve-2.observed;
      observe_extension = g.SC.Challenger.CanObserve-1.observed;
      observe_opaque = g.SC.Challenger.CanObserve-3.observed;
      draw = g.SC.Challenger.CanSample-1.drawn;
      after_draw = g.SC.Challenger.CanSample-1.after_draw;
      draw_bits = g.SC.Challenger.CanSampleBits.bits_drawn;
      after_bits = g.SC.Challenger.CanSampleBits.after_bits;
    } in
    let publics = ap (map (λ v. v.items)) c.deref-2.ensures.value ∙ c.in_ok-values.ensures in
    bound_state _ _ _ _ _ c.in_ok-transcript.transcript c.instance_bindings.new.self c.main_phase.new.self c.preprocessed_phase.new.self
    (ap (λ t. t.state) c.in_ok-transcript.ensures ∙ (λ i. seeded functions g.SC.Val.RingCore.ring g.SC.Challenge.BasedVectorSpace.DIMENSION (same i) (c.initialise_challenger.ensures i)))
    (subst (λ ns. Plays functions (bindings_script g.SC.Challenge.RingCore.ring g.SC.Challenge.BasedVectorSpace.DIMENSION ns) c.in_ok-transcript.transcript c.instance_bindings.new.self []) c.requires.degree_bits c.instance_bindings.ensures.plays)
    (subst (λ z. Plays functions z c.instance_bindings.new.self c.main_phase.new.self []) (λ i. main_script (c.requires.main i) (publics i)) c.main_phase.ensures.plays)
    (subst (λ o. Plays functions (preprocessed_script o) c.main_phase.new.self c.preprocessed_phase.new.self []) c.preprocessed_commitment.ensures.value c.preprocessed_phase.ensures.plays)
