use Rattle.std.proofs.Common.{◌≡◌, ◌*◌, ◌<◌, [], length, map, get_or, refl, sym, ◌∙◌, ap, subst}
use Rattle.std.specs.Prelude.{count_by}
use Rattle.std.proofs.lemmas.List.{length-map}
use Rattle.p3_field.specs.Laws.Tabulate.{length-tabulate}
use Rattle.p3_lookup.specs.Written.{read_all}
use Rattle.batch_transcript.specs.Buses.{batch_layout}
use Rattle.batch_config.specs.Setting.{Setting, Backend}
use Rattle.batch_statement.specs.Statement.{AirTable, statement_with, tables_of}
use Rattle.batch_statement.specs.Words.{has_some}
use Rattle.verifier_draws.specs.Draws.{drawn_pair}
use Rattle.verifier_draws.specs.Laws.Challenges.{challenge_count}
use Rattle.verifier_batch.specs.OpeningChecks.{claim_checks}
use Rattle.audit_script.specs.Steps.{draws_told}
use Rattle.audit_batch.proofs.Each.{masked_domains, masked_fit}
use Rattle.audit_batch.proofs.Played.{challenges_here, claims_fail_here, claims_hold_here, counts_here, domains_fit, fails_if_refused, identities_named, item_lengths, opens_named}
use Rattle.audit_batch.proofs.openings.name_openings.Goals as goal

pub name_identities-requires-clause-lists : goal.name_identities-requires-clause-lists
name_identities-requires-clause-lists g c =
    let a = c.args in
    let setting : Setting g.row.SC-Challenger.Denot g.row.SC-Val.Denot g.row.SC-Challenge.Denot g.row.SC-Pcs-Commitment.Denot = record {
      field = record { ring = g.SC.Val.RingCore.ring; inv = g.SC.Val.FieldCore.inv; root = g.SC.Val.TwoAdicCore.root; generator = g.SC.Val.FieldCore.GENERATOR };
      two_adicity = g.SC.Val.TwoAdicCore.TWO_ADICITY;
      order = g.SC.Val.PrimeCore64.ORDER_U64;
      extension = record {
        ring = g.SC.Challenge.RingCore.ring;
        embed = g.SC.Challenge.ExtensionField.embed;
        dimension = g.SC.Challenge.BasedVectorSpace.DIMENSION;
        basis = g.SC.Challenge.ExtensionField.basis;
        coefficients = g.SC.Challenge.BasedVectorSpace.coefficients;
        from_coefficients = g.SC.Challenge.BasedVectorSpace.from_coefficients;
      };
      challenger = record {
        observe = g.SC.Challenger.CanObserve-2.observed;
        observe_extension = g.SC.Challenger.CanObserve-1.observed;
        observe_opaque = g.SC.Challenger.CanObserve-3.observed;
        draw = g.SC.Challenger.CanSample-1.drawn;
        after_draw = g.SC.Challenger.CanSample-1.after_draw;
        draw_bits = g.SC.Challenger.CanSampleBits.bits_drawn;
        after_bits = g.SC.Challenger.CanSampleBits.after_bits;
      };
      initial = g.SC.StarkGenericConfig.initial_of a.config.now;
      zk = g.SC-Pcs-UnivariateStarkPcs.ZK;
      log_min = g.SC-Pcs-UnivariateStarkPcs.log_min (g.SC.StarkGenericConfig.pcs_of a.config.now);
      log_max = g.SC-Pcs-UnivariateStarkPcs.log_max (g.SC.StarkGenericConfig.pcs_of a.config.now);
      lookup_bits = g.SC.StarkGenericConfig.lookup_bits a.config.now;
      ood_bits = g.SC.StarkGenericConfig.ood_bits a.config.now;
      version = g.SC.StarkGenericConfig.version a.config.now;
    } in
    let backend : Backend g.row.SC-Challenger.Denot g.row.SC-Val.Denot g.row.SC-Challenge.Denot g.row.SC-Pcs-Commitment.Denot g.row.SC-Pcs-Proof.Denot g.row.SC-Pcs-Error.Denot = record {
      opens = g.SC-Pcs-Pcs.opens (g.SC.StarkGenericConfig.pcs_of a.config.now);
      fault = g.SC-Pcs-Pcs.fault (g.SC.StarkGenericConfig.pcs_of a.config.now);
    } in
    let s = statement_with (tables_of g.A.BaseAir.declaration g.A.Air.trees a.airs.now) (map (λ v. v.items) a.public_values.now) a.common.now in
    let n = length-map {B = AirTable g.row.SC-Val.Denot} a.airs.now (λ x. record { declaration = g.A.BaseAir.declaration x; trees = g.A.Air.trees x }) in
    let many = (counts_here g.row.SC-Pcs-Error.Denot _ _ s a.proof.now c.requires.shape).lookups ∙ n in
    let pair = drawn_pair a.tables (draws_told a.draws) in
    let lookups : map (read_all {F = g.row.SC-Val.Denot}) c.deref.result.now ≡ s.common.lookups = ap (map read_all) (c.deref.ensures.value ∙ ap (λ x. x.lookups) c.common.view_is) in
    let laid = ap (map (λ v. v.items)) c.deref-in-Ok.ensures.value ∙ c.in_ok-challenges.ensures ∙ ap (batch_layout g.SC.Challenge.RingCore.ring pair) lookups in
    let challenges = challenges_here setting backend s a.proof.now (length a.airs.now) a.tables (draws_told a.draws) _ many c.requires.tables c.requires.draws laid in
    sym (length-map c.deref-in-Ok.result.now _) ∙ ap length challenges ∙ length-tabulate (length a.airs.now) _

pub name_identities-requires-clause-challenges : goal.name_identities-requires-clause-challenges
name_identities-requires-clause-challenges g c =
    let a = c.args in
    let setting : Setting g.row.SC-Challenger.Denot g.row.SC-Val.Denot g.row.SC-Challenge.Denot g.row.SC-Pcs-Commitment.Denot = record {
      field = record { ring = g.SC.Val.RingCore.ring; inv = g.SC.Val.FieldCore.inv; root = g.SC.Val.TwoAdicCore.root; generator = g.SC.Val.FieldCore.GENERATOR };
      two_adicity = g.SC.Val.TwoAdicCore.TWO_ADICITY;
      order = g.SC.Val.PrimeCore64.ORDER_U64;
      extension = record {
        ring = g.SC.Challenge.RingCore.ring;
        embed = g.SC.Challenge.ExtensionField.embed;
        dimension = g.SC.Challenge.BasedVectorSpace.DIMENSION;
        basis = g.SC.Challenge.ExtensionField.basis;
        coefficients = g.SC.Challenge.BasedVectorSpace.coefficients;
        from_coefficients = g.SC.Challenge.BasedVectorSpace.from_coefficients;
      };
      challenger = record {
        observe = g.SC.Challenger.CanObserve-2.observed;
        observe_extension = g.SC.Challenger.CanObserve-1.observed;
        observe_opaque = g.SC.Challenger.CanObserve-3.observed;
        draw = g.SC.Challenger.CanSample-1.drawn;
        after_draw = g.SC.Challenger.CanSample-1.after_draw;
        draw_bits = g.SC.Challenger.CanSampleBits.bits_drawn;
        after_bits = g.SC.Challenger.CanSampleBits.after_bits;
      };
      initial = g.SC.StarkGenericConfig.initial_of a.config.now;
      zk = g.SC-Pcs-UnivariateStarkPcs.ZK;
      log_min = g.SC-Pcs-UnivariateStarkPcs.log_min (g.SC.StarkGenericConfig.pcs_of a.config.now);
      log_max = g.SC-Pcs-UnivariateStarkPcs.log_max (g.SC.StarkGenericConfig.pcs_of a.config.now);
      lookup_bits = g.SC.StarkGenericConfig.lookup_bits a.config.now;
      ood_bits = g.SC.StarkGenericConfig.ood_bits a.config.now;
      version = g.SC.StarkGenericConfig.version a.config.now;
    } in
    let backend : Backend g.row.SC-Challenger.Denot g.row.SC-Val.Denot g.row.SC-Challenge.Denot g.row.SC-Pcs-Commitment.Denot g.row.SC-Pcs-Proof.Denot g.row.SC-Pcs-Error.Denot = record {
      opens = g.SC-Pcs-Pcs.opens (g.SC.StarkGenericConfig.pcs_of a.config.now);
      fault = g.SC-Pcs-Pcs.fault (g.SC.StarkGenericConfig.pcs_of a.config.now);
    } in
    let s = statement_with (tables_of g.A.BaseAir.declaration g.A.Air.trees a.airs.now) (map (λ v. v.items) a.public_values.now) a.common.now in
    let n = length-map {B = AirTable g.row.SC-Val.Denot} a.airs.now (λ x. record { declaration = g.A.BaseAir.declaration x; trees = g.A.Air.trees x }) in
    let many = (counts_here g.row.SC-Pcs-Error.Denot _ _ s a.proof.now c.requires.shape).lookups ∙ n in
    let pair = drawn_pair a.tables (draws_told a.draws) in
    let lookups : map (read_all {F = g.row.SC-Val.Denot}) c.deref.result.now ≡ s.common.lookups = ap (map read_all) (c.deref.ensures.value ∙ ap (λ x. x.lookups) c.common.view_is) in
    let laid = ap (map (λ v. v.items)) c.deref-in-Ok.ensures.value ∙ c.in_ok-challenges.ensures ∙ ap (batch_layout g.SC.Challenge.RingCore.ring pair) lookups in
    let challenges = challenges_here setting backend s a.proof.now (length a.airs.now) a.tables (draws_told a.draws) _ many c.requires.tables c.requires.draws laid in
    item_lengths (length a.airs.now) _ _ (λ i. 2 * length (get_or s.common.lookups i [])) challenges
    (λ i l. challenge_count g.SC.Challenge.RingCore.ring _ s.common.lookups (count_by has_some s.common.lookups) i refl (subst (λ m. i < m) (sym many) l))

pub name_identities-requires-clause-domains : goal.name_identities-requires-clause-domains
name_identities-requires-clause-domains g c =
    let a = c.args in
    let s = statement_with (tables_of g.A.BaseAir.declaration g.A.Air.trees a.airs.now) (map (λ v. v.items) a.public_values.now) a.common.now in
    masked_domains g.SC.Val.RingCore.ring s.tables s.common.lookups a.proof.now.degree_bits (length a.airs.now) _ _ g.SC.Val.TwoAdicCore.root g.SC.Val.FieldCore.GENERATOR _
    c.shape_bounds-bounds.ensures.masks (ap (map (λ v. v.items)) c.deref-in-Ok-2.ensures.value ∙ c.in-Ok.ensures.domains)

pub name_identities-requires-clause-fits : goal.name_identities-requires-clause-fits
name_identities-requires-clause-fits g c =
    let a = c.args in
    let setting : Setting g.row.SC-Challenger.Denot g.row.SC-Val.Denot g.row.SC-Challenge.Denot g.row.SC-Pcs-Commitment.Denot = record {
      field = record { ring = g.SC.Val.RingCore.ring; inv = g.SC.Val.FieldCore.inv; root = g.SC.Val.TwoAdicCore.root; generator = g.SC.Val.FieldCore.GENERATOR };
      two_adicity = g.SC.Val.TwoAdicCore.TWO_ADICITY;
      order = g.SC.Val.PrimeCore64.ORDER_U64;
      extension = record {
        ring = g.SC.Challenge.RingCore.ring;
        embed = g.SC.Challenge.ExtensionField.embed;
        dimension = g.SC.Challenge.BasedVectorSpace.DIMENSION;
        basis = g.SC.Challenge.ExtensionField.basis;
        coefficients = g.SC.Challenge.BasedVectorSpace.coefficients;
        from_coefficients = g.SC.Challenge.BasedVectorSpace.from_coefficients;
      };
      challenger = record {
        observe = g.SC.Challenger.CanObserve-2.observed;
        observe_extension = g.SC.Challenger.CanObserve-1.observed;
        observe_opaque = g.SC.Challenger.CanObserve-3.observed;
        draw = g.SC.Challenger.CanSample-1.drawn;
        after_draw = g.SC.Challenger.CanSample-1.after_draw;
        draw_bits = g.SC.Challenger.CanSampleBits.bits_drawn;
        after_bits = g.SC.Challenger.CanSampleBits.after_bits;
      };
      initial = g.SC.StarkGenericConfig.initial_of a.config.now;
      zk = g.SC-Pcs-UnivariateStarkPcs.ZK;
      log_min = g.SC-Pcs-UnivariateStarkPcs.log_min (g.SC.StarkGenericConfig.pcs_of a.config.now);
      log_max = g.SC-Pcs-UnivariateStarkPcs.log_max (g.SC.StarkGenericConfig.pcs_of a.config.now);
      lookup_bits = g.SC.StarkGenericConfig.lookup_bits a.config.now;
      ood_bits = g.SC.StarkGenericConfig.ood_bits a.config.now;
      version = g.SC.StarkGenericConfig.version a.config.now;
    } in
    let backend : Backend g.row.SC-Challenger.Denot g.row.SC-Val.Denot g.row.SC-Challenge.Denot g.row.SC-Pcs-Commitment.Denot g.row.SC-Pcs-Proof.Denot g.row.SC-Pcs-Error.Denot = record {
      opens = g.SC-Pcs-Pcs.opens (g.SC.StarkGenericConfig.pcs_of a.config.now);
      fault = g.SC-Pcs-Pcs.fault (g.SC.StarkGenericConfig.pcs_of a.config.now);
    } in
    let s = statement_with (tables_of g.A.BaseAir.declaration g.A.Air.trees a.airs.now) (map (λ v. v.items) a.public_values.now) a.common.now in
    let n = length-map {B = AirTable g.row.SC-Val.Denot} a.airs.now (λ x. record { declaration = g.A.BaseAir.declaration x; trees = g.A.Air.trees x }) in
    masked_fit g.SC.Val.RingCore.ring s.tables s.common.lookups a.proof.now.degree_bits (length a.airs.now) _ _ g.SC.Val.TwoAdicCore.TWO_ADICITY c.shape_bounds-bounds.ensures.masks
    (λ i l. domains_fit setting backend s a.proof.now c.in-Ok.ensures.verdict i (subst (λ m. i < m) (sym n) l))

pub returns-in-Ok : goal.returns-in-Ok
returns-in-Ok g c =
    let a = c.args in
    let setting : Setting g.row.SC-Challenger.Denot g.row.SC-Val.Denot g.row.SC-Challenge.Denot g.row.SC-Pcs-Commitment.Denot = record {
      field = record { ring = g.SC.Val.RingCore.ring; inv = g.SC.Val.FieldCore.inv; root = g.SC.Val.TwoAdicCore.root; generator = g.SC.Val.FieldCore.GENERATOR };
      two_adicity = g.SC.Val.TwoAdicCore.TWO_ADICITY;
      order = g.SC.Val.PrimeCore64.ORDER_U64;
      extension = record {
        ring = g.SC.Challenge.RingCore.ring;
        embed = g.SC.Challenge.ExtensionField.embed;
        dimension = g.SC.Challenge.BasedVectorSpace.DIMENSION;
        basis = g.SC.Challenge.ExtensionField.basis;
        coefficients = g.SC.Challenge.BasedVectorSpace.coefficients;
        from_coefficients = g.SC.Challenge.BasedVectorSpace.from_coefficients;
      };
      challenger = record {
        observe = g.SC.Challenger.CanObserve-2.observed;
        observe_extension = g.SC.Challenger.CanObserve-1.observed;
        observe_opaque = g.SC.Challenger.CanObserve-3.observed;
        draw = g.SC.Challenger.CanSample-1.drawn;
        after_draw = g.SC.Challenger.CanSample-1.after_draw;
        draw_bits = g.SC.Challenger.CanSampleBits.bits_drawn;
        after_bits = g.SC.Challenger.CanSampleBits.after_bits;
      };
      initial = g.SC.StarkGenericConfig.initial_of a.config.now;
      zk = g.SC-Pcs-UnivariateStarkPcs.ZK;
      log_min = g.SC-Pcs-UnivariateStarkPcs.log_min (g.SC.StarkGenericConfig.pcs_of a.config.now);
      log_max = g.SC-Pcs-UnivariateStarkPcs.log_max (g.SC.StarkGenericConfig.pcs_of a.config.now);
      lookup_bits = g.SC.StarkGenericConfig.lookup_bits a.config.now;
      ood_bits = g.SC.StarkGenericConfig.ood_bits a.config.now;
      version = g.SC.StarkGenericConfig.version a.config.now;
    } in
    let backend : Backend g.row.SC-Challenger.Denot g.row.SC-Val.Denot g.row.SC-Challenge.Denot g.row.SC-Pcs-Commitment.Denot g.row.SC-Pcs-Proof.Denot g.row.SC-Pcs-Error.Denot = record {
      opens = g.SC-Pcs-Pcs.opens (g.SC.StarkGenericConfig.pcs_of a.config.now);
      fault = g.SC-Pcs-Pcs.fault (g.SC.StarkGenericConfig.pcs_of a.config.now);
    } in
    let s = statement_with (tables_of g.A.BaseAir.declaration g.A.Air.trees a.airs.now) (map (λ v. v.items) a.public_values.now) a.common.now in
    let n = length-map {B = AirTable g.row.SC-Val.Denot} a.airs.now (λ x. record { declaration = g.A.BaseAir.declaration x; trees = g.A.Air.trees x }) in
    let many = (counts_here g.row.SC-Pcs-Error.Denot _ _ s a.proof.now c.requires.shape).lookups ∙ n in
    let pair = drawn_pair a.tables (draws_told a.draws) in
    let lookups : map (read_all {F = g.row.SC-Val.Denot}) c.deref.result.now ≡ s.common.lookups = ap (map read_all) (c.deref.ensures.value ∙ ap (λ x. x.lookups) c.common.view_is) in
    let laid = ap (map (λ v. v.items)) c.deref-in-Ok.ensures.value ∙ c.in_ok-challenges.ensures ∙ ap (batch_layout g.SC.Challenge.RingCore.ring pair) lookups in
    let challenges = challenges_here setting backend s a.proof.now (length a.airs.now) a.tables (draws_told a.draws) _ many c.requires.tables c.requires.draws laid in
    let domains = ap (map (λ v. v.items)) c.deref-in-Ok-2.ensures.value ∙ c.in-Ok.ensures.domains in
    let draws = c.requires.draws in
    claims_hold_here setting backend s a.proof.now _ _ _ c.in-Ok.ensures.verdict
    (opens_named setting backend s a.proof.now _ a.draws.zeta _ _ c.opened_claims-opened.result _ _ (ap (λ d. d.opening) draws) (ap (λ d. d.zeta) draws) c.in-Ok.ensures.claims
    (ap (λ x. x.opening_proof) c.proof.view_is) c.opened_claims-opened.ensures c.in_ok-name_answer-in-Ok.ensures.memory c.in_ok-name_answer-in-Ok.ensures.named)
    (identities_named setting backend s a.proof.now (length a.airs.now) _ _ _ a.draws.alpha a.draws.zeta _ _ (sym n) c.shape_bounds-bounds.ensures.masks challenges domains
    (ap (λ d. d.alpha) draws) (ap (λ d. d.zeta) draws) c.in_ok-name_identities-in-Ok.ensures)

pub returns : goal.returns
returns g c =
    let a = c.args in
    let setting : Setting g.row.SC-Challenger.Denot g.row.SC-Val.Denot g.row.SC-Challenge.Denot g.row.SC-Pcs-Commitment.Denot = record {
      field = record { ring = g.SC.Val.RingCore.ring; inv = g.SC.Val.FieldCore.inv; root = g.SC.Val.TwoAdicCore.root; generator = g.SC.Val.FieldCore.GENERATOR };
      two_adicity = g.SC.Val.TwoAdicCore.TWO_ADICITY;
      order = g.SC.Val.PrimeCore64.ORDER_U64;
      extension = record {
        ring = g.SC.Challenge.RingCore.ring;
        embed = g.SC.Challenge.ExtensionField.embed;
        dimension = g.SC.Challenge.BasedVectorSpace.DIMENSION;
        basis = g.SC.Challenge.ExtensionField.basis;
        coefficients = g.SC.Challenge.BasedVectorSpace.coefficients;
        from_coefficients = g.SC.Challenge.BasedVectorSpace.from_coefficients;
      };
      challenger = record {
        observe = g.SC.Challenger.CanObserve-2.observed;
        observe_extension = g.SC.Challenger.CanObserve-1.observed;
        observe_opaque = g.SC.Challenger.CanObserve-3.observed;
        draw = g.SC.Challenger.CanSample-1.drawn;
        after_draw = g.SC.Challenger.CanSample-1.after_draw;
        draw_bits = g.SC.Challenger.CanSampleBits.bits_drawn;
        after_bits = g.SC.Challenger.CanSampleBits.after_bits;
      };
      initial = g.SC.StarkGenericConfig.initial_of a.config.now;
      zk = g.SC-Pcs-UnivariateStarkPcs.ZK;
      log_min = g.SC-Pcs-UnivariateStarkPcs.log_min (g.SC.StarkGenericConfig.pcs_of a.config.now);
      log_max = g.SC-Pcs-UnivariateStarkPcs.log_max (g.SC.StarkGenericConfig.pcs_of a.config.now);
      lookup_bits = g.SC.StarkGenericConfig.lookup_bits a.config.now;
      ood_bits = g.SC.StarkGenericConfig.ood_bits a.config.now;
      version = g.SC.StarkGenericConfig.version a.config.now;
    } in
    let backend : Backend g.row.SC-Challenger.Denot g.row.SC-Val.Denot g.row.SC-Challenge.Denot g.row.SC-Pcs-Commitment.Denot g.row.SC-Pcs-Proof.Denot g.row.SC-Pcs-Error.Denot = record {
      opens = g.SC-Pcs-Pcs.opens (g.SC.StarkGenericConfig.pcs_of a.config.now);
      fault = g.SC-Pcs-Pcs.fault (g.SC.StarkGenericConfig.pcs_of a.config.now);
    } in
    let s = statement_with (tables_of g.A.BaseAir.declaration g.A.Air.trees a.airs.now) (map (λ v. v.items) a.public_values.now) a.common.now in
    claims_fail_here setting backend s a.proof.now _ _
    (fails_if_refused (claim_checks setting s a.proof.now {R = g.row.SC-Pcs-Error.Denot}) c.in-Err.refusal c.in-Err.ensures.verdict c.in_ok-has_memory-in-Err.ensures) c.in_ok-name_claims-in-Err.ensures
