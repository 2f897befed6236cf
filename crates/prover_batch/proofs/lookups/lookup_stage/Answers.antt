use Rattle.std.proofs.Common.{◌^◌, map, length, sym, ◌∙◌, ap, subst}
use Rattle.std.specs.Prelude.{is_some, option_map}
use Rattle.std.specs.List.{filter_map}
use Rattle.p3_field.specs.Laws.Checks.{holds_alone, none_append}
use Rattle.p3_lookup.specs.Written.{read_all}
use Rattle.batch_transcript.specs.BatchScript.{is_positive}
use Rattle.commit_core.specs.Commitments.{IsCommitment}
use Rattle.p3_field.specs.Domain.{CosetData, point}
use Rattle.law_honest.specs.HonestProof.{AreCanonical, Prover}
use Rattle.prover_answer.specs.Batch.{CommitsToSome, batch_of}
use Rattle.prover_commits.specs.Laws.Drawn.{drawn_granted, drawn_refused}
use Rattle.prover_answer.specs.Laws.Verdicts.{answer_before, answer_past, answer_exits, refusal_is}
use Rattle.prover_batch.specs.Laws.Counted.{columns_there, terminals_counted}
use Rattle.prover_batch.specs.Laws.Drawing.{alpha_is, after_alpha, after_pair, challenges_are}
use Rattle.prover_batch.specs.Laws.Stage.{committed_part, pair_ground, pair_passes, pair_refused}
use Rattle.prover_batch.proofs.lookups.lookup_stage.Goals as goal

pub returns-in-Err-clause-verdict : goal.returns-in-Err-clause-verdict
returns-in-Err-clause-verdict g c =
    let K : AreCanonical g.SC.Val.RingCore.ring g.SC.Val.PrimeCore64.ORDER_U64 g.SC.Val.PrimeCore64.canonical = record { ones = g.met.SC.Val.PrimeCore64.of_canonical; below = g.met.SC.Val.PrimeCore64.canonical_below } in
    pair_refused _ _ _ _ _ K _ c.args.transcript.now c.in-Err.error c.lookup_refusal.result c.requires.state c.requires.shape c.in-Err.ensures.refused c.lookup_refusal.ensures.witness c.lookup_refusal.ensures.memory

pub permutation_columns-requires-clause-challenges : goal.permutation_columns-requires-clause-challenges
permutation_columns-requires-clause-challenges g c =
    let K : AreCanonical g.SC.Val.RingCore.ring g.SC.Val.PrimeCore64.ORDER_U64 g.SC.Val.PrimeCore64.canonical = record { ones = g.met.SC.Val.PrimeCore64.of_canonical; below = g.met.SC.Val.PrimeCore64.canonical_below } in
    let w = c.in-Ok.drawn.1 in
    let ground = pair_ground _ _ _ _ _ K c.args.transcript.now w c.requires.state c.requires.shape c.in-Ok.ensures.ground in
    let written = ap (map (read_all {F = g.row.SC-Val.Denot})) (c.deref.ensures.value ∙ ap (λ x. x.lookups) c.common.view_is) in
    let laid = challenges_are _ _ _ _ _ c.requires.traced w c.args.transcript.now _ _ written c.requires.state c.requires.shape c.in-Ok.ensures.plays.1 in
    (w, ground, ap (map (λ v. v.items)) c.deref-2.ensures.value ∙ laid)

pub returns-in_err-columns-clause-verdict : goal.returns-in_err-columns-clause-verdict
returns-in_err-columns-clause-verdict g c =
    let K : AreCanonical g.SC.Val.RingCore.ring g.SC.Val.PrimeCore64.ORDER_U64 g.SC.Val.PrimeCore64.canonical = record { ones = g.met.SC.Val.PrimeCore64.of_canonical; below = g.met.SC.Val.PrimeCore64.canonical_below } in
    let w = c.in-Ok.drawn.1 in
    let ground = pair_ground _ _ _ _ _ K c.args.transcript.now w c.requires.state c.requires.shape c.in-Ok.ensures.ground in
    answer_exits _ _ _ c.from_residual.ensures.1 (answer_past _ _ _ (pair_passes _ _ _ _ _ K _ c.args.transcript.now w c.requires.state c.requires.shape c.in-Ok.ensures.ground) (answer_before _ _ _ (refusal_is _ _ c.in_err-columns.ensures.verdict)))

pub returns-in_err-permutation-clause-verdict : goal.returns-in_err-permutation-clause-verdict
returns-in_err-permutation-clause-verdict g c =
    let K : AreCanonical g.SC.Val.RingCore.ring g.SC.Val.PrimeCore64.ORDER_U64 g.SC.Val.PrimeCore64.canonical = record { ones = g.met.SC.Val.PrimeCore64.of_canonical; below = g.met.SC.Val.PrimeCore64.canonical_below } in
    let w = c.in-Ok.drawn.1 in
    let ground = pair_ground _ _ _ _ _ K c.args.transcript.now w c.requires.state c.requires.shape c.in-Ok.ensures.ground in
    let p : Prover g.row.SC-Val.Denot g.row.SC-Challenge.Denot g.row.SC-Pcs-Commitment.Denot = record { inverse = g.SC.Challenge.FieldCore.inv; canonical = g.SC.Val.PrimeCore64.canonical; commitment_of = g.SC-Pcs-UnivariateStarkPcs.commitment_of (g.SC.StarkGenericConfig.pcs_of c.args.config.now) } in
    let cf = g.SC-Pcs-Pcs.commit_fault (g.SC.StarkGenericConfig.pcs_of c.args.config.now) in
    let refused = drawn_refused (batch_of _ p g.A.BaseAir.declaration g.A.Air.trees c.args.instances.now c.args.common.now) cf K _ w ground (c.in_ok-columns.ensures.columns w ground) _ c.in_err-permutation.ensures.verdict in
    answer_exits _ _ _ c.from_residual-in_err-permutation.ensures.1
    (answer_past _ _ _ (pair_passes _ _ _ _ _ K _ c.args.transcript.now w c.requires.state c.requires.shape c.in-Ok.ensures.ground) (answer_past _ _ _ c.in_ok-columns.ensures.verdict (refusal_is _ _ refused)))

pub permutation_phase-alpha-requires-clause-present : goal.permutation_phase-alpha-requires-clause-present
permutation_phase-alpha-requires-clause-present g c =
    let K : AreCanonical g.SC.Val.RingCore.ring g.SC.Val.PrimeCore64.ORDER_U64 g.SC.Val.PrimeCore64.canonical = record { ones = g.met.SC.Val.PrimeCore64.of_canonical; below = g.met.SC.Val.PrimeCore64.canonical_below } in
    let w = c.in-Ok.drawn.1 in
    let ground = pair_ground _ _ _ _ _ K c.args.transcript.now w c.requires.state c.requires.shape c.in-Ok.ensures.ground in
    let pcs = g.SC.StarkGenericConfig.pcs_of c.args.config.now in
    let kept = subst (λ ms. CommitsToSome (λ es d. IsCommitment g.SC.Val.RingCore.ring (λ (d : CosetData g.row.SC-Val.Denot). 2 ^ d.log_size) (point g.SC.Val.RingCore.ring g.SC.Val.TwoAdicCore.root) (g.SC-Pcs-Pcs.commits pcs) (g.SC-Pcs-Pcs.made pcs) (g.SC-Pcs-Pcs.holds pcs) es d) ms c.in_ok-permutation.permutation) (c.in_ok-columns.ensures.columns w ground) c.in_ok-permutation.ensures.committed in
    let columns = committed_part _ _ _ _ _ _ _ (λ es d h. g.SC-Pcs-UnivariateStarkPcs-met.one_commitment (g.SC.StarkGenericConfig.pcs_of c.args.config.now) es d c.requires.plain h) _ c.in_ok-permutation.permutation kept in
    c.commitment_of.ensures.variant ∙ (ap is_some columns ∙ (columns_there _ _ _ _ _ c.requires.traced w ∙ sym (ap (λ z. is_positive z.num_lookup_instances) (c.in-Ok.ensures.plays.0.shape ∙ c.requires.shape))))

pub permutation_phase-alpha-requires-clause-count : goal.permutation_phase-alpha-requires-clause-count
permutation_phase-alpha-requires-clause-count g c =
    let K : AreCanonical g.SC.Val.RingCore.ring g.SC.Val.PrimeCore64.ORDER_U64 g.SC.Val.PrimeCore64.canonical = record { ones = g.met.SC.Val.PrimeCore64.of_canonical; below = g.met.SC.Val.PrimeCore64.canonical_below } in
    let w = c.in-Ok.drawn.1 in
    let ground = pair_ground _ _ _ _ _ K c.args.transcript.now w c.requires.state c.requires.shape c.in-Ok.ensures.ground in
    let ends = c.deref-4.ensures.value ∙ c.in_ok-present.ensures ∙ ap (filter_map (λ t. t)) (ap (map (option_map (λ t. t.0))) c.deref-3.ensures.value ∙ c.in_ok-columns.ensures.terminals w ground) in
    ap length ends ∙ (terminals_counted _ _ _ _ _ c.requires.traced w ∙ sym (ap (λ z. z.num_lookup_instances) (c.in-Ok.ensures.plays.0.shape ∙ c.requires.shape)))

pub returns-clause-verdict : goal.returns-clause-verdict
returns-clause-verdict g c =
    let K : AreCanonical g.SC.Val.RingCore.ring g.SC.Val.PrimeCore64.ORDER_U64 g.SC.Val.PrimeCore64.canonical = record { ones = g.met.SC.Val.PrimeCore64.of_canonical; below = g.met.SC.Val.PrimeCore64.canonical_below } in
    let w = c.in-Ok.drawn.1 in
    let ground = pair_ground _ _ _ _ _ K c.args.transcript.now w c.requires.state c.requires.shape c.in-Ok.ensures.ground in
    let p : Prover g.row.SC-Val.Denot g.row.SC-Challenge.Denot g.row.SC-Pcs-Commitment.Denot = record { inverse = g.SC.Challenge.FieldCore.inv; canonical = g.SC.Val.PrimeCore64.canonical; commitment_of = g.SC-Pcs-UnivariateStarkPcs.commitment_of (g.SC.StarkGenericConfig.pcs_of c.args.config.now) } in
    let cf = g.SC-Pcs-Pcs.commit_fault (g.SC.StarkGenericConfig.pcs_of c.args.config.now) in
    let granted = drawn_granted (batch_of _ p g.A.BaseAir.declaration g.A.Air.trees c.args.instances.now c.args.common.now) cf K _ w ground (c.in_ok-columns.ensures.columns w ground) c.in_ok-permutation.ensures.verdict in
    none_append _ _ (pair_passes _ _ _ _ _ K _ c.args.transcript.now w c.requires.state c.requires.shape c.in-Ok.ensures.ground) (none_append _ _ c.in_ok-columns.ensures.verdict granted)

pub returns-clause-fractions : goal.returns-clause-fractions
returns-clause-fractions g c =
    let K : AreCanonical g.SC.Val.RingCore.ring g.SC.Val.PrimeCore64.ORDER_U64 g.SC.Val.PrimeCore64.canonical = record { ones = g.met.SC.Val.PrimeCore64.of_canonical; below = g.met.SC.Val.PrimeCore64.canonical_below } in
    let w = c.in-Ok.drawn.1 in
    let ground = pair_ground _ _ _ _ _ K c.args.transcript.now w c.requires.state c.requires.shape c.in-Ok.ensures.ground in
    holds_alone _ c.in_ok-columns.ensures.verdict w ground

pub returns-clause-challenges : goal.returns-clause-challenges
returns-clause-challenges g c =
    let K : AreCanonical g.SC.Val.RingCore.ring g.SC.Val.PrimeCore64.ORDER_U64 g.SC.Val.PrimeCore64.canonical = record { ones = g.met.SC.Val.PrimeCore64.of_canonical; below = g.met.SC.Val.PrimeCore64.canonical_below } in
    let w = c.in-Ok.drawn.1 in
    let written = ap (map (read_all {F = g.row.SC-Val.Denot})) (c.deref.ensures.value ∙ ap (λ x. x.lookups) c.common.view_is) in
    let laid = challenges_are _ _ _ _ _ c.requires.traced w c.args.transcript.now _ _ written c.requires.state c.requires.shape c.in-Ok.ensures.plays.1 in
    laid

pub returns-clause-committed : goal.returns-clause-committed
returns-clause-committed g c =
    let K : AreCanonical g.SC.Val.RingCore.ring g.SC.Val.PrimeCore64.ORDER_U64 g.SC.Val.PrimeCore64.canonical = record { ones = g.met.SC.Val.PrimeCore64.of_canonical; below = g.met.SC.Val.PrimeCore64.canonical_below } in
    let w = c.in-Ok.drawn.1 in
    let ground = pair_ground _ _ _ _ _ K c.args.transcript.now w c.requires.state c.requires.shape c.in-Ok.ensures.ground in
    let pcs = g.SC.StarkGenericConfig.pcs_of c.args.config.now in
    let kept = subst (λ ms. CommitsToSome (λ es d. IsCommitment g.SC.Val.RingCore.ring (λ (d : CosetData g.row.SC-Val.Denot). 2 ^ d.log_size) (point g.SC.Val.RingCore.ring g.SC.Val.TwoAdicCore.root) (g.SC-Pcs-Pcs.commits pcs) (g.SC-Pcs-Pcs.made pcs) (g.SC-Pcs-Pcs.holds pcs) es d) ms c.in_ok-permutation.permutation) (c.in_ok-columns.ensures.columns w ground) c.in_ok-permutation.ensures.committed in
    kept

pub returns-clause-permutation : goal.returns-clause-permutation
returns-clause-permutation g c =
    let K : AreCanonical g.SC.Val.RingCore.ring g.SC.Val.PrimeCore64.ORDER_U64 g.SC.Val.PrimeCore64.canonical = record { ones = g.met.SC.Val.PrimeCore64.of_canonical; below = g.met.SC.Val.PrimeCore64.canonical_below } in
    let w = c.in-Ok.drawn.1 in
    let ground = pair_ground _ _ _ _ _ K c.args.transcript.now w c.requires.state c.requires.shape c.in-Ok.ensures.ground in
    let pcs = g.SC.StarkGenericConfig.pcs_of c.args.config.now in
    let kept = subst (λ ms. CommitsToSome (λ es d. IsCommitment g.SC.Val.RingCore.ring (λ (d : CosetData g.row.SC-Val.Denot). 2 ^ d.log_size) (point g.SC.Val.RingCore.ring g.SC.Val.TwoAdicCore.root) (g.SC-Pcs-Pcs.commits pcs) (g.SC-Pcs-Pcs.made pcs) (g.SC-Pcs-Pcs.holds pcs) es d) ms c.in_ok-permutation.permutation) (c.in_ok-columns.ensures.columns w ground) c.in_ok-permutation.ensures.committed in
    let columns = committed_part _ _ _ _ _ _ _ (λ es d h. g.SC-Pcs-UnivariateStarkPcs-met.one_commitment (g.SC.StarkGenericConfig.pcs_of c.args.config.now) es d c.requires.plain h) _ c.in_ok-permutation.permutation kept in
    columns

pub returns-clause-alpha : goal.returns-clause-alpha
returns-clause-alpha g c =
    let K : AreCanonical g.SC.Val.RingCore.ring g.SC.Val.PrimeCore64.ORDER_U64 g.SC.Val.PrimeCore64.canonical = record { ones = g.met.SC.Val.PrimeCore64.of_canonical; below = g.met.SC.Val.PrimeCore64.canonical_below } in
    let w = c.in-Ok.drawn.1 in
    let ground = pair_ground _ _ _ _ _ K c.args.transcript.now w c.requires.state c.requires.shape c.in-Ok.ensures.ground in
    let pcs = g.SC.StarkGenericConfig.pcs_of c.args.config.now in
    let kept = subst (λ ms. CommitsToSome (λ es d. IsCommitment g.SC.Val.RingCore.ring (λ (d : CosetData g.row.SC-Val.Denot). 2 ^ d.log_size) (point g.SC.Val.RingCore.ring g.SC.Val.TwoAdicCore.root) (g.SC-Pcs-Pcs.commits pcs) (g.SC-Pcs-Pcs.made pcs) (g.SC-Pcs-Pcs.holds pcs) es d) ms c.in_ok-permutation.permutation) (c.in_ok-columns.ensures.columns w ground) c.in_ok-permutation.ensures.committed in
    let columns = c.commitment_of.ensures.value ∙ committed_part _ _ _ _ _ _ _ (λ es d h. g.SC-Pcs-UnivariateStarkPcs-met.one_commitment (g.SC.StarkGenericConfig.pcs_of c.args.config.now) es d c.requires.plain h) _ c.in_ok-permutation.permutation kept in
    let ends = c.deref-4.ensures.value ∙ c.in_ok-present.ensures ∙ ap (filter_map (λ t. t)) (ap (map (option_map (λ t. t.0))) c.deref-3.ensures.value ∙ c.in_ok-columns.ensures.terminals w ground) in
    let here = after_pair _ _ _ _ _ w c.args.transcript.now c.lookup_phase.new.self _ c.in-Ok.ensures.plays.0 c.requires.state c.requires.shape in
    alpha_is _ _ _ _ _ w _ _ columns ends c.lookup_phase.new.self c.permutation_phase-alpha.new.self _ c.permutation_phase-alpha.ensures.plays here

pub returns-clause-state : goal.returns-clause-state
returns-clause-state g c =
    let K : AreCanonical g.SC.Val.RingCore.ring g.SC.Val.PrimeCore64.ORDER_U64 g.SC.Val.PrimeCore64.canonical = record { ones = g.met.SC.Val.PrimeCore64.of_canonical; below = g.met.SC.Val.PrimeCore64.canonical_below } in
    let w = c.in-Ok.drawn.1 in
    let ground = pair_ground _ _ _ _ _ K c.args.transcript.now w c.requires.state c.requires.shape c.in-Ok.ensures.ground in
    let pcs = g.SC.StarkGenericConfig.pcs_of c.args.config.now in
    let kept = subst (λ ms. CommitsToSome (λ es d. IsCommitment g.SC.Val.RingCore.ring (λ (d : CosetData g.row.SC-Val.Denot). 2 ^ d.log_size) (point g.SC.Val.RingCore.ring g.SC.Val.TwoAdicCore.root) (g.SC-Pcs-Pcs.commits pcs) (g.SC-Pcs-Pcs.made pcs) (g.SC-Pcs-Pcs.holds pcs) es d) ms c.in_ok-permutation.permutation) (c.in_ok-columns.ensures.columns w ground) c.in_ok-permutation.ensures.committed in
    let columns = c.commitment_of.ensures.value ∙ committed_part _ _ _ _ _ _ _ (λ es d h. g.SC-Pcs-UnivariateStarkPcs-met.one_commitment (g.SC.StarkGenericConfig.pcs_of c.args.config.now) es d c.requires.plain h) _ c.in_ok-permutation.permutation kept in
    let ends = c.deref-4.ensures.value ∙ c.in_ok-present.ensures ∙ ap (filter_map (λ t. t)) (ap (map (option_map (λ t. t.0))) c.deref-3.ensures.value ∙ c.in_ok-columns.ensures.terminals w ground) in
    let here = after_pair _ _ _ _ _ w c.args.transcript.now c.lookup_phase.new.self _ c.in-Ok.ensures.plays.0 c.requires.state c.requires.shape in
    after_alpha _ _ _ _ _ w _ _ columns ends c.lookup_phase.new.self c.permutation_phase-alpha.new.self _ c.permutation_phase-alpha.ensures.plays here
