use Rattle.std.proofs.Common.{◌^◌, List, option_map, sym, ◌∙◌, ap, subst, arith}
use Rattle.std.proofs.lemmas.List.{length-map}
use Rattle.p3_field.specs.Domain.{CosetData, point}
use Rattle.p3_field.specs.Laws.TwoAdic.{decide_by}
use Rattle.p3_matrix.specs.Matrix.{Rows}
use Rattle.commit_core.specs.Commitments.{IsCommitment}
use Rattle.batch_setup.specs.Setup.{Instance, bits_of}
use Rattle.batch_statement.specs.Statement.{WrittenCommon}
use Rattle.law_honest.specs.HonestProof.{Prover}
use Rattle.law_acceptance.specs.Laws.Airs.{airs_accepted}
use Rattle.law_acceptance.specs.Laws.Quotients.{airs_have_quotients}
use Rattle.law_acceptance.specs.Quotients.{HaveFoldQuotients}
use Rattle.prover_answer.specs.Backend.{ProverBackend}
use Rattle.prover_answer.specs.Batch.{Batch, all_chunks, batch_of, main_matrices}
use Rattle.prover_answer.specs.Laws.Alike.{RefusesAlike, first_of_answer}
use Rattle.prover_answer.specs.Laws.Verdicts.{answer_exits}
use Rattle.prover_openings.specs.Asked.{RoundsProverData}
use Rattle.prover_commits.specs.Laws.Instances.{powers}
use Rattle.prover_batch.proofs.Answered.{all_granted, bound_refused, drawn_refused, open_refused, trace_refused}
use Rattle.prover_batch.proofs.Assembled.{both_of, built_of, honest_of, proved_of}
use Rattle.prover_batch.proofs.prover.prove_batch_with_point.Given.{Over}
use Rattle.prover_batch.proofs.prover.prove_batch_with_point.Goals as goal

-- the backend, the batch, and what a commitment is, as the contract has them
abbrev backend_of : (g : Over) → g.row.SC.Denot → ProverBackend g.row.SC-Challenger.Denot g.row.SC-Val.Denot g.row.SC-Challenge.Denot g.row.SC-Pcs-Commitment.Denot g.row.SC-Pcs-ProverData.Denot g.row.SC-Pcs-Proof.Denot g.row.SC-Pcs-ProverError.Denot
backend_of g config = record {
  commit_fault = g.SC-Pcs-Pcs.commit_fault (g.SC.StarkGenericConfig.pcs_of config);
  extension_fault = g.SC-Pcs-UnivariateStarkPcs.extension_fault (g.SC.StarkGenericConfig.pcs_of config);
  extends = g.SC-Pcs-UnivariateStarkPcs.extends (g.SC.StarkGenericConfig.pcs_of config);
  ldes_fault = g.SC-Pcs-UnivariateStarkPcs.ldes_fault (g.SC.StarkGenericConfig.pcs_of config);
  made = g.SC-Pcs-Pcs.made (g.SC.StarkGenericConfig.pcs_of config);
  holds = g.SC-Pcs-Pcs.holds (g.SC.StarkGenericConfig.pcs_of config);
  open_fault = g.SC-Pcs-Pcs.open_fault (g.SC.StarkGenericConfig.pcs_of config);
  proves = g.SC-Pcs-Pcs.proves (g.SC.StarkGenericConfig.pcs_of config);
  excludes = g.SC-Pcs-Pcs.excludes (g.SC.StarkGenericConfig.pcs_of config);
}

abbrev batch_is : (g : Over) → g.row.SC.Denot → List (Instance g.row.A.Denot g.row.SC-Val.Denot) → WrittenCommon g.row.SC-Val.Denot g.row.SC-Pcs-Commitment.Denot → Batch g.row.SC-Challenger.Denot g.row.SC-Val.Denot g.row.SC-Challenge.Denot g.row.SC-Pcs-Commitment.Denot
batch_is g config instances common =
    batch_of
    (record {
      field = record { ring = g.SC.Val.RingCore.ring; inv = g.SC.Val.FieldCore.inv; root = g.SC.Val.TwoAdicCore.root; generator = g.SC.Val.FieldCore.GENERATOR };
      two_adicity = g.SC.Val.TwoAdicCore.TWO_ADICITY;
      order = g.SC.Val.PrimeCore64.ORDER_U64;
      extension = record { ring = g.SC.Challenge.RingCore.ring; embed = g.SC.Challenge.ExtensionField.embed; dimension = g.SC.Challenge.BasedVectorSpace.DIMENSION; basis = g.SC.Challenge.ExtensionField.basis; coefficients = g.SC.Challenge.BasedVectorSpace.coefficients; from_coefficients = g.SC.Challenge.BasedVectorSpace.from_coefficients };
      challenger = record {
        observe = g.SC.Challenger.CanObserve-2.observed;
        observe_extension = g.SC.Challenger.CanObserve-1.observed;
        observe_opaque = g.SC.Challenger.CanObserve-3.observed;
        draw = g.SC.Challenger.CanSample-1.drawn;
        after_draw = g.SC.Challenger.CanSample-1.after_draw;
        draw_bits = g.SC.Challenger.CanSampleBits.bits_drawn;
        after_bits = g.SC.Challenger.CanSampleBits.after_bits;
      };
      initial = g.SC.StarkGenericConfig.initial_of config;
      zk = g.SC-Pcs-UnivariateStarkPcs.ZK;
      log_min = g.SC-Pcs-UnivariateStarkPcs.log_min (g.SC.StarkGenericConfig.pcs_of config);
      log_max = g.SC-Pcs-UnivariateStarkPcs.log_max (g.SC.StarkGenericConfig.pcs_of config);
      lookup_bits = g.SC.StarkGenericConfig.lookup_bits config;
      ood_bits = g.SC.StarkGenericConfig.ood_bits config;
      version = g.SC.StarkGenericConfig.version config;
    })
    (record { inverse = g.SC.Challenge.FieldCore.inv; canonical = g.SC.Val.PrimeCore64.canonical; commitment_of = g.SC-Pcs-UnivariateStarkPcs.commitment_of (g.SC.StarkGenericConfig.pcs_of config) })
    g.A.BaseAir.declaration g.A.Air.trees instances common

abbrev commits_of : (g : Over) → g.row.SC.Denot → List (CosetData g.row.SC-Val.Denot × Rows g.row.SC-Val.Denot) → g.row.SC-Pcs-Commitment.Denot × g.row.SC-Pcs-ProverData.Denot → Type 0
commits_of g config es w =
    IsCommitment g.SC.Val.RingCore.ring (λ (d : CosetData g.row.SC-Val.Denot). 2 ^ d.log_size) (point g.SC.Val.RingCore.ring g.SC.Val.TwoAdicCore.root)
    (g.SC-Pcs-Pcs.commits (g.SC.StarkGenericConfig.pcs_of config)) (g.SC-Pcs-Pcs.made (g.SC.StarkGenericConfig.pcs_of config)) (g.SC-Pcs-Pcs.holds (g.SC.StarkGenericConfig.pcs_of config)) es w

-- which refuses alike
alike_of : (g : Over) (config : g.row.SC.Denot) → RefusesAlike (backend_of g config)
alike_of g config = record {
  opened = g.SC-Pcs-Pcs-met.opened_alike (g.SC.StarkGenericConfig.pcs_of config);
  extended = g.SC-Pcs-UnivariateStarkPcs-met.extended_alike (g.SC.StarkGenericConfig.pcs_of config);
}

pub returns-in_err-check_bound-clause-verdict : goal.returns-in_err-check_bound-clause-verdict
returns-in_err-check_bound-clause-verdict g c =
    let b = batch_is g c.args.config.now c.args.instances.now c.args.prover_data.now.common in
    answer_exits _ _ _ c.from_residual.ensures.1 (bound_refused (backend_of g c.args.config.now) b _ c.in_err-check_bound.ensures)

pub returns-in_err-main-clause-verdict : goal.returns-in_err-main-clause-verdict
returns-in_err-main-clause-verdict g c =
    let b = batch_is g c.args.config.now c.args.instances.now c.args.prover_data.now.common in
    answer_exits _ _ _ c.from_residual-in_err-main.ensures.1 (trace_refused (backend_of g c.args.config.now) b _ c.in_ok-check_bound.ensures c.in_err-main.ensures.verdict)

pub degree_bits-requires-clause-powers : goal.degree_bits-requires-clause-powers
degree_bits-requires-clause-powers g c =
    let p : Prover g.row.SC-Val.Denot g.row.SC-Challenge.Denot g.row.SC-Pcs-Commitment.Denot = record { inverse = g.SC.Challenge.FieldCore.inv; canonical = g.SC.Val.PrimeCore64.canonical; commitment_of = g.SC-Pcs-UnivariateStarkPcs.commitment_of (g.SC.StarkGenericConfig.pcs_of c.args.config.now) } in
    powers _ p g.A.BaseAir.declaration g.A.Air.trees c.args.instances.now c.args.prover_data.now.common c.requires.traced

pub bound_transcript-requires-clause-main : goal.bound_transcript-requires-clause-main
bound_transcript-requires-clause-main g c = g.SC-Pcs-UnivariateStarkPcs-met.one_commitment (g.SC.StarkGenericConfig.pcs_of c.args.config.now) _ _ c.requires.plain (c.in_ok-main.ensures.committed).commitment_is

pub drawn_stages-drawn-requires-clause-main : goal.drawn_stages-drawn-requires-clause-main
drawn_stages-drawn-requires-clause-main g c =
    let b = batch_is g c.args.config.now c.args.instances.now c.args.prover_data.now.common in
    let known = g.SC-Pcs-UnivariateStarkPcs-met.one_commitment (g.SC.StarkGenericConfig.pcs_of c.args.config.now) _ _ c.requires.plain (c.in_ok-main.ensures.committed).commitment_is in
    subst (λ x. commits_of g c.args.config.now (main_matrices b) (x, c.in_ok-main.main_data)) known c.in_ok-main.ensures.committed

pub returns-in_err-lookups-clause-verdict : goal.returns-in_err-lookups-clause-verdict
returns-in_err-lookups-clause-verdict g c =
    let b = batch_is g c.args.config.now c.args.instances.now c.args.prover_data.now.common in
    answer_exits _ _ _ c.from_residual-in_err-lookups.ensures.1
    (drawn_refused (backend_of g c.args.config.now) b _ c.in_ok-check_bound.ensures c.in_ok-main.ensures.verdict c.in_err-lookups.ensures.verdict)

pub open_batch-requires-clause-ready : goal.open_batch-requires-clause-ready
open_batch-requires-clause-ready g c =
    let b = batch_is g c.args.config.now c.args.instances.now c.args.prover_data.now.common in
    let commits = commits_of g c.args.config.now in
    let l = c.in_ok-lookups.lookups in
    let q = c.in_ok-lookups.quotients in
    let known = g.SC-Pcs-UnivariateStarkPcs-met.one_commitment (g.SC.StarkGenericConfig.pcs_of c.args.config.now) _ _ c.requires.plain (c.in_ok-main.ensures.committed).commitment_is in
    record {
      lookup_witness = l.witness;
      ood_witness = q.witness;
      is_ground = c.in_ok-lookups.ensures.ground;
      point_is = c.in_ok-lookups.ensures.zeta;
      state_is = c.abort-challenger.ensures ∙ c.in_ok-lookups.ensures.state;
      main = subst (λ x. commits (main_matrices b) (x, c.in_ok-main.main_data)) known c.in_ok-main.ensures.committed;
      quotient = subst (λ x. commits (all_chunks b l.witness) (x, q.data)) c.in_ok-lookups.ensures.chunks c.in_ok-lookups.ensures.quotient;
      permutation = both_of commits _ l.permutation _ _ c.in_ok-lookups.ensures.columns (sym c.data_of.ensures) c.in_ok-lookups.ensures.permutation;
    }

pub returns-in_err-opened-clause-verdict : goal.returns-in_err-opened-clause-verdict
returns-in_err-opened-clause-verdict g c =
    let b = batch_is g c.args.config.now c.args.instances.now c.args.prover_data.now.common in
    let kept : RoundsProverData g.row.SC-Pcs-ProverData.Denot = record { main = c.in_ok-main.main_data; quotient = c.in_ok-lookups.quotients.data; preprocessed = option_map (λ d. d.now) c.as_ref.result; permutation = option_map (λ d. d.now) c.data_of.result } in
    answer_exits _ _ _ c.from_residual-in_err-opened.ensures.1
    (open_refused (backend_of g c.args.config.now) b kept _ c.in_ok-check_bound.ensures c.in_ok-main.ensures.verdict c.in_ok-lookups.ensures.verdict c.in_err-opened.ensures.verdict)

pub returns-clause-verdict : goal.returns-clause-verdict
returns-clause-verdict g c =
    let b = batch_is g c.args.config.now c.args.instances.now c.args.prover_data.now.common in
    let kept : RoundsProverData g.row.SC-Pcs-ProverData.Denot = record { main = c.in_ok-main.main_data; quotient = c.in_ok-lookups.quotients.data; preprocessed = option_map (λ d. d.now) c.as_ref.result; permutation = option_map (λ d. d.now) c.data_of.result } in
    all_granted (backend_of g c.args.config.now) b kept c.in_ok-check_bound.ensures c.in_ok-main.ensures.verdict c.in_ok-lookups.ensures.verdict c.in_ok-opened.ensures.verdict

pub returns-clause-proved : goal.returns-clause-proved
returns-clause-proved g c =
    let b = batch_is g c.args.config.now c.args.instances.now c.args.prover_data.now.common in
    let w = c.in_ok-lookups.lookups.witness in
    let z = c.in_ok-lookups.quotients.witness in
    let ground = c.in_ok-lookups.ensures.ground in
    let known = g.SC-Pcs-UnivariateStarkPcs-met.one_commitment (g.SC.StarkGenericConfig.pcs_of c.args.config.now) _ _ c.requires.plain (c.in_ok-main.ensures.committed).commitment_is in
    let bits = c.in_ok-bits.ensures ∙ ap (λ m. bits_of m c.args.instances.now) c.is_zk.ensures in
    let built = built_of b _ _ _ _ c.in_ok-opened.opening_proof _ _ w z c.requires.traced known c.in_ok-lookups.ensures.columns c.in_ok-lookups.ensures.chunks (c.in_ok-opened.ensures.opened w z ground) c.in_ok-lookups.ensures.terminals bits ground c.in_ok-lookups.ensures.fractions in
    let asked = c.in_ok-opened.ensures.proves w z ground in
    proved_of (backend_of g c.args.config.now) b _ _ _ _ _ _ _ w z built _ c.assembled-proof.ensures _ asked.0 asked.1

pub returns-clause-accepted : goal.returns-clause-accepted
returns-clause-accepted g c = λ few V outside avoids.
    let b = batch_is g c.args.config.now c.args.instances.now c.args.prover_data.now.common in
    let w = c.in_ok-lookups.lookups.witness in
    let z = c.in_ok-lookups.quotients.witness in
    let ground = c.in_ok-lookups.ensures.ground in
    let known = g.SC-Pcs-UnivariateStarkPcs-met.one_commitment (g.SC.StarkGenericConfig.pcs_of c.args.config.now) _ _ c.requires.plain (c.in_ok-main.ensures.committed).commitment_is in
    let bits = c.in_ok-bits.ensures ∙ ap (λ m. bits_of m c.args.instances.now) c.is_zk.ensures in
    let built = built_of b _ _ _ _ c.in_ok-opened.opening_proof _ _ w z c.requires.traced known c.in_ok-lookups.ensures.columns c.in_ok-lookups.ensures.chunks (c.in_ok-opened.ensures.opened w z ground) c.in_ok-lookups.ensures.terminals bits ground c.in_ok-lookups.ensures.fractions in
    let honest = honest_of (backend_of g c.args.config.now) b _ _ _ _ _ _ _ w z built (record { opens = g.SC-Pcs-Pcs.opens (g.SC.StarkGenericConfig.pcs_of c.args.config.now); fault = g.SC-Pcs-Pcs.fault (g.SC.StarkGenericConfig.pcs_of c.args.config.now) }) _ c.assembled-proof.ensures (c.in_ok-opened.ensures.taken w z ground) avoids in
    airs_accepted _ _ g.SC.Val.PartialEq.eq g.A.BaseAir.declaration g.A.Air.trees g.met.A.BaseAir.has_columns g.met.A.Air.trees_read _ _ _ _ _
    (record {
      below = g.met.SC.Val.RingCore.ring_laws;
      below_field = g.met.SC.Val.FieldCore.field_laws;
      below_decided = decide_by _ g.met.SC.Val.FieldCore.eq_same g.met.SC.Val.FieldCore.same_eq;
      roots = g.met.SC.Val.TwoAdicCore.root_laws;
      above = g.met.SC.Challenge.RingCore.ring_laws;
      above_field = g.met.SC.Challenge.FieldCore.field_laws;
      above_decided = decide_by _ g.met.SC.Challenge.FieldCore.eq_same g.met.SC.Challenge.FieldCore.same_eq;
      embeds = g.met.SC.Challenge.ExtensionField.embed_laws;
      vector = g.met.SC.Challenge.BasedVectorSpace.vector_laws;
      spans = g.met.SC.Challenge.ExtensionField.basis_laws;
    })
    g.met.SC.Val.FieldCore.eq_same g.met.SC.Val.FieldCore.same_eq
    (record { ones = g.met.SC.Val.PrimeCore64.of_canonical; below = g.met.SC.Val.PrimeCore64.canonical_below })
    _ _ c.requires.plain g.met.SC.Val.TwoAdicCore.below_64 few V honest
    (λ i h. outside i (let n = length-map c.args.instances.now (λ i. i.air) in omega (arith, h, n)))

pub returns-clause-quotients : goal.returns-clause-quotients
returns-clause-quotients g c = λ few V.
    let b = batch_is g c.args.config.now c.args.instances.now c.args.prover_data.now.common in
    subst (λ q. HaveFoldQuotients b.setting b.prover b.statement b.traces b.degree_bits q.lookup_pow_witness) (sym c.assembled-proof.ensures)
    (airs_have_quotients _ _ g.SC.Val.PartialEq.eq g.A.BaseAir.declaration g.A.Air.trees g.met.A.BaseAir.has_columns g.met.A.Air.trees_read _ _ _ _ _ _
    (record {
      below = g.met.SC.Val.RingCore.ring_laws;
      below_field = g.met.SC.Val.FieldCore.field_laws;
      below_decided = decide_by _ g.met.SC.Val.FieldCore.eq_same g.met.SC.Val.FieldCore.same_eq;
      roots = g.met.SC.Val.TwoAdicCore.root_laws;
      above = g.met.SC.Challenge.RingCore.ring_laws;
      above_field = g.met.SC.Challenge.FieldCore.field_laws;
      above_decided = decide_by _ g.met.SC.Challenge.FieldCore.eq_same g.met.SC.Challenge.FieldCore.same_eq;
      embeds = g.met.SC.Challenge.ExtensionField.embed_laws;
      vector = g.met.SC.Challenge.BasedVectorSpace.vector_laws;
      spans = g.met.SC.Challenge.ExtensionField.basis_laws;
    })
    g.met.SC.Val.TwoAdicCore.below_64 few V
    c.in_ok-lookups.ensures.fractions)

pub returns-in_err-check_bound-clause-first : goal.returns-in_err-check_bound-clause-first
returns-in_err-check_bound-clause-first g c =
    let b = batch_is g c.args.config.now c.args.instances.now c.args.prover_data.now.common in
    first_of_answer (backend_of g c.args.config.now) b (alike_of g c.args.config.now) _ (returns-in_err-check_bound-clause-verdict g c)

pub returns-in_err-main-clause-first : goal.returns-in_err-main-clause-first
returns-in_err-main-clause-first g c =
    let b = batch_is g c.args.config.now c.args.instances.now c.args.prover_data.now.common in
    first_of_answer (backend_of g c.args.config.now) b (alike_of g c.args.config.now) _ (returns-in_err-main-clause-verdict g c)

pub returns-in_err-lookups-clause-first : goal.returns-in_err-lookups-clause-first
returns-in_err-lookups-clause-first g c =
    let b = batch_is g c.args.config.now c.args.instances.now c.args.prover_data.now.common in
    first_of_answer (backend_of g c.args.config.now) b (alike_of g c.args.config.now) _ (returns-in_err-lookups-clause-verdict g c)

pub returns-in_err-opened-clause-first : goal.returns-in_err-opened-clause-first
returns-in_err-opened-clause-first g c =
    let b = batch_is g c.args.config.now c.args.instances.now c.args.prover_data.now.common in
    first_of_answer (backend_of g c.args.config.now) b (alike_of g c.args.config.now) _ (returns-in_err-opened-clause-verdict g c)

pub returns-clause-first : goal.returns-clause-first
returns-clause-first g c = returns-clause-verdict g c
