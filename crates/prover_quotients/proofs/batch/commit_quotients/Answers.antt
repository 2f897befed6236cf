use Rattle.std.proofs.Common.{◌^◌, refl, sym}
use Rattle.std.specs.Option.{option_map}
use Rattle.p3_field.specs.Domain.{point}
use Rattle.p3_field.specs.Laws.TwoAdic.{decide_by}
use Rattle.prover_answer.specs.Backend.{ProverBackend}
use Rattle.batch_setup.specs.Setup.{airs_of}
use Rattle.law_honest.specs.HonestProof.{AreCanonical}
use Rattle.prover_quotients.proofs.Given.{are_given, columns_there, commitment_on}
use Rattle.prover_quotients.proofs.Items.{many}
use Rattle.prover_quotients.proofs.Shapes.{follows}
use Rattle.prover_quotients.proofs.Verdicts.{answer_granted, answer_refused, extend_all}
use Rattle.prover_quotients.proofs.batch.commit_quotients.Given.{Over}
use Rattle.prover_quotients.proofs.batch.commit_quotients.Goals as goal

-- the prover's side of the backend
backend : (g : Over) → g.row.SC.Denot → ProverBackend g.row.SC-Challenger.Denot g.row.SC-Val.Denot g.row.SC-Challenge.Denot g.row.SC-Pcs-Commitment.Denot g.row.SC-Pcs-ProverData.Denot g.row.SC-Pcs-Proof.Denot g.row.SC-Pcs-ProverError.Denot
backend g config =
    let pcs = g.SC.StarkGenericConfig.pcs_of config in
    record {
      commit_fault = g.SC-Pcs-Pcs.commit_fault pcs;
      extension_fault = g.SC-Pcs-UnivariateStarkPcs.extension_fault pcs;
      extends = g.SC-Pcs-UnivariateStarkPcs.extends pcs;
      ldes_fault = g.SC-Pcs-UnivariateStarkPcs.ldes_fault pcs;
      made = g.SC-Pcs-Pcs.made pcs;
      holds = g.SC-Pcs-Pcs.holds pcs;
      open_fault = g.SC-Pcs-Pcs.open_fault pcs;
      proves = g.SC-Pcs-Pcs.proves pcs;
      excludes = g.SC-Pcs-Pcs.excludes pcs;
    }

-- values of the field have canonical numbers
numbers : (g : Over) → AreCanonical g.SC.Val.RingCore.ring g.SC.Val.PrimeCore64.ORDER_U64 g.SC.Val.PrimeCore64.canonical
numbers g = record { ones = g.met.SC.Val.PrimeCore64.of_canonical; below = g.met.SC.Val.PrimeCore64.canonical_below }

pub all_extensions-requires-clause-given : goal.all_extensions-requires-clause-given
unfolding backend
all_extensions-requires-clause-given g c =
    let drawn = c.requires.drawn in
    are_given _
    (record {
      below = g.met.SC.Val.RingCore.ring_laws;
      below_field = g.met.SC.Val.FieldCore.field_laws;
      below_decided = decide_by _ g.met.SC.Val.FieldCore.eq_same g.met.SC.Val.FieldCore.same_eq;
      roots = g.met.SC.Val.TwoAdicCore.root_laws;
      above = g.met.SC.Challenge.RingCore.ring_laws;
      above_field = g.met.SC.Challenge.FieldCore.field_laws;
      above_decided = decide_by _ g.met.SC.Challenge.FieldCore.eq_same g.met.SC.Challenge.FieldCore.same_eq;
      embeds = g.met.SC.Challenge.ExtensionField.embed_laws;
      vector = g.met.SC.Challenge.BasedVectorSpace.vector_laws;
      spans = g.met.SC.Challenge.ExtensionField.basis_laws;
    })
    c.requires.traced c.requires.plain drawn.0 (backend g c.args.config.now) _ _ drawn.2 drawn.3 (λ d. 2 ^ d.log_size) (point g.SC.Val.RingCore.ring g.SC.Val.TwoAdicCore.root) (λ d. refl) (λ d i. refl) (g.SC-Pcs-Pcs.commits (g.SC.StarkGenericConfig.pcs_of c.args.config.now))
    (option_map (λ d. d.now) c.args.preprocessed) c.args.main.now (option_map (λ d. d.now) c.args.permutation)
    (columns_there g.A.BaseAir.declaration g.A.Air.trees g.met.A.BaseAir.has_columns (airs_of c.args.instances.now)) c.requires.preprocessed c.requires.main drawn.5

pub returns-in_err-ldes-clause-verdict : goal.returns-in_err-ldes-clause-verdict
unfolding backend
returns-in_err-ldes-clause-verdict g c =
    let drawn = c.requires.drawn in
    let count = sym (many g.A.BaseAir.declaration g.A.Air.trees c.args.instances.now) in
    answer_refused (backend g c.args.config.now) _ (numbers g) drawn.0 drawn.1 _ _ drawn.2 drawn.4 _ _ _ count c.from_residual.ensures.1 c.in_err-ldes.ensures.verdict

pub returns-clause-verdict : goal.returns-clause-verdict
unfolding backend
returns-clause-verdict g c =
    let drawn = c.requires.drawn in
    let count = sym (many g.A.BaseAir.declaration g.A.Air.trees c.args.instances.now) in
    answer_granted (backend g c.args.config.now) _ (numbers g) drawn.0 drawn.1 _ _ drawn.2 drawn.4 _ c.in_ok-ldes.ldes.items c.committed.result count c.in_ok-ldes.ensures.verdict
    (extend_all (backend g c.args.config.now) _ (numbers g) drawn.0 drawn.1 _ _ drawn.2 drawn.4 _ c.in_ok-ldes.ldes.items count c.in_ok-ldes.ensures.extensions) c.committed.ensures.verdict

pub returns-clause-committed : goal.returns-clause-committed
unfolding backend
returns-clause-committed g c =
    let drawn = c.requires.drawn in
    let count = sym (many g.A.BaseAir.declaration g.A.Air.trees c.args.instances.now) in
    follows c.committed.result _ _ c.committed.ensures.committed (λ x h v G.
    commitment_on _ _ _ _ _ _ _ g.met.SC.Pcs.CosetPcs.coset_points g.met.SC.Pcs.CosetPcs.coset_point _ x
    (h _ (extend_all (backend g c.args.config.now) _ (numbers g) drawn.0 drawn.1 _ _ drawn.2 drawn.4 _ c.in_ok-ldes.ldes.items count c.in_ok-ldes.ensures.extensions v G)))
