use Rattle.std.proofs.Common.{map, sym, ◌∙◌, ap}
use Rattle.std.specs.Prelude.{option_map}
use Rattle.p3_field.specs.Laws.Checks.{none_append}
use Rattle.law_honest.specs.HonestProof.{AreCanonical}
use Rattle.prover_answer.specs.Laws.Verdicts.{answer_before, answer_exits}
use Rattle.prover_batch.specs.Laws.Drawing.{after_quotient, after_zeta, zeta_is}
use Rattle.prover_batch.specs.Laws.Stage.{kept_part, ood_ground, ood_passes, ood_refused_past}
use Rattle.prover_batch.proofs.quotients.quotient_stage.Goals as goal

pub commit_quotients-requires-clause-drawn : goal.commit_quotients-requires-clause-drawn
commit_quotients-requires-clause-drawn g c = (
  c.args.lookups.now.witness,
  c.requires.witness,
  ap (map (λ v. v.items)) c.deref.ensures.value ∙ c.requires.challenges,
  ap (map (option_map (λ t. t.0))) c.deref-2.ensures.value ∙ c.requires.terminals,
  c.requires.alpha,
  kept_part _ _ _ _ _ _ _ c.args.lookups.now.permutation _ (sym c.data_of.ensures) c.requires.permutation,
)

pub returns-in_err-commitment-clause-verdict : goal.returns-in_err-commitment-clause-verdict
returns-in_err-commitment-clause-verdict g c =
    answer_exits _ _ _ c.from_residual.ensures.1 (answer_before _ _ _ c.in_err-commitment.ensures.verdict)

pub bind_quotient-requires-clause-count : goal.bind_quotient-requires-clause-count
bind_quotient-requires-clause-count g c = sym (ap (λ z. z.has_randomization_commitment) c.requires.shape ∙ c.requires.plain)

pub returns-in-Ok-clause-verdict : goal.returns-in-Ok-clause-verdict
returns-in-Ok-clause-verdict g c =
    let K : AreCanonical g.SC.Val.RingCore.ring g.SC.Val.PrimeCore64.ORDER_U64 g.SC.Val.PrimeCore64.canonical = record { ones = g.met.SC.Val.PrimeCore64.of_canonical; below = g.met.SC.Val.PrimeCore64.canonical_below } in
    let w = c.args.lookups.now.witness in
    let is = g.SC-Pcs-UnivariateStarkPcs-met.one_commitment (g.SC.StarkGenericConfig.pcs_of c.args.config.now) _ _ c.requires.plain (c.in_ok-commitment.ensures.committed w c.requires.witness).commitment_is in
    let here = after_quotient _ _ _ _ _ w _ c.args.transcript.now c.bind_quotient.new.transcript is c.bind_quotient.ensures.plays c.requires.state in
    let same = c.bind_quotient.ensures.plays.shape ∙ c.requires.shape in
    none_append _ _ c.in_ok-commitment.ensures.verdict (ood_passes _ _ _ _ _ K _ c.bind_quotient.new.transcript w c.in-Ok.drawn.1 here same c.requires.witness c.in-Ok.ensures.ground)

pub returns-in-Ok-clause-committed : goal.returns-in-Ok-clause-committed
returns-in-Ok-clause-committed g c = c.in_ok-commitment.ensures.committed c.args.lookups.now.witness c.requires.witness

pub returns-in-Ok-clause-commitment : goal.returns-in-Ok-clause-commitment
returns-in-Ok-clause-commitment g c =
    let w = c.args.lookups.now.witness in
    let is = g.SC-Pcs-UnivariateStarkPcs-met.one_commitment (g.SC.StarkGenericConfig.pcs_of c.args.config.now) _ _ c.requires.plain (c.in_ok-commitment.ensures.committed w c.requires.witness).commitment_is in
    is

pub returns-in-Ok-clause-witness : goal.returns-in-Ok-clause-witness
returns-in-Ok-clause-witness g c =
    let K : AreCanonical g.SC.Val.RingCore.ring g.SC.Val.PrimeCore64.ORDER_U64 g.SC.Val.PrimeCore64.canonical = record { ones = g.met.SC.Val.PrimeCore64.of_canonical; below = g.met.SC.Val.PrimeCore64.canonical_below } in
    let w = c.args.lookups.now.witness in
    let is = g.SC-Pcs-UnivariateStarkPcs-met.one_commitment (g.SC.StarkGenericConfig.pcs_of c.args.config.now) _ _ c.requires.plain (c.in_ok-commitment.ensures.committed w c.requires.witness).commitment_is in
    let here = after_quotient _ _ _ _ _ w _ c.args.transcript.now c.bind_quotient.new.transcript is c.bind_quotient.ensures.plays c.requires.state in
    let same = c.bind_quotient.ensures.plays.shape ∙ c.requires.shape in
    (c.requires.witness, ood_ground _ _ _ _ _ K c.bind_quotient.new.transcript w c.in-Ok.drawn.1 here same c.in-Ok.ensures.ground)

pub returns-in-Ok-clause-zeta : goal.returns-in-Ok-clause-zeta
returns-in-Ok-clause-zeta g c =
    let w = c.args.lookups.now.witness in
    let is = g.SC-Pcs-UnivariateStarkPcs-met.one_commitment (g.SC.StarkGenericConfig.pcs_of c.args.config.now) _ _ c.requires.plain (c.in_ok-commitment.ensures.committed w c.requires.witness).commitment_is in
    let here = after_quotient _ _ _ _ _ w _ c.args.transcript.now c.bind_quotient.new.transcript is c.bind_quotient.ensures.plays c.requires.state in
    let same = c.bind_quotient.ensures.plays.shape ∙ c.requires.shape in
    zeta_is _ _ _ _ _ w c.in-Ok.drawn.1 c.bind_quotient.new.transcript c.ood_phase.new.self _ c.in-Ok.ensures.plays here same

pub returns-in-Ok-clause-state : goal.returns-in-Ok-clause-state
returns-in-Ok-clause-state g c =
    let w = c.args.lookups.now.witness in
    let is = g.SC-Pcs-UnivariateStarkPcs-met.one_commitment (g.SC.StarkGenericConfig.pcs_of c.args.config.now) _ _ c.requires.plain (c.in_ok-commitment.ensures.committed w c.requires.witness).commitment_is in
    let here = after_quotient _ _ _ _ _ w _ c.args.transcript.now c.bind_quotient.new.transcript is c.bind_quotient.ensures.plays c.requires.state in
    let same = c.bind_quotient.ensures.plays.shape ∙ c.requires.shape in
    after_zeta _ _ _ _ _ w c.in-Ok.drawn.1 c.bind_quotient.new.transcript c.ood_phase.new.self _ c.in-Ok.ensures.plays here same

pub returns-in-Err-clause-verdict : goal.returns-in-Err-clause-verdict
returns-in-Err-clause-verdict g c =
    let K : AreCanonical g.SC.Val.RingCore.ring g.SC.Val.PrimeCore64.ORDER_U64 g.SC.Val.PrimeCore64.canonical = record { ones = g.met.SC.Val.PrimeCore64.of_canonical; below = g.met.SC.Val.PrimeCore64.canonical_below } in
    let w = c.args.lookups.now.witness in
    let is = g.SC-Pcs-UnivariateStarkPcs-met.one_commitment (g.SC.StarkGenericConfig.pcs_of c.args.config.now) _ _ c.requires.plain (c.in_ok-commitment.ensures.committed w c.requires.witness).commitment_is in
    let here = after_quotient _ _ _ _ _ w _ c.args.transcript.now c.bind_quotient.new.transcript is c.bind_quotient.ensures.plays c.requires.state in
    let same = c.bind_quotient.ensures.plays.shape ∙ c.requires.shape in
    ood_refused_past _ _ _ _ _ K _ _ c.bind_quotient.new.transcript w c.in_ok-commitment.ensures.verdict here same c.requires.witness c.requires.fractions c.in-Err.ensures.ground.1
