use Rattle.std.proofs.Common.{◌≡◌, ℕ, List, [], map, ap, ◌∙◌}
use Rattle.std.specs.List.{filter_map}
use Rattle.std.specs.Option.{option_copied}
use Rattle.p3_challenger.specs.Script.{ChallengerOf}
use Rattle.batch_transcript.specs.BatchScript.{Given, draws}
use Rattle.batch_statement.specs.Statement.{statement_with}
use Rattle.verifier_draws.specs.Draws.{given_of}
use Rattle.audit_script.specs.Steps.{script_text}
use Rattle.audit_batch.proofs.script.fold_proof.Goals as goal

pub returns-clause-text : goal.returns-clause-text
returns-clause-text g c =
    let functions : ChallengerOf g.row.C.Denot g.row.F.Denot g.row.EF.Denot g.row.Com.Denot = record {
      observe = g.C.CanObserve-1.observed;
      observe_extension = g.C.CanObserve-2.observed;
      observe_opaque = g.C.CanObserve-3.observed;
      draw = g.C.CanSample-2.drawn;
      after_draw = g.C.CanSample-2.after_draw;
      draw_bits = g.C.CanSampleBits.bits_drawn;
      after_bits = g.C.CanSampleBits.after_bits;
    } in
    let a = c.args in
    let q = c.proof.inside in
    let s = statement_with {F = g.row.F.Denot} [] (map (λ v. v.items) a.public_values.now) a.common.now in
    let v : Given g.row.F.Denot g.row.EF.Denot g.row.Com.Denot = record {
      degree_bits = c.deref.result.now;
      main = q.commitments.main;
      publics = s.publics;
      preprocessed = option_copied c.preprocessed_commitment.result;
      lookup_witness = q.lookup_pow_witness;
      permutation = option_copied c.as_ref.result;
      terminals = c.deref-2.result.now;
      quotient = q.commitments.quotient_chunks;
      randomization = option_copied c.as_ref-2.result;
      ood_witness = q.ood_pow_witness;
    } in
    let degree_bits = c.deref.ensures.value ∙ ap (λ x. x.degree_bits) c.proof.view_is in
    let permutation = c.as_ref.ensures.value ∙ ap (λ x. x.commitments.permutation) c.proof.view_is in
    let terminals = c.deref-2.ensures.value ∙ c.in_ok-terminals.ensures ∙ ap (filter_map (λ t. t)) c.terminals.ensures in
    let randomization = c.as_ref-2.ensures.value ∙ ap (λ x. x.commitments.random) c.proof.view_is in
    let given : v ≡ given_of s a.proof.now = λ i. record {
      degree_bits = degree_bits i;
      main = ap (λ x. x.commitments.main) c.proof.view_is i;
      publics = s.publics;
      preprocessed = c.preprocessed_commitment.ensures.value i;
      lookup_witness = ap (λ x. x.lookup_pow_witness) c.proof.view_is i;
      permutation = permutation i;
      terminals = terminals i;
      quotient = ap (λ x. x.commitments.quotient_chunks) c.proof.view_is i;
      randomization = randomization i;
      ood_witness = ap (λ x. x.ood_pow_witness) c.proof.view_is i;
    } in
    let f = g.F.RingCore.ring in
    let r = g.EF.RingCore.ring in
    let d = g.EF.BasedVectorSpace.DIMENSION in
    let numbers : g.row.EF.Denot → List ℕ = λ x. map g.F.PrimeCore64.canonical (g.EF.BasedVectorSpace.coefficients x) in
    c.in_ok-folded.ensures.text ∙ ap (script_text functions numbers f r d a.challenger a.shape.now) given

pub returns-clause-draws : goal.returns-clause-draws
returns-clause-draws g c =
    let functions : ChallengerOf g.row.C.Denot g.row.F.Denot g.row.EF.Denot g.row.Com.Denot = record {
      observe = g.C.CanObserve-1.observed;
      observe_extension = g.C.CanObserve-2.observed;
      observe_opaque = g.C.CanObserve-3.observed;
      draw = g.C.CanSample-2.drawn;
      after_draw = g.C.CanSample-2.after_draw;
      draw_bits = g.C.CanSampleBits.bits_drawn;
      after_bits = g.C.CanSampleBits.after_bits;
    } in
    let a = c.args in
    let q = c.proof.inside in
    let s = statement_with {F = g.row.F.Denot} [] (map (λ v. v.items) a.public_values.now) a.common.now in
    let v : Given g.row.F.Denot g.row.EF.Denot g.row.Com.Denot = record {
      degree_bits = c.deref.result.now;
      main = q.commitments.main;
      publics = s.publics;
      preprocessed = option_copied c.preprocessed_commitment.result;
      lookup_witness = q.lookup_pow_witness;
      permutation = option_copied c.as_ref.result;
      terminals = c.deref-2.result.now;
      quotient = q.commitments.quotient_chunks;
      randomization = option_copied c.as_ref-2.result;
      ood_witness = q.ood_pow_witness;
    } in
    let degree_bits = c.deref.ensures.value ∙ ap (λ x. x.degree_bits) c.proof.view_is in
    let permutation = c.as_ref.ensures.value ∙ ap (λ x. x.commitments.permutation) c.proof.view_is in
    let terminals = c.deref-2.ensures.value ∙ c.in_ok-terminals.ensures ∙ ap (filter_map (λ t. t)) c.terminals.ensures in
    let randomization = c.as_ref-2.ensures.value ∙ ap (λ x. x.commitments.random) c.proof.view_is in
    let given : v ≡ given_of s a.proof.now = λ i. record {
      degree_bits = degree_bits i;
      main = ap (λ x. x.commitments.main) c.proof.view_is i;
      publics = s.publics;
      preprocessed = c.preprocessed_commitment.ensures.value i;
      lookup_witness = ap (λ x. x.lookup_pow_witness) c.proof.view_is i;
      permutation = permutation i;
      terminals = terminals i;
      quotient = ap (λ x. x.commitments.quotient_chunks) c.proof.view_is i;
      randomization = randomization i;
      ood_witness = ap (λ x. x.ood_pow_witness) c.proof.view_is i;
    } in
    let f = g.F.RingCore.ring in
    let r = g.EF.RingCore.ring in
    let d = g.EF.BasedVectorSpace.DIMENSION in
    c.in_ok-folded.ensures.draws ∙ ap (draws functions f r d a.challenger a.shape.now) given
