use Rattle.std.proofs.Common.{ℕ, List, map, ap, ◌∙◌}
use Rattle.std.specs.Option.{option_copied}
use Rattle.p3_challenger.specs.Script.{ChallengerOf}
use Rattle.batch_transcript.specs.BatchScript.{Given, draws_of}
use Rattle.batch_transcript.specs.Running.{lists}
use Rattle.audit_script.specs.Laws.Steps.{folded-draws, folded-text}
use Rattle.audit_script.proofs.script.fold_script.Goals as goal

pub returns-clause-text : goal.returns-clause-text
returns-clause-text g c =
    let functions : ChallengerOf g.row.C.Denot g.row.F.Denot g.row.EF.Denot g.row.Com.Denot = record {
      observe = g.C.CanObserve-1.observed;
      observe_extension = g.C.CanObserve-2.observed;
      observe_opaque = g.C.CanObserve-3.observed;
      draw = g.C.CanSample-2.drawn;
      after_draw = g.C.CanSample-2.after_draw;
      draw_bits = g.C.CanSampleBits.bits_drawn;
      after_bits = g.C.CanSampleBits.after_bits;
    } in
    let numbers : g.row.EF.Denot → List ℕ = λ x. map g.F.PrimeCore64.canonical (g.EF.BasedVectorSpace.coefficients x) in
    let d = g.EF.BasedVectorSpace.DIMENSION in
    let r = g.EF.RingCore.ring in
    let a = c.args in
    let v : Given g.row.F.Denot g.row.EF.Denot g.row.Com.Denot = record {
      degree_bits = a.degree_bits.now;
      main = a.main.now;
      publics = lists a.public_values.now;
      preprocessed = option_copied a.preprocessed;
      lookup_witness = a.lookup_witness;
      permutation = option_copied a.permutation;
      terminals = a.terminals.now;
      quotient = a.quotient.now;
      randomization = option_copied a.randomization;
      ood_witness = a.ood_witness;
    } in
    let e = c.steps.view_is ∙ c.in_ok-steps.ensures in
    ap (λ t. t.text) e ∙ folded-text functions numbers g.F.RingCore.ring r d a.challenger a.shape.now v

pub returns-clause-draws : goal.returns-clause-draws
returns-clause-draws g c =
    let functions : ChallengerOf g.row.C.Denot g.row.F.Denot g.row.EF.Denot g.row.Com.Denot = record {
      observe = g.C.CanObserve-1.observed;
      observe_extension = g.C.CanObserve-2.observed;
      observe_opaque = g.C.CanObserve-3.observed;
      draw = g.C.CanSample-2.drawn;
      after_draw = g.C.CanSample-2.after_draw;
      draw_bits = g.C.CanSampleBits.bits_drawn;
      after_bits = g.C.CanSampleBits.after_bits;
    } in
    let numbers : g.row.EF.Denot → List ℕ = λ x. map g.F.PrimeCore64.canonical (g.EF.BasedVectorSpace.coefficients x) in
    let d = g.EF.BasedVectorSpace.DIMENSION in
    let r = g.EF.RingCore.ring in
    let a = c.args in
    let v : Given g.row.F.Denot g.row.EF.Denot g.row.Com.Denot = record {
      degree_bits = a.degree_bits.now;
      main = a.main.now;
      publics = lists a.public_values.now;
      preprocessed = option_copied a.preprocessed;
      lookup_witness = a.lookup_witness;
      permutation = option_copied a.permutation;
      terminals = a.terminals.now;
      quotient = a.quotient.now;
      randomization = option_copied a.randomization;
      ood_witness = a.ood_witness;
    } in
    let e = c.steps.view_is ∙ c.in_ok-steps.ensures in
    let challenges = c.deref.ensures.value ∙ ap (λ t. t.challenges) e in
    let passed = c.deref-2.ensures.value ∙ ap (λ t. t.passed) e in
    c.read_draws-draws.ensures
    ∙ (λ i. draws_of r (ap (λ z. z.num_lookup_instances) c.shape.view_is i) (record { state = ap (λ t. t.state) e i; challenges = challenges i; passed = passed i }))
    ∙ folded-draws functions numbers g.F.RingCore.ring r d a.challenger a.shape.now v
