use Rattle.std.proofs.Common.{ℕ, List, map, ap, ◌∙◌}
use Rattle.std.specs.Option.{option_copied}
use Rattle.p3_challenger.specs.Script.{ChallengerOf}
use Rattle.batch_transcript.specs.Running.{lists}
use Rattle.audit_script.specs.Steps.{printed}
use Rattle.batch_transcript.specs.BatchScript.{BatchShapeData, Given, ood_script, pair_script, script}
use Rattle.audit_script.specs.Laws.Steps.{printed-script}
use Rattle.audit_script.proofs.script.print_script.Goals as goal

pub returns : goal.returns
returns g c =
    let functions : ChallengerOf g.row.C.Denot g.row.F.Denot g.row.EF.Denot g.row.Com.Denot = record {
      observe = g.C.CanObserve-1.observed;
      observe_extension = g.C.CanObserve-2.observed;
      observe_opaque = g.C.CanObserve-3.observed;
      draw = g.C.CanSample-2.drawn;
      after_draw = g.C.CanSample-2.after_draw;
      draw_bits = g.C.CanSampleBits.bits_drawn;
      after_bits = g.C.CanSampleBits.after_bits;
    } in
    let numbers : g.row.EF.Denot → List ℕ = λ x. map g.F.PrimeCore64.canonical (g.EF.BasedVectorSpace.coefficients x) in
    let d = g.EF.BasedVectorSpace.DIMENSION in
    let r = g.EF.RingCore.ring in
    let a = c.args in
    let v : Given g.row.F.Denot g.row.EF.Denot g.row.Com.Denot = record {
      degree_bits = a.degree_bits.now;
      main = a.main.now;
      publics = lists a.public_values.now;
      preprocessed = option_copied a.preprocessed;
      lookup_witness = a.lookup_witness;
      permutation = option_copied a.permutation;
      terminals = a.terminals.now;
      quotient = a.quotient.now;
      randomization = option_copied a.randomization;
      ood_witness = a.ood_witness;
    } in
    printed-script functions numbers r d a.shape.now v c.in_ok-steps.steps _ _ _ _ _ _ _ _
    c.in_ok-print_bindings.ensures c.in_ok-print_main.ensures c.in_ok-print_commitment.ensures (c.in_ok-print_pair.ensures ∙ ap (λ (s : BatchShapeData). printed functions numbers c.print_commitment.new.steps (pair_script d s.num_lookup_instances s.lookup_pow_bits a.lookup_witness)) c.shape.view_is)
    c.in_ok-print_permutation.ensures c.in_ok-print_quotient.ensures
    (c.in_ok-print_ood.ensures ∙ ap (λ (s : BatchShapeData). printed functions numbers c.print_quotient.new.steps (ood_script d s.ood_pow_bits a.ood_witness)) c.shape.view_is)
    c.in_ok-print_opening.ensures
    ∙ ap (λ z. printed functions numbers z (script r d a.shape.now v)) c.in_ok-steps.ensures
