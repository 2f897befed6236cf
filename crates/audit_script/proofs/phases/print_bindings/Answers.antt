use Rattle.std.proofs.Common.{ℕ, List, [], map, codes, ap, ◌∙◌, arith}
use Rattle.p3_field.specs.Ring.{of_nat}
use Rattle.p3_challenger.specs.Script.{ChallengerOf, Played, Extended}
use Rattle.batch_transcript.specs.BatchScript.{degree_bits_step, with_value}
use Rattle.audit_script.specs.Steps.{with_line}
use Rattle.audit_script.specs.Laws.Steps.{printed-more}
use Rattle.audit_script.proofs.phases.print_bindings.Goals as goal

pub loop-bits-preserved : goal.loop-bits-preserved
loop-bits-preserved g c =
    let functions : ChallengerOf g.row.C.Denot g.row.F.Denot g.row.EF.Denot g.row.Com.Denot = record {
      observe = g.C.CanObserve-1.observed;
      observe_extension = g.C.CanObserve-2.observed;
      observe_opaque = g.C.CanObserve-3.observed;
      draw = g.C.CanSample-2.drawn;
      after_draw = g.C.CanSample-2.after_draw;
      draw_bits = g.C.CanSampleBits.bits_drawn;
      after_bits = g.C.CanSampleBits.after_bits;
    } in
    let numbers : g.row.EF.Denot → List ℕ = λ x. map g.F.PrimeCore64.canonical (g.EF.BasedVectorSpace.coefficients x) in
    let d = g.EF.BasedVectorSpace.DIMENSION in
    let f : ℕ → Played g.row.F.Denot g.row.EF.Denot g.row.Com.Denot = λ n. with_value (degree_bits_step d) (Extended (of_nat g.EF.RingCore.ring n)) in
    printed-more functions numbers f c.args.degree_bits.now 0 c.loop-bits.bits-index c.args.steps.now c.loop-bits.steps c.message.new.self (omega arith) c.loop-bits.invariant
    (c.in_ok-message.ensures ∙ ap (λ v. with_line c.loop-bits.steps (codes "degree_bits") [] (g.C.CanObserve-2.observed c.loop-bits.steps.state v)) c.from_u64.ensures)
