use Rattle.std.proofs.Common.{◌≡◌, ℕ, List, map, take}
use Rattle.p3_field.specs.Ring.{of_nat}
use Rattle.p3_challenger.specs.Script.{ChallengerOf, Played, Extended}
use Rattle.batch_transcript.specs.BatchScript.{degree_bits_step, with_value}
use Rattle.audit_script.specs.Steps.{printed}
use Rattle.audit_script.proofs.phases.print_bindings.Given as goal

abbrev pub invariant-loop-bits : goal.invariant-loop-bits
invariant-loop-bits g l =
    let functions : ChallengerOf g.row.C.Denot g.row.F.Denot g.row.EF.Denot g.row.Com.Denot = record {
      observe = g.C.CanObserve-1.observed;
      observe_extension = g.C.CanObserve-2.observed;
      observe_opaque = g.C.CanObserve-3.observed;
      draw = g.C.CanSample-2.drawn;
      after_draw = g.C.CanSample-2.after_draw;
      draw_bits = g.C.CanSampleBits.bits_drawn;
      after_bits = g.C.CanSampleBits.after_bits;
    } in
    let numbers : g.row.EF.Denot → List ℕ = λ x. map g.F.PrimeCore64.canonical (g.EF.BasedVectorSpace.coefficients x) in
    let d = g.EF.BasedVectorSpace.DIMENSION in
    let f : ℕ → Played g.row.F.Denot g.row.EF.Denot g.row.Com.Denot = λ n. with_value (degree_bits_step d) (Extended (of_nat g.EF.RingCore.ring n)) in
    l.steps ≡ printed functions numbers l.fn.steps (map f (take l.bits-index l.degree_bits))
