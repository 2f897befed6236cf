use Rattle.std.proofs.Common.{◌≡◌, ℕ, List, [], map, take, length, codes}
use Rattle.p3_challenger.specs.Script.{ChallengerOf, Elements}
use Rattle.batch_transcript.specs.BatchScript.{public_values_step, with_value}
use Rattle.audit_script.specs.Steps.{Printing, printed, with_line}
use Rattle.audit_script.proofs.phases.print_main.Given as goal

abbrev pub invariant-loop-values : goal.invariant-loop-values
invariant-loop-values g l =
    let functions : ChallengerOf g.row.C.Denot g.row.F.Denot g.row.EF.Denot g.row.Com.Denot = record {
      observe = g.C.CanObserve-1.observed;
      observe_extension = g.C.CanObserve-2.observed;
      observe_opaque = g.C.CanObserve-3.observed;
      draw = g.C.CanSample-2.drawn;
      after_draw = g.C.CanSample-2.after_draw;
      draw_bits = g.C.CanSampleBits.bits_drawn;
      after_bits = g.C.CanSampleBits.after_bits;
    } in
    let numbers : g.row.EF.Denot → List ℕ = λ x. map g.F.PrimeCore64.canonical (g.EF.BasedVectorSpace.coefficients x) in
    let d = g.EF.BasedVectorSpace.DIMENSION in
    let start : Printing g.row.C.Denot g.row.EF.Denot → g.row.Com.Denot → Printing g.row.C.Denot g.row.EF.Denot = λ t m. with_line t (codes "main_commitment") [] (g.C.CanObserve-3.observed t.state m) in
    l.steps ≡ printed functions numbers (start l.fn.steps l.fn.main) (map (λ v. with_value (public_values_step (length v.items)) (Elements v.items)) (take l.values-index l.public_values))
