use Rattle.std.proofs.Common.{◌≡◌, ℕ, List, map, take}
use Rattle.p3_challenger.specs.Script.{ChallengerOf, Played, Extended}
use Rattle.batch_transcript.specs.BatchScript.{lookup_terminal_step, with_value}
use Rattle.audit_script.specs.Steps.{printed}
use Rattle.audit_script.proofs.phases.print_terminals.Given as goal

abbrev pub invariant-loop-terminal : goal.invariant-loop-terminal
invariant-loop-terminal g l =
    let functions : ChallengerOf g.row.C.Denot g.row.F.Denot g.row.EF.Denot g.row.Com.Denot = record {
      observe = g.C.CanObserve-1.observed;
      observe_extension = g.C.CanObserve-2.observed;
      observe_opaque = g.C.CanObserve-3.observed;
      draw = g.C.CanSample-2.drawn;
      after_draw = g.C.CanSample-2.after_draw;
      draw_bits = g.C.CanSampleBits.bits_drawn;
      after_bits = g.C.CanSampleBits.after_bits;
    } in
    let numbers : g.row.EF.Denot → List ℕ = λ x. map g.F.PrimeCore64.canonical (g.EF.BasedVectorSpace.coefficients x) in
    let d = g.EF.BasedVectorSpace.DIMENSION in
    let f : g.row.EF.Denot → Played g.row.F.Denot g.row.EF.Denot g.row.Com.Denot = λ t. with_value (lookup_terminal_step d) (Extended t) in
    l.steps ≡ printed functions numbers l.fn.steps (map f (take l.terminal-index l.terminals))
