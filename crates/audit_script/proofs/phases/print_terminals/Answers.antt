use Rattle.std.proofs.Common.{ℕ, List, [], map, codes, ap, ◌∙◌, arith}
use Rattle.p3_challenger.specs.Script.{ChallengerOf, Played, Extended}
use Rattle.batch_transcript.specs.BatchScript.{lookup_terminal_step, with_value}
use Rattle.audit_script.specs.Steps.{with_line}
use Rattle.audit_script.specs.Laws.Steps.{printed-more}
use Rattle.audit_script.proofs.phases.print_terminals.Goals as goal

pub loop-terminal-preserved : goal.loop-terminal-preserved
loop-terminal-preserved g c =
    let functions : ChallengerOf g.row.C.Denot g.row.F.Denot g.row.EF.Denot g.row.Com.Denot = record {
      observe = g.C.CanObserve-1.observed;
      observe_extension = g.C.CanObserve-2.observed;
      observe_opaque = g.C.CanObserve-3.observed;
      draw = g.C.CanSample-2.drawn;
      after_draw = g.C.CanSample-2.after_draw;
      draw_bits = g.C.CanSampleBits.bits_drawn;
      after_bits = g.C.CanSampleBits.after_bits;
    } in
    let numbers : g.row.EF.Denot → List ℕ = λ x. map g.F.PrimeCore64.canonical (g.EF.BasedVectorSpace.coefficients x) in
    let d = g.EF.BasedVectorSpace.DIMENSION in
    let f : g.row.EF.Denot → Played g.row.F.Denot g.row.EF.Denot g.row.Com.Denot = λ t. with_value (lookup_terminal_step d) (Extended t) in
    printed-more functions numbers f c.args.terminals.now c.terminal-item.result c.loop-terminal.terminal-index c.args.steps.now c.loop-terminal.steps c.message.new.self (omega arith) c.loop-terminal.invariant
    (c.in_ok-message.ensures ∙ ap (λ v. with_line c.loop-terminal.steps (codes "lookup_terminal") [] (g.C.CanObserve-2.observed c.loop-terminal.steps.state v)) c.terminal-item.is)
