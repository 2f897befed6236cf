use Rattle.std.proofs.Common.{ℕ, List, [], ◌∷◌, map}
use Rattle.std.specs.Option.{option_copied}
use Rattle.p3_challenger.specs.Script.{ChallengerOf, Played, Sealed}
use Rattle.batch_transcript.specs.BatchScript.{quotient_commitment_step, quotient_script, randomization_commitment_step, sealed, with_value}
use Rattle.audit_script.specs.Laws.Steps.{printed-chain, printed-one}
use Rattle.audit_script.proofs.phases.print_quotient.Goals as goal

pub returns : goal.returns
unfolding quotient_script
returns g c =
    let functions : ChallengerOf g.row.C.Denot g.row.F.Denot g.row.EF.Denot g.row.Com.Denot = record {
      observe = g.C.CanObserve-1.observed;
      observe_extension = g.C.CanObserve-2.observed;
      observe_opaque = g.C.CanObserve-3.observed;
      draw = g.C.CanSample-2.drawn;
      after_draw = g.C.CanSample-2.after_draw;
      draw_bits = g.C.CanSampleBits.bits_drawn;
      after_bits = g.C.CanSampleBits.after_bits;
    } in
    let numbers : g.row.EF.Denot → List ℕ = λ x. map g.F.PrimeCore64.canonical (g.EF.BasedVectorSpace.coefficients x) in
    let d = g.EF.BasedVectorSpace.DIMENSION in
    let first : Played g.row.F.Denot g.row.EF.Denot g.row.Com.Denot = with_value quotient_commitment_step (Sealed c.args.quotient.now) in
    let second : List (Played g.row.F.Denot g.row.EF.Denot g.row.Com.Denot) = sealed randomization_commitment_step (option_copied c.args.randomization) in
    printed-chain functions numbers (first ∷ []) second c.args.steps.now c.message.new.self c.print_commitment.new.steps
    (printed-one functions numbers first c.args.steps.now c.message.new.self c.in_ok-message.ensures) c.in_ok-print_commitment.ensures
