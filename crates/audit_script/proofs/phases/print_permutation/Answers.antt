use Rattle.std.proofs.Common.{ℕ, List, [], ◌∷◌, ◌++◌, map}
use Rattle.std.specs.Option.{option_copied}
use Rattle.p3_challenger.specs.Script.{ChallengerOf, Played, NoValue, Extended}
use Rattle.batch_transcript.specs.BatchScript.{constraint_challenge_step, lookup_terminal_step, permutation_commitment_step, permutation_script, sealed, with_value}
use Rattle.audit_script.specs.Laws.Steps.{printed-chain, printed-one}
use Rattle.audit_script.proofs.phases.print_permutation.Goals as goal

pub returns : goal.returns
unfolding permutation_script
returns g c =
    let functions : ChallengerOf g.row.C.Denot g.row.F.Denot g.row.EF.Denot g.row.Com.Denot = record {
      observe = g.C.CanObserve-1.observed;
      observe_extension = g.C.CanObserve-2.observed;
      observe_opaque = g.C.CanObserve-3.observed;
      draw = g.C.CanSample-2.drawn;
      after_draw = g.C.CanSample-2.after_draw;
      draw_bits = g.C.CanSampleBits.bits_drawn;
      after_bits = g.C.CanSampleBits.after_bits;
    } in
    let numbers : g.row.EF.Denot → List ℕ = λ x. map g.F.PrimeCore64.canonical (g.EF.BasedVectorSpace.coefficients x) in
    let d = g.EF.BasedVectorSpace.DIMENSION in
    let first : List (Played g.row.F.Denot g.row.EF.Denot g.row.Com.Denot) = sealed permutation_commitment_step (option_copied c.args.commitment) in
    let second : List (Played g.row.F.Denot g.row.EF.Denot g.row.Com.Denot) = map (λ t. with_value (lookup_terminal_step d) (Extended t)) c.args.terminals.now in
    let last : Played g.row.F.Denot g.row.EF.Denot g.row.Com.Denot = with_value (constraint_challenge_step d) NoValue in
    printed-chain functions numbers (first ++ second) (last ∷ []) c.args.steps.now c.print_terminals.new.steps c.challenge.new.self
    (printed-chain functions numbers first second c.args.steps.now c.print_commitment.new.steps c.print_terminals.new.steps c.in_ok-print_commitment.ensures c.in_ok-print_terminals.ensures)
    (printed-one functions numbers last c.print_terminals.new.steps c.challenge.new.self c.in_ok-challenge.ensures)
