use Rattle.std.proofs.Common.{◌≡◌, ℕ, List, [], ◌∷◌, map, ap, sym, ◌∙◌}
use Rattle.p3_challenger.specs.Script.{ChallengerOf, Played, NoValue}
use Rattle.audit_script.specs.Steps.{printed}
use Rattle.std.proofs.Common.{Some}
use Rattle.p3_challenger.specs.Script.{Elements}
use Rattle.batch_transcript.specs.BatchScript.{ground, lookup_alpha_step, lookup_beta_step, lookup_pow_step, pair_script, with_value}
use Rattle.audit_script.specs.Laws.Steps.{pair_script_cases, printed-chain, printed-one, printed-pow}
use Rattle.audit_script.proofs.phases.print_pair.Goals as goal

pub returns : goal.returns
returns g c =
    let functions : ChallengerOf g.row.C.Denot g.row.F.Denot g.row.EF.Denot g.row.Com.Denot = record {
      observe = g.C.CanObserve-1.observed;
      observe_extension = g.C.CanObserve-2.observed;
      observe_opaque = g.C.CanObserve-3.observed;
      draw = g.C.CanSample-2.drawn;
      after_draw = g.C.CanSample-2.after_draw;
      draw_bits = g.C.CanSampleBits.bits_drawn;
      after_bits = g.C.CanSampleBits.after_bits;
    } in
    let numbers : g.row.EF.Denot → List ℕ = λ x. map g.F.PrimeCore64.canonical (g.EF.BasedVectorSpace.coefficients x) in
    let d = g.EF.BasedVectorSpace.DIMENSION in
    let bits = c.args.bits in
    let w = c.in-Some.value in
    let x0 = c.args.steps.now in
    let x1 = c.pow.new.self in
    let x2 = c.challenge.new.self in
    let x3 = c.challenge-2.new.self in
    let first : Played g.row.F.Denot g.row.EF.Denot g.row.Com.Denot = with_value (lookup_pow_step bits) (Elements (w ∷ [])) in
    let second : Played g.row.F.Denot g.row.EF.Denot g.row.Com.Denot = with_value (lookup_alpha_step d) NoValue in
    let third : Played g.row.F.Denot g.row.EF.Denot g.row.Com.Denot = with_value (lookup_beta_step d) NoValue in
    let is = c.in-Some.is in
    let there : c.args.witness ≡ Some w = cc in
    let whole : pair_script d c.args.tables bits c.args.witness ≡ first ∷ second ∷ third ∷ [] =
    pair_script_cases d c.args.tables bits c.args.witness c.if-tables-eq0.false ∙ ap (λ o. with_value (lookup_pow_step bits) (ground o) ∷ second ∷ third ∷ []) there in
    printed-chain functions numbers (first ∷ second ∷ []) (third ∷ []) x0 x2 x3
    (printed-chain functions numbers (first ∷ []) (second ∷ []) x0 x1 x2
    (printed-pow functions numbers bits w c.in_ok-pow.field-0 x0 x1 c.in_ok-pow.ensures.answer c.in_ok-pow.ensures.state)
    (printed-one functions numbers second x1 x2 c.in_ok-challenge.ensures))
    (printed-one functions numbers third x2 x3 c.in_ok-challenge-2.ensures)
    ∙ ap (printed functions numbers x0) (sym whole)
