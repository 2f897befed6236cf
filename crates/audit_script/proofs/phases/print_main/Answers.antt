use Rattle.std.proofs.Common.{◌≡◌, ℕ, List, [], map, length, codes, ap, sym, subst, ◌∙◌, arith}
use Rattle.std.specs.List.{fold}
use Rattle.std.proofs.lemmas.List.{take_all}
use Rattle.std.proofs.lemmas.Simd.{map-map}
use Rattle.p3_challenger.specs.Script.{ChallengerOf, Elements}
use Rattle.batch_transcript.specs.BatchScript.{main_script, public_values_step, with_value}
use Rattle.audit_script.specs.Steps.{Printing, printed, with_line}
use Rattle.audit_script.specs.Laws.Steps.{printed-more}
use Rattle.audit_script.proofs.phases.print_main.Goals as goal

pub loop-values-preserved : goal.loop-values-preserved
loop-values-preserved g c =
    let functions : ChallengerOf g.row.C.Denot g.row.F.Denot g.row.EF.Denot g.row.Com.Denot = record {
      observe = g.C.CanObserve-1.observed;
      observe_extension = g.C.CanObserve-2.observed;
      observe_opaque = g.C.CanObserve-3.observed;
      draw = g.C.CanSample-2.drawn;
      after_draw = g.C.CanSample-2.after_draw;
      draw_bits = g.C.CanSampleBits.bits_drawn;
      after_bits = g.C.CanSampleBits.after_bits;
    } in
    let numbers : g.row.EF.Denot → List ℕ = λ x. map g.F.PrimeCore64.canonical (g.EF.BasedVectorSpace.coefficients x) in
    let d = g.EF.BasedVectorSpace.DIMENSION in
    let start : Printing g.row.C.Denot g.row.EF.Denot → g.row.Com.Denot → Printing g.row.C.Denot g.row.EF.Denot = λ t m. with_line t (codes "main_commitment") [] (g.C.CanObserve-3.observed t.state m) in
    let item = c.values-item.result in
    let x = c.loop-values.steps in
    let y = c.public.new.self in
    let line : List g.row.F.Denot → Printing g.row.C.Denot g.row.EF.Denot = λ vs. with_line x (codes "public_values") [] (fold g.C.CanObserve-1.observed x.state vs) in
    let here : y ≡ line item.items = c.in_ok-public.ensures ∙ ap line c.deref.ensures.value in
    printed-more functions numbers (λ v. with_value (public_values_step (length v.items)) (Elements v.items)) c.args.public_values.now item c.loop-values.values-index
    (start c.args.steps.now c.args.main.now) x y (omega arith) c.loop-values.invariant (subst (λ v. y ≡ line v.items) c.values-item.is here)

pub returns : goal.returns
unfolding printed main_script
returns g c =
    let functions : ChallengerOf g.row.C.Denot g.row.F.Denot g.row.EF.Denot g.row.Com.Denot = record {
      observe = g.C.CanObserve-1.observed;
      observe_extension = g.C.CanObserve-2.observed;
      observe_opaque = g.C.CanObserve-3.observed;
      draw = g.C.CanSample-2.drawn;
      after_draw = g.C.CanSample-2.after_draw;
      draw_bits = g.C.CanSampleBits.bits_drawn;
      after_bits = g.C.CanSampleBits.after_bits;
    } in
    let numbers : g.row.EF.Denot → List ℕ = λ x. map g.F.PrimeCore64.canonical (g.EF.BasedVectorSpace.coefficients x) in
    let d = g.EF.BasedVectorSpace.DIMENSION in
    let start : Printing g.row.C.Denot g.row.EF.Denot → g.row.Com.Denot → Printing g.row.C.Denot g.row.EF.Denot = λ t m. with_line t (codes "main_commitment") [] (g.C.CanObserve-3.observed t.state m) in
    let xs = c.args.public_values.now in
    let base = start c.args.steps.now c.args.main.now in
    c.loop-values.invariant
    ∙ ap (λ l. printed functions numbers base (map (λ v. with_value (public_values_step (length v.items)) (Elements v.items)) l)) (take_all _ xs c.loop-values-test.false)
    ∙ ap (printed functions numbers base) (sym (map-map (λ v. with_value (public_values_step (length v)) (Elements v)) (λ v. v.items) xs))
