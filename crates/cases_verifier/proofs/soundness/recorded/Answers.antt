use Rattle.std.proofs.Common.{length, subst, sym, ◌∙◌, ap}
use Rattle.std.proofs.lemmas.List.{length-map}
use Rattle.air_core.specs.declared.layout.AirLayout.{AirLayout}
use Rattle.air_core.specs.Layout.{layout_shape}
use Rattle.air_core.specs.Shape.{Fits, declared_shape}
use Rattle.p3_lookup.specs.Lookup.{FitLookups}
use Rattle.p3_lookup.specs.Written.{read, read_all}
use Rattle.batch_constraints.specs.BatchTrees.{layout_with}
use Rattle.batch_constraints.specs.Laws.Reads.{layout_fits, table_fits}
use Rattle.cases_verifier.proofs.soundness.recorded.Goals as goal

pub eval_air_and_lookups-requires-clause-air : goal.eval_air_and_lookups-requires-clause-air
eval_air_and_lookups-requires-clause-air g c =
    let d = g.A.BaseAir.declaration c.args.air.now in
    let P : AirLayout → Type 0 = λ l. Fits (declared_shape d) (layout_shape l) in
    let n = length c.args.lookups.now in
    let e = c.in_ok-builder.ensures.layout ∙ (c.with_lookups-layout.ensures ∙ ap (λ (l : AirLayout). layout_with l n) c.from_air.ensures) in
    subst P (sym e) (layout_fits d n)

pub eval_air_and_lookups-requires-clause-lookups : goal.eval_air_and_lookups-requires-clause-lookups
eval_air_and_lookups-requires-clause-lookups g c =
    let d = g.A.BaseAir.declaration c.args.air.now in
    let ls = read_all c.args.lookups.now in
    let P : AirLayout → Type 0 = λ l. FitLookups (layout_shape l) ls in
    let n = length c.args.lookups.now in
    let e = c.in_ok-builder.ensures.layout ∙ (c.with_lookups-layout.ensures ∙ ap (λ (l : AirLayout). layout_with l n) c.from_air.ensures) in
    subst P (sym e) (table_fits d n ls (length-map c.args.lookups.now read) c.requires)
