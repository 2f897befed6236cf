use Rattle.std.proofs.Common.{◌≡◌, ◌≤◌, List, length, map, Vec, Global, refl, subst, sym, ◌∙◌, ap, arith, lit<}
use Rattle.std.specs.Prelude.{All}
use Rattle.std.proofs.lemmas.List.{length-map}
use Rattle.p3_field.specs.declared.baby_bear.BabyBear.{BabyBear}
use Rattle.air_core.specs.Layout.{layout_shape}
use Rattle.air_core.specs.Shape.{Shape, Fits, declared_shape}
use Rattle.air_tables.specs.Sending.{sending_declaration}
use Rattle.p3_lookup.specs.Lookup.{FitLookups}
use Rattle.p3_lookup.specs.Written.{Written, read_all}
use Rattle.cases_air.specs.Cells.{eight_of_each}
use Rattle.cases_air.specs.Taken.{IsTakenLookup}
use Rattle.cases_air.proofs.Fits.{sending_fits, few_columns, few_challenges}
use Rattle.cases_air.proofs.Taken.{fit_taken}
use Rattle.cases_air.proofs.columns.argument.Goals as goal

pub eval_air_and_lookups-requires-clause-lookups : goal.eval_air_and_lookups-requires-clause-lookups
eval_air_and_lookups-requires-clause-lookups c =
    let P : Shape → Type 0 = λ s. FitLookups s (read_all {F = BabyBear} c.as_slice-taken.result.now) in
    let Q : List (Written BabyBear) → Type 0 = λ ls. All IsTakenLookup ls in
    let same = ap layout_shape c.in_ok-builder.ensures.layout ∙ c.eight_of_each.ensures in
    let items = c.as_slice-taken.ensures.value in
    let few : length c.as_slice-taken.result.now ≤ 3 = omega (arith, ap length items) in
    subst P (sym same)
    (fit_taken eight_of_each (record { column = lit< tt; next = refl }) c.as_slice-taken.result.now (subst Q (sym items) c.in_ok-lookups.ensures)
    (λ p. few_columns _ few) (few_challenges _ few) (λ p. lit< tt))

pub eval_air_and_lookups-requires-clause-air : goal.eval_air_and_lookups-requires-clause-air
eval_air_and_lookups-requires-clause-air c =
    let columns = map (λ (v : Vec BabyBear Global). v.items) c.in_ok-air.air.periodic.items in
    let one : length columns ≡ 1 = length-map c.in_ok-air.air.periodic.items (λ v. v.items) ∙ c.in_ok-air.air.one_periodic in
    let P : Shape → Type 0 = λ s. Fits (declared_shape (sending_declaration c.in_ok-air.air.steps.items columns)) s in
    let same = ap layout_shape c.in_ok-builder.ensures.layout ∙ c.eight_of_each.ensures in
    subst P (sym same) (sending_fits c.in_ok-air.air.steps.items columns eight_of_each one (lit< tt) (lit< tt) (lit< tt) (lit< tt))
