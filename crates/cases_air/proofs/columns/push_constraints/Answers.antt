use Rattle.std.proofs.Common.{◌≡◌, length, map, Vec, Global, refl, subst, sym, ◌∙◌, lit<}
use Rattle.std.proofs.lemmas.List.{length-map}
use Rattle.p3_field.specs.declared.baby_bear.BabyBear.{BabyBear}
use Rattle.air_core.specs.RowCheck.{Row, row_shape}
use Rattle.air_core.specs.Shape.{Fits, declared_shape}
use Rattle.air_tables.specs.Sending.{sending_declaration}
use Rattle.p3_lookup.specs.Lookup.{FitLookups}
use Rattle.p3_lookup.specs.Written.{read_all}
use Rattle.cases_air.proofs.Fits.{sending_fits, some_of_one, room_for_more, room_for_twice}
use Rattle.cases_air.proofs.Taken.{fit_taken, right_of}
use Rattle.cases_air.proofs.columns.push_constraints.Goals as goal

pub eval_air_and_lookups-requires-clause-lookups : goal.eval_air_and_lookups-requires-clause-lookups
eval_air_and_lookups-requires-clause-lookups c =
    let P : Row BabyBear BabyBear → Type 0 = λ r. FitLookups (row_shape r) (read_all c.args.lookups.now) in
    let row : Row BabyBear BabyBear = right_of c.new-builder.ensures.row in
    let (_, one, _, more, twice) = c.are_beside-fits.ensures c.if-not-fits.false in
    let wide : length row.main_local ≡ c.args.main.now.width = c.row.ensures.len in
    let columns : length row.permutation_local ≡ c.args.columns.now.width = c.row-5.ensures.len in
    let challenges : length row.challenges ≡ length c.args.challenges.now = refl in
    subst P (sym c.new-builder.ensures.row)
    (fit_taken (row_shape row) (record { column = some_of_one _ _ wide one; next = refl }) c.args.lookups.now c.requires.taken
    (λ p. room_for_more _ _ _ columns more) (room_for_twice _ _ _ challenges twice) (λ p. lit< tt))

pub eval_air_and_lookups-requires-clause-air : goal.eval_air_and_lookups-requires-clause-air
eval_air_and_lookups-requires-clause-air c =
    let columns = map (λ (v : Vec BabyBear Global). v.items) c.in_ok-air.air.periodic.items in
    let turns : length columns ≡ 1 = length-map c.in_ok-air.air.periodic.items (λ v. v.items) ∙ c.in_ok-air.air.one_periodic in
    let P : Row BabyBear BabyBear → Type 0 = λ r. Fits (declared_shape (sending_declaration c.in_ok-air.air.steps.items columns)) (row_shape r) in
    let row : Row BabyBear BabyBear = right_of c.new-builder.ensures.row in
    let (_, one, _, _, _) = c.are_beside-fits.ensures c.if-not-fits.false in
    let wide : length row.main_local ≡ c.args.main.now.width = c.row.ensures.len in
    let before : length row.preprocessed_local ≡ c.args.main.now.width = c.row-3.ensures.len in
    subst P (sym c.new-builder.ensures.row)
    (sending_fits c.in_ok-air.air.steps.items columns (row_shape row) turns (some_of_one _ _ wide one) (some_of_one _ _ before one) (lit< tt) (lit< tt))
