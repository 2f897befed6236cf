use Rattle.std.proofs.Common.{◌≡◌, ◌<◌, length, List, sym, ◌∙◌, ap, subst, IfOk}
use Rattle.std.specs.Option.{option_map}
use Rattle.std.proofs.lemmas.List.{length-map}
use Rattle.air_core.specs.Check.{AreNonzero, table_traces, periodic_row}
use Rattle.air_core.specs.RowCheck.{Row, row_shape}
use Rattle.air_core.specs.Shape.{Fits, declared_shape}
use Rattle.p3_lookup.specs.Lookup.{FitLookups}
use Rattle.p3_lookup.specs.Trees.{lookup_trees}
use Rattle.p3_lookup.specs.Written.{read, read_all}
use Rattle.batch_check.specs.BatchCheck.{checked_table}
use Rattle.batch_constraints.specs.Laws.Rows.{row_fits, row_fits_lookups}
use Rattle.batch_check.proofs.Values.{batch_values_are}
use Rattle.batch_constraints.specs.Laws.Images.{all_of_map}
use Rattle.batch_check.proofs.check.failing_places.Goals as goal

pub periodic_at-requires : goal.periodic_at-requires
periodic_at-requires g c =
    all_of_map (λ (l : List g.row.F.Denot). 0 < length l) (λ v. v.items) c.periodic_columns.result.now (g.A.BaseAir.declaration c.args.air.now).periodic
    c.periodic_columns.ensures c.requires.periodic

pub eval_air_and_lookups-requires-clause-air : goal.eval_air_and_lookups-requires-clause-air
eval_air_and_lookups-requires-clause-air g c =
    let d = g.A.BaseAir.declaration c.args.air.now in
    let w = c.row_of-values.result in
    let P : Row g.row.F.Denot g.row.EF.Denot → Type 0 = λ r. Fits (declared_shape d) (row_shape r) in
    let columns = λ (l : List (List g.row.F.Denot)). periodic_row g.F.RingCore.ring.zero l c.args.row in
    let periodic = c.row_of-values.ensures.periodic ∙ c.deref.ensures.value ∙ c.in_ok-periodic.ensures ∙ ap columns c.periodic_columns.ensures in
    let long : length w.periodic ≡ length d.periodic = ap (λ (l : List g.row.F.Denot). length l) periodic ∙ length-map d.periodic _ in
    subst P (sym c.new-builder.ensures.row)
    (row_fits d w (c.row_of-values.ensures.main ∙ c.requires.width) (c.row_of-values.ensures.preprocessed ∙ c.requires.preprocessed_width)
    long (ap (λ (l : List g.row.F.Denot). length l) c.row_of-values.ensures.public ∙ c.requires.public))

pub eval_air_and_lookups-requires-clause-lookups : goal.eval_air_and_lookups-requires-clause-lookups
eval_air_and_lookups-requires-clause-lookups g c =
    let d = g.A.BaseAir.declaration c.args.air.now in
    let w = c.row_of-values.result in
    let ls = read_all c.args.lookups.now in
    let n = length c.args.lookups.now in
    let P : Row g.row.F.Denot g.row.EF.Denot → Type 0 = λ r. FitLookups (row_shape r) ls in
    let Q : Row g.row.F.Denot g.row.EF.Denot → Type 0 = λ r. Fits (declared_shape d) (row_shape r) in
    subst P (sym c.new-builder.ensures.row)
    (row_fits_lookups d w ls n (length-map c.args.lookups.now read) (subst Q c.new-builder.ensures.row (eval_air_and_lookups-requires-clause-air g c)) c.requires.lookups
    (λ some. c.row_of-values.ensures.columns some ∙ c.requires.columns_width some)
    (ap (λ (l : List g.row.EF.Denot). length l) c.row_of-values.ensures.challenges ∙ c.requires.challenges)
    (λ some. ap (λ (l : List g.row.EF.Denot). length l) c.row_of-values.ensures.terminals ∙ c.requires.terminals some))

pub returns : goal.returns
returns g c =
    let f = g.F.RingCore.ring in
    let e = g.EF.RingCore.ring in
    let d = g.A.BaseAir.declaration c.args.air.now in
    let ls = read_all c.args.lookups.now in
    let own = table_traces c.args.main.now (option_map (λ m. m.now) c.args.preprocessed) d.periodic c.args.public_values.now in
    let table = checked_table own ls c.args.columns.now c.args.challenges.now c.args.terminals.now in
    let columns = λ (l : List (List g.row.F.Denot)). periodic_row f.zero l c.args.row in
    let periodic = c.deref.ensures.value ∙ c.in_ok-periodic.ensures ∙ ap columns c.periodic_columns.ensures in
    let row = c.new-builder.ensures.row ∙ c.row_of-values.ensures.row d.periodic periodic in
    let values = batch_values_are f e g.EF.ExtensionField.embed table (g.A.Air.trees c.args.air.now) (lookup_trees f ls) c.args.row c.new-builder.result.row
    c.new-builder.result.values c.eval_air_and_lookups.new.builder.values row c.new-builder.ensures.values c.in_ok-eval_air_and_lookups.ensures.appends.values in
    let P : List g.row.EF.Denot → Type 0 = λ l. IfOk c.nonzero_places.result (λ v. AreNonzero e l v.items) in
    subst P (c.values.ensures ∙ values) c.nonzero_places.ensures
