use Rattle.std.proofs.Common.{◌<◌, length, List, ◌∙◌, ap, subst, IfOk}
use Rattle.std.specs.Option.{option_map}
use Rattle.air_core.specs.Check.{AreNonzero, table_traces, periodic_row}
use Rattle.air_check.specs.Laws.Nonzero.{all_of_map}
use Rattle.air_core.specs.Laws.RowOf.{row_is, values_are}
use Rattle.air_check.proofs.check.failing_places.Goals as goal

pub periodic_at-requires : goal.periodic_at-requires
periodic_at-requires g c =
    all_of_map (λ (l : List g.row.F.Denot). 0 < length l) (λ v. v.items) c.periodic_columns.result.now (g.A.BaseAir.declaration c.args.air.now).periodic
    c.periodic_columns.ensures c.requires.periodic

pub returns : goal.returns
returns g c =
    let r = g.F.RingCore.ring in
    let trees = g.A.Air.trees c.args.air.now in
    let table = table_traces c.args.main.now (option_map (λ m. m.now) c.args.preprocessed) (g.A.BaseAir.declaration c.args.air.now).periodic c.args.public_values.now in
    let periodic = c.deref.ensures.value ∙ (c.in_ok-periodic.ensures ∙ ap (λ (l : List (List g.row.F.Denot)). periodic_row r.zero l c.args.row) c.periodic_columns.ensures) in
    let row = row_is r.zero table c.args.row c.height-height.result c.row.result.now c.row-2.result.now c.preprocessed_at.result.now c.preprocessed_at-2.result.now c.deref.result.now
    c.height-height.ensures.result c.row.ensures.values c.row-2.ensures.values c.preprocessed_at.ensures.values c.preprocessed_at-2.ensures.values periodic in
    let grown = c.in_ok-eval.ensures.appends in
    let values = values_are r table trees c.args.row c.new-builder.result.row c.new-builder.result.values c.eval.new.builder.values (c.new-builder.ensures.row ∙ row) c.new-builder.ensures.values grown.values in
    let P : List g.row.F.Denot → Type 0 = λ l. IfOk c.nonzero_places.result (λ v. AreNonzero r l v.items) in
    let read = c.values.ensures in
    subst P (read ∙ values) c.nonzero_places.ensures
