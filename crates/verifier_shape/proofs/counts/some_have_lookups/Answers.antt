use Rattle.std.proofs.Common.{◌≡◌, ℕ, ◌<◌, ◌≤◌, [], get_or, map, take, arith, refl, sym, ◌∙◌, ap, false, ◌||◌}
use Rattle.std.specs.List.{list_any}
use Rattle.std.proofs.lemmas.List.{length-map, take_all}
use Rattle.std.proofs.lemmas.List.Folds.{list_any_at, list_any_more}
use Rattle.p3_lookup.specs.Written.{read_all}
use Rattle.batch_statement.specs.Words.{has_some}
use Rattle.verifier_shape.specs.Laws.Items.{item_of_map}
use Rattle.verifier_shape.proofs.counts.some_have_lookups.Goals as goal

pub returns-then-has_lookups : goal.returns-then-has_lookups
returns-then-has_lookups g c =
    sym (list_any_at has_some (map read_all c.args.lookups.now) c.loop-table.table-index [] (omega (arith, length-map c.args.lookups.now read_all))
    (ap has_some (item_of_map read_all c.args.lookups.now c.loop-table.table-index c.table-item.result [] (omega arith) c.table-item.is)
    ∙ sym c.has_lookups.ensures ∙ c.if-has_lookups.true))

pub loop-table-preserved : goal.loop-table-preserved
loop-table-preserved g c =
    let more = list_any_more has_some (map read_all c.args.lookups.now) c.loop-table.table-index [] (omega (arith, length-map c.args.lookups.now read_all)) in
    let here = ap has_some (item_of_map read_all c.args.lookups.now c.loop-table.table-index c.table-item.result [] (omega arith) c.table-item.is)
    ∙ sym c.has_lookups.ensures ∙ c.if-has_lookups.false in
    more ∙ ap (λ b. b || has_some (get_or (map read_all c.args.lookups.now) c.loop-table.table-index [])) c.loop-table.invariant ∙ here

pub returns : goal.returns
returns g c =
    sym (ap (list_any has_some) (sym (take_all c.loop-table.table-index (map read_all c.args.lookups.now) (omega (arith, length-map c.args.lookups.now read_all)))) ∙ c.loop-table.invariant)
