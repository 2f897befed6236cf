use Rattle.std.proofs.Common.{◌≡◌, ◌+◌, ◌∷◌, drop, sym, ap, ◌∙◌, arith}
use Rattle.std.proofs.lemmas.List.{drop_more, drop_all}
use Rattle.serde_json.specs.View.{items_view}
use Rattle.json_forms.specs.Readings.{items_reading}
use Rattle.json_forms.proofs.Items.{reading_grows, reading_ends}
use Rattle.json_forms.proofs.lists.read_items.Goals as goal

pub loop-json-preserved : goal.loop-json-preserved
loop-json-preserved g c =
    let l = c.loop-json in
    let xs = c.args.trees.now in
    let x = c.json-item.result in
    let here : drop l.json-index xs ≡ x ∷ drop (l.json-index + 1) xs = drop_more xs l.json-index x (omega arith) ∙ ap (λ y. y ∷ drop (l.json-index + 1) xs) (sym c.json-item.is) in
    let grown = reading_grows g.T.JsonForm.reading g.T.JsonForm.data_of (items_reading g.T.JsonForm.reading (items_view xs)) l.items.items (drop l.json-index xs) (drop (l.json-index + 1) xs) x c.in_ok-read.field-0
    l.invariant here c.in_ok-read.ensures.ok in
    rw c.in_ok-push.ensures.items grown

pub returns-clause-ok : goal.returns-clause-ok
returns-clause-ok g c =
    let l = c.loop-json in
    let xs = c.args.trees.now in
    reading_ends g.T.JsonForm.reading g.T.JsonForm.data_of (items_reading g.T.JsonForm.reading (items_view xs)) l.items.items (drop l.json-index xs) l.invariant (drop_all l.json-index xs (omega arith))
