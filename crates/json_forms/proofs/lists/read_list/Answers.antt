use Rattle.std.proofs.Common.{◌≡◌, Some, option_map, sym, ap, ◌∙◌, arith}
use Rattle.std.proofs.lemmas.Result.{IfOk-weaker}
use Rattle.serde_json.specs.View.{view, items_view}
use Rattle.serde_json.specs.Find.{as_array}
use Rattle.json_forms.specs.Readings.{items_reading}
use Rattle.json_forms.proofs.Items.{list_read, list_not_read}
use Rattle.json_forms.proofs.lists.read_list.Goals as goal
use Rattle.json_forms.proofs.lists.read_list.Goals.{else-least-len-via-then-least-len+else-len-most, else-least-len-via-else-least-len}

pub returns-then-len-most-clause-ok : goal.returns-then-len-most-clause-ok
returns-then-len-most-clause-ok g c =
    let vs = c.in-Some.trees.now.items in
    let array : as_array (view c.args.json.now) ≡ Some (items_view vs) = sym c.as_array.ensures ∙ ap (option_map (λ v. items_view v.now.items)) c.in-Some.is in
    IfOk-weaker c.read_items.result _ _ (λ v h.
    list_read g.T.JsonForm.reading c.args.least c.args.most (view c.args.json.now) vs _ array (omega (arith, c.if-least-len.true, c.len.ensures, c.in-Some.trees.now.ok.0)) (omega (arith, c.if-len-most.true, c.len-then-least-len.ensures, c.in-Some.trees.now.ok.0))
    (ap (λ xs. items_reading g.T.JsonForm.reading (items_view xs)) (sym c.deref.ensures.value) ∙ h)) c.read_items.ensures.ok

pub returns-else-least-len-clause-err : goal.returns-else-least-len-clause-err
returns-else-least-len-clause-err g c = λ m.
    let vs = c.in-Some.trees.now.items in
    let array : as_array (view c.args.json.now) ≡ Some (items_view vs) = sym c.as_array.ensures ∙ ap (option_map (λ v. items_view v.now.items)) c.in-Some.is in
    list_not_read g.T.JsonForm.reading c.args.least c.args.most (view c.args.json.now) vs array (λ h.
    elim c.else-least-len.branch [
      | else-least-len-via-then-least-len+else-len-most w ↦ let high = h.1 in omega (arith, high, w.if-len-most.false, w.len-then-least-len.ensures, c.in-Some.trees.now.ok.0)
      | else-least-len-via-else-least-len w ↦ let low = h.0 in omega (arith, low, w.if-least-len.false, c.len.ensures, c.in-Some.trees.now.ok.0)
    ])
