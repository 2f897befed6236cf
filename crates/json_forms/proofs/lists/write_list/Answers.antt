use Rattle.std.proofs.Common.{◌≡◌, take, map, ap, ◌∙◌, arith}
use Rattle.serde_json.specs.Data.{array}
use Rattle.serde_json.specs.View.{items_of}
use Rattle.std.proofs.lemmas.List.{take_all}
use Rattle.json_forms.proofs.Items.{items_of_mapped}
use Rattle.json_forms.proofs.lists.write_list.Goals as goal

pub returns : goal.returns
returns g c =
    let l = c.loop-value in
    let xs = c.args.values.now in
    let all : take l.value-index xs ≡ xs = take_all l.value-index xs (omega arith) in
    c.from.ensures
    ∙ (ap (λ ds. array (items_of ds)) (l.invariant ∙ ap (map (λ v. g.T.JsonForm.tree (g.T.JsonForm.data_of v))) all)
    ∙ ap array (items_of_mapped g.T.JsonForm.tree g.T.JsonForm.data_of xs))
