use Rattle.std.proofs.Common.{◌≡◌, take, map}
use Rattle.serde_json.specs.View.{view}
use Rattle.json_forms.proofs.lists.write_list.Given as goal

abbrev pub invariant-loop-value : goal.invariant-loop-value
invariant-loop-value g l = map view l.items.items ≡ map (λ v. g.T.JsonForm.tree (g.T.JsonForm.data_of v)) (take l.value-index l.values)
