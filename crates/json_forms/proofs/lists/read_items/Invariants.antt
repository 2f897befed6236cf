use Rattle.std.proofs.Common.{◌≡◌, ◌++◌, drop, map, option_map}
use Rattle.serde_json.specs.View.{items_view}
use Rattle.json_forms.specs.Readings.{items_reading}
use Rattle.json_forms.proofs.lists.read_items.Given as goal

-- what reads the items that are left reads all of them
abbrev pub invariant-loop-json : goal.invariant-loop-json
invariant-loop-json g l =
    items_reading g.T.JsonForm.reading (items_view l.trees)
    ≡ option_map (λ ys. map g.T.JsonForm.data_of l.items.items ++ ys) (items_reading g.T.JsonForm.reading (items_view (drop l.json-index l.trees)))
