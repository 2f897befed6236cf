-- The values that a builder has after a table's constraints were asserted.
use Rattle.std.proofs.Common.{◌≡◌, ℕ, List, [], ◌++◌, map, ◌∙◌, ap}
use Rattle.p3_field.specs.Ring.{Ring}
use Rattle.air_core.specs.RowCheck.{Row, tree_value_at_row}
use Rattle.air_core.specs.Tree.{Tree, over_base, over_extension}
use Rattle.batch_check.specs.BatchCheck.{CheckedTable, batch_row}
use Rattle.batch_constraints.specs.Laws.Rows.{asserted_values}

-- what was added to nothing, at a row that is this one
pub batch_values_are : {F E : Type 0} (f : Ring F) (e : Ring E) (embed : F → E) (t : CheckedTable F E) (ts us : List (Tree F)) (i : ℕ) (w : Row F E) (old new : List E)
    → w ≡ batch_row f.zero t i → old ≡ [] → new ≡ old ++ map (λ a. tree_value_at_row f e embed w a.tree) (map over_base ts ++ map over_extension us)
    → new ≡ map (tree_value_at_row f e embed (batch_row f.zero t i)) (ts ++ us)
batch_values_are {F = F} {E = E} f e embed t ts us i w old new h k q =
    q ∙ ap (λ (l : List E). old ++ l) (asserted_values (tree_value_at_row f e embed w) ts us)
    ∙ ap (λ (l : List E). l ++ map (tree_value_at_row f e embed w) (ts ++ us)) k
    ∙ ap (λ (v : Row F E). map (tree_value_at_row f e embed v) (ts ++ us)) h
