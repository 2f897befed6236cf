-- The rows of a table with its generated permutation columns, as a folder or a check of rows reads them.
use Rattle.std.specs.Prelude.{◌≡◌, ℕ, ◌+◌, ◌%◌, ◌<◌, nat_eq, List, [], ◌∷◌, All, Ok}
use Rattle.p3_field.specs.Ring.{Ring}
use Rattle.p3_matrix.specs.Matrix.{Rows, height, row_at}
use Rattle.air_core.specs.RowCheck.{Row, tree_value_at_row}
use Rattle.air_core.specs.Check.{TableTraces, preprocessed_row, periodic_row}
use Rattle.p3_lookup.specs.declared.terminal.LookupTerminal.{LookupTerminal}
use Rattle.p3_lookup.specs.Lookup.{LookupData, IsLookup}
use Rattle.p3_lookup.specs.Trees.{lookup_trees}
use Rattle.p3_lookup.specs.Generated.{sent_shape, argument_over, IsGenerated}

-- row i of a table, with these permutation columns, lookup challenges and terminal: what a folder or a check of rows reads
abbrev pub permutation_row : {F E : Type 0} → F → TableTraces F → Rows E → List E → E → ℕ → Row F E
permutation_row d t columns challenges terminal i = record {
  main_local = row_at t.main i;
  main_next = row_at t.main ((i + 1) % height t.main);
  preprocessed_local = preprocessed_row t.preprocessed i;
  preprocessed_next = preprocessed_row t.preprocessed ((i + 1) % height t.main);
  periodic = periodic_row d t.periodic i;
  public_values = t.public_values;
  is_first_row = nat_eq i 0;
  is_last_row = nat_eq (i + 1) (height t.main);
  permutation_local = row_at columns i;
  permutation_next = row_at columns ((i + 1) % height t.main);
  challenges = challenges;
  terminals = terminal ∷ [];
}

-- The generated columns and terminal of a table make each constraint of its lookups zero in each row, where selectors are
-- zero or one.
abbrev pub GeneratedRowsVanish : {F E : Type 0} → Ring F → Ring E → (E → E) → (F → E) → TableTraces F → List (LookupData F) → List E → Type 0
GeneratedRowsVanish {F = F} {E = E} f e inv embed table lookups challenges =
    (columns : Rows E) (terminal : LookupTerminal E)
    → All (IsLookup (sent_shape table.main table.preprocessed table.public_values)) lookups
    → IsGenerated (argument_over f e inv embed table.main table.preprocessed table.public_values lookups challenges) (height table.main) (Ok (columns, terminal))
    → (i : ℕ) → i < height table.main
    → All (λ t. tree_value_at_row f e embed (permutation_row f.zero table columns challenges terminal.0 i) t ≡ e.zero) (lookup_trees f lookups)
