-- A table with traces as far as it sends (not in Plonky3).
use Rattle.std.specs.Prelude.{ℕ, List, [], Option}
use Rattle.std.specs.Prelude.{slice_index_or as get_or}
use Rattle.p3_field.specs.Ring.{Ring}
use Rattle.p3_matrix.specs.Matrix.{Rows, height}
use Rattle.air_core.specs.Check.{table_row, table_traces}
use Rattle.air_core.specs.RowCheck.{Row, tree_value_at_row}
use Rattle.air_core.specs.Tree.{Tree}
use Rattle.p3_lookup.specs.Lookup.{LookupData}
use Rattle.p3_lookup.specs.Messages.{Sender}

-- the value of what is sent in a row
abbrev pub sent_in_row : {F : Type 0} → Ring F → Row F F → Tree F → F
sent_in_row f row tree = tree_value_at_row f f (λ x. x) row tree

-- the table of these traces, lookup n being on bus number n of the list; after the last row is the first
abbrev pub sender_over : {F : Type 0} → Ring F → Rows F → Option (Rows F) → List F → List (LookupData F) → List ℕ → Sender F
sender_over f main preprocessed public_values lookups buses = record {
  lookups = lookups;
  bus = λ n. get_or buses n 0;
  rows = height main;
  value = λ i tree. sent_in_row f (table_row f.zero (table_traces main preprocessed [] public_values) i) tree;
}
