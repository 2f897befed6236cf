-- When a table meets its constraints: the rows of its traces read one by one, as Plonky3's p3-air does it in
-- check_constraints. The row after the last is the first, and row i reads a periodic column at i modulo its length.
use Rattle.std.specs.Prelude.{◌≡◌, ℕ, ◌+◌, ◌%◌, ◌<◌, nat_eq, List, [], length, map, All, Contains, Option, Some, None, Result, Ok, Err, ◌⊎◌}
use Rattle.std.specs.Prelude.{slice_index_or as get_or}
use Rattle.p3_field.specs.Ring.{Ring}
use Rattle.p3_field.specs.Checks.{IsFirstFailing, FirstFailing}
use Rattle.p3_matrix.specs.Matrix.{Rows, height, row_at}
use Rattle.air_core.specs.Tree.{Tree}
use Rattle.air_core.specs.RowCheck.{Row, tree_value_at_row}

-- the traces of a table, its periodic columns and its public values
pub record TableTraces (F : Type 0) : Type 0 where
  pub main : Rows F
  pub preprocessed : Option (Rows F)
  pub periodic : List (List F)
  pub public_values : List F

abbrev pub table_traces : {F : Type 0} → Rows F → Option (Rows F) → List (List F) → List F → TableTraces F
table_traces main preprocessed periodic public_values = record { main = main; preprocessed = preprocessed; periodic = periodic; public_values = public_values }

-- row i of the preprocessed trace, which is empty where there is none
abbrev pub preprocessed_row : {F : Type 0} → Option (Rows F) → ℕ → List F
preprocessed_row None i = []
preprocessed_row (Some m) i = row_at m i

-- the values of the periodic columns at row i
abbrev pub periodic_row : {F : Type 0} → F → List (List F) → ℕ → List F
periodic_row d columns i = map (λ c. get_or c (i % length c) d) columns

-- what the constraints read at row i, without lookups
abbrev pub table_row : {F : Type 0} → F → TableTraces F → ℕ → Row F F
table_row d t i = record {
  main_local = row_at t.main i;
  main_next = row_at t.main ((i + 1) % height t.main);
  preprocessed_local = preprocessed_row t.preprocessed i;
  preprocessed_next = preprocessed_row t.preprocessed ((i + 1) % height t.main);
  periodic = periodic_row d t.periodic i;
  public_values = t.public_values;
  is_first_row = nat_eq i 0;
  is_last_row = nat_eq (i + 1) (height t.main);
  permutation_local = [];
  permutation_next = [];
  challenges = [];
  terminals = [];
}

-- the values of the trees at row i
abbrev pub row_values : {F : Type 0} → Ring F → TableTraces F → List (Tree F) → ℕ → List F
row_values r t ts i = map (tree_value_at_row r r (λ x. x) (table_row r.zero t i)) ts

-- all trees are zero at row i
abbrev pub HoldsAtRow : {F : Type 0} → Ring F → TableTraces F → List (Tree F) → ℕ → Type 0
HoldsAtRow r t ts i = All (λ x. x ≡ r.zero) (row_values r t ts i)

-- the places of the values that aren't zero, in order
pub record AreNonzero {F : Type 0} (r : Ring F) (values : List F) (places : List ℕ) : Type 0 where
  pub nonzero : All (λ k. (k < length values) × (get_or values k r.zero ≡ r.zero → ⊥)) places
  pub others : (k : ℕ) → k < length values → Contains places k ⊎ (get_or values k r.zero ≡ r.zero)
  pub increasing : (i j : ℕ) → i < j → j < length places → get_or places i 0 < get_or places j 0

-- the preprocessed trace, where there is one, has this height
abbrev pub HasHeight : {F : Type 0} → Option (Rows F) → ℕ → Type 0
HasHeight None n = Unit {0}
HasHeight (Some m) n = height m ≡ n
