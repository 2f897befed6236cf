-- When a table with lookups meets its constraints: its rows read one by one, as Plonky3's p3-batch-stark does it in
-- check_constraints. The row after the last is the first, and row i reads a periodic column at i modulo its length.
use Rattle.std.specs.Prelude.{◌≡◌, ℕ, zero, suc, ◌+◌, ◌%◌, ◌<◌, nat_eq, List, [], length, map, All, None, Result, Ok, Err}
use Rattle.p3_field.specs.Ring.{Ring}
use Rattle.p3_field.specs.Checks.{IsFirstFailing, FirstFailing}
use Rattle.p3_matrix.specs.Matrix.{Rows, height, row_at}
use Rattle.air_core.specs.Check.{TableTraces, preprocessed_row, periodic_row, HasHeight, AreNonzero}
use Rattle.air_core.specs.RowCheck.{Row, tree_value_at_row}
use Rattle.air_core.specs.Tree.{Tree}
use Rattle.p3_lookup.specs.Lookup.{LookupData}
use Rattle.batch_check.specs.declared.check.CheckFailure.{CheckFailure}
use Rattle.batch_check.specs.declared.check.CheckFailure.TheVariants.{PreprocessedHeight, PermutationHeight, Failing, OutOfMemory}
use Rattle.batch_constraints.specs.BatchTrees.{table_trees}

-- a table, its lookups, their permutation columns and challenges, and the terminal
pub record CheckedTable (F E : Type 0) : Type 0 where
  pub own : TableTraces F
  pub lookups : List (LookupData F)
  pub columns : Rows E
  pub challenges : List E
  pub terminals : List E

abbrev pub checked_table : {F E : Type 0} → TableTraces F → List (LookupData F) → Rows E → List E → List E → CheckedTable F E
checked_table own lookups columns challenges terminals = record { own = own; lookups = lookups; columns = columns; challenges = challenges; terminals = terminals }

-- row i of the permutation columns, where there are so many lookups: without lookups there are no columns
abbrev pub columns_row : {E : Type 0} → ℕ → Rows E → ℕ → List E
columns_row zero m i = []
columns_row (suc n) m i = row_at m i

-- what the constraints read at row i
abbrev pub batch_row : {F E : Type 0} → F → CheckedTable F E → ℕ → Row F E
batch_row d t i = record {
  main_local = row_at t.own.main i;
  main_next = row_at t.own.main ((i + 1) % height t.own.main);
  preprocessed_local = preprocessed_row t.own.preprocessed i;
  preprocessed_next = preprocessed_row t.own.preprocessed ((i + 1) % height t.own.main);
  periodic = periodic_row d t.own.periodic i;
  public_values = t.own.public_values;
  is_first_row = nat_eq i 0;
  is_last_row = nat_eq (i + 1) (height t.own.main);
  permutation_local = columns_row (length t.lookups) t.columns i;
  permutation_next = columns_row (length t.lookups) t.columns ((i + 1) % height t.own.main);
  challenges = t.challenges;
  terminals = t.terminals;
}

-- the values at row i of the constraints, where the AIR has these trees: those of the lookups after the AIR's
abbrev pub batch_values : {F E : Type 0} → Ring F → Ring E → (F → E) → CheckedTable F E → List (Tree F) → ℕ → List E
batch_values f e embed t trees i = map (tree_value_at_row f e embed (batch_row f.zero t i)) (table_trees f trees t.lookups)

-- all constraints are zero at row i
abbrev pub HoldsInRow : {F E : Type 0} → Ring F → Ring E → (F → E) → CheckedTable F E → List (Tree F) → ℕ → Type 0
HoldsInRow f e embed t trees i = All (λ x. x ≡ e.zero) (batch_values f e embed t trees i)

-- the permutation columns, where there are lookups, have the height of the main trace
abbrev pub HaveHeight : {F E : Type 0} → CheckedTable F E → Type 0
HaveHeight t = 0 < length t.lookups → height t.columns ≡ height t.own.main

-- both heights are that of the main trace
abbrev pub HasHeights : {F E : Type 0} → CheckedTable F E → Type 0
HasHeights t = HasHeight t.own.preprocessed (height t.own.main) × HaveHeight t

-- The answer for a table whose AIR has these trees: the height of the preprocessed trace, then that of the permutation
-- columns, then the first row with a constraint that isn't zero, with the places of all such constraints there. Heights that
-- differ are found without memory, so out of memory comes only where they agree.
abbrev pub IsBatchChecked : {F E : Type 0} → Ring F → Ring E → (F → E) → CheckedTable F E → List (Tree F) → Result (Unit {0}) CheckFailure → Type 0
IsBatchChecked f e embed t trees (Ok x) = HasHeights t × FirstFailing (height t.own.main) (HoldsInRow f e embed t trees) None
IsBatchChecked f e embed t trees (Err PreprocessedHeight) = HasHeight t.own.preprocessed (height t.own.main) → ⊥
IsBatchChecked f e embed t trees (Err PermutationHeight) = HasHeight t.own.preprocessed (height t.own.main) × (HaveHeight t → ⊥)
IsBatchChecked f e embed t trees (Err (Failing row places)) =
    HasHeights t × IsFirstFailing (height t.own.main) (HoldsInRow f e embed t trees) row × AreNonzero e (batch_values f e embed t trees row) places.items
IsBatchChecked f e embed t trees (Err OutOfMemory) = HasHeights t
