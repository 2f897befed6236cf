-- What the generation of permutation columns answers. After Plonky3's p3-lookup (generate_permutation).
use Rattle.std.specs.Prelude.{◌≡◌, ℕ, ◌+◌, ◌<◌, true, List, [], length, All, Option, Result, Ok, Err}
use Rattle.std.specs.Prelude.{slice_index_or as get_or}
use Rattle.p3_field.specs.Ring.{Ring}
use Rattle.p3_matrix.specs.Matrix.{Rows, height, cell_at}
use Rattle.air_core.specs.Tree.{Tree}
use Rattle.air_core.specs.Shape.{Shape, width_of}
use Rattle.air_core.specs.RowCheck.{Row, tree_value_at_row}
use Rattle.air_core.specs.Check.{table_traces, table_row}
use Rattle.p3_lookup.specs.Lookup.{LookupData, IsLookup}
use Rattle.p3_lookup.specs.Term.{Term, HasInverses}
use Rattle.p3_lookup.specs.Honest.{Argument, argument, row_terms, honest_cell, running_sum, RowHasInverses}
use Rattle.p3_lookup.specs.declared.terminal.LookupTerminal.{LookupTerminal}
use Rattle.p3_lookup.specs.declared.terminal.GenerateError.{GenerateError}
use Rattle.p3_lookup.specs.declared.terminal.GenerateError.TheVariants.{DenominatorZero, OutOfMemory}

-- the value in the extension of a tree over the base field at a row
abbrev pub embedded_at : {F E : Type 0} → Ring F → (F → E) → Row F F → Tree F → E
embedded_at f embed r t = embed (tree_value_at_row f f (λ x. x) r t)

-- the cells of a table that its lookups may read
abbrev pub sent_shape : {F : Type 0} → Rows F → Option (Rows F) → List F → Shape
sent_shape main preprocessed public_values = record {
  main = main.width;
  main_next = λ _. true;
  preprocessed = width_of preprocessed;
  preprocessed_next = λ _. true;
  periodic = 0;
  public = length public_values;
  permutation = 0;
  challenges = 0;
  terminals = 0;
}

-- the lookups read what a table with these traces and public values may send
abbrev pub ReadTraces : {F : Type 0} → Rows F → Option (Rows F) → List F → List (LookupData F) → Type 0
ReadTraces main preprocessed public_values lookups = All (IsLookup (sent_shape main preprocessed public_values)) lookups

-- what fixes the permutation columns of a table with these traces, public values, lookups and challenges
abbrev pub argument_over : {F E : Type 0} → Ring F → Ring E → (E → E) → (F → E) → Rows F → Option (Rows F) → List F → List (LookupData F) → List E → Argument F E
argument_over f e inv embed main preprocessed public_values lookups challenges =
    argument e inv challenges lookups (λ i t. embedded_at f embed (table_row f.zero (table_traces main preprocessed [] public_values) i) t)

-- the first denominator that is zero stands at this place
pub record IsFirstZero {E : Type 0} (r : Ring E) (ts : List (Term E)) (j : ℕ) : Type 0 where
  pub within : j < length ts
  pub zero : (d : Term E) → (get_or ts j d).denominator ≡ r.zero
  pub before : (k : ℕ) (d : Term E) → k < j → (get_or ts k d).denominator ≡ r.zero → ⊥

-- the first denominator that is zero in a row: its lookup and its tuple
pub record IsFirstZeroIn {E : Type 0} (r : Ring E) (tss : List (List (Term E))) (lookup tuple : ℕ) : Type 0 where
  pub within : lookup < length tss
  pub first : IsFirstZero r (get_or tss lookup []) tuple
  pub before : (k : ℕ) → k < lookup → HasInverses r (get_or tss k [])

-- the first denominator that is zero: its row, its lookup and its tuple
pub record IsFirstZeroOf {F E : Type 0} (p : Argument F E) (n row lookup tuple : ℕ) : Type 0 where
  pub within : row < n
  pub first : IsFirstZeroIn p.ring (row_terms p row) lookup tuple
  pub before : (i : ℕ) → i < row → RowHasInverses p i

-- why there are no columns for a table of n rows: the first denominator that is zero, or running out of
-- memory
abbrev pub IsGenerateFault : {F E : Type 0} → Argument F E → ℕ → GenerateError → Type 0
IsGenerateFault p n (DenominatorZero row lookup tuple) = IsFirstZeroOf p n row lookup tuple
IsGenerateFault p n OutOfMemory = Unit {0}

-- the answer for a table of n rows: the honest columns and the terminal, or the first denominator that is zero
abbrev pub IsGenerated : {F E : Type 0} → Argument F E → ℕ → Result (Rows E × LookupTerminal E) GenerateError → Type 0
IsGenerated p n (Ok (m, t)) =
    (m.width ≡ length p.lookups + 1)
    × (height m ≡ n)
    × ((i j : ℕ) → i < n → j < length p.lookups + 1 → cell_at p.ring.zero m i j ≡ honest_cell p i j)
    × (t.0 ≡ running_sum p n)
    × ((i : ℕ) → i < n → RowHasInverses p i)
IsGenerated p n (Err e) = IsGenerateFault p n e
