-- The checks of what prover data is made from, in order. After Plonky3's p3-batch-stark (from_airs_and_degrees_with_lookup_budgets).
use Rattle.std.specs.Prelude.{slice_index_or as get_or}
use Rattle.std.specs.Prelude.{◌≡◌, ℕ, ◌<◌, ◌≤◌, List, [], ◌∷◌, ◌++◌, length}
use Rattle.p3_field.specs.Checks.{Check, check, in_turn}
use Rattle.p3_field.specs.Domain.{CosetData}
use Rattle.p3_field.specs.Ring.{Ring}
use Rattle.p3_matrix.specs.Matrix.{Rows}
use Rattle.batch_setup.specs.Packed.{Source, budget_at}
use Rattle.batch_setup.specs.Preprocessed.{height_at, committed_below, commit_checks}
use Rattle.batch_setup.specs.declared.error.SetupError.{SetupError}
use Rattle.batch_setup.specs.declared.error.SetupError.TheVariants.{LengthMismatch}

-- both lists have an item for each of n AIRs
abbrev pub length_checks : {E : Type 0} → (n degree_bits budgets : ℕ) → List (Check (SetupError E))
length_checks n degree_bits budgets = check LengthMismatch ((degree_bits ≡ n) × (budgets ≡ n)) ∷ []

-- the same of one list
abbrev pub degree_checks : {E : Type 0} → (n degree_bits : ℕ) → List (Check (SetupError E))
degree_checks n degree_bits = check LengthMismatch (degree_bits ≡ n) ∷ []

-- each preprocessed trace has its table's height, and the backend doesn't refuse to commit to them
abbrev pub trace_checks : {F E : Type 0} → F → (masks : ℕ) → (List (CosetData F × Rows F) → E → Type 0) → List (Source F) → (degree_bits : List ℕ) → ℕ → List (Check (SetupError E))
trace_checks one masks fault sources degree_bits n = in_turn n (height_at masks sources degree_bits) ++ commit_checks fault (committed_below one sources degree_bits n)

-- the same, and each budget that is asked for leaves the number of chunks within the blowup
abbrev pub table_setup_checks : {F E : Type 0} → Ring F → (masks log_blowup : ℕ) → (List (CosetData F × Rows F) → E → Type 0) → List (Source F)
    → (degree_bits budgets : List ℕ) → ℕ → List (Check (SetupError E))
table_setup_checks f masks log_blowup fault sources degree_bits budgets n =
    trace_checks f.one masks fault sources degree_bits n ++ in_turn n (budget_at f masks log_blowup sources degree_bits budgets)

-- the degree bits lie within the backend's bounds, of which the least is at least what masking adds
abbrev pub AreWithinBounds : (least most : ℕ) → (degree_bits : List ℕ) → Type 0
AreWithinBounds least most degree_bits = (i : ℕ) → i < length degree_bits → (least ≤ get_or degree_bits i 0) × (get_or degree_bits i 0 ≤ most)
