-- The lookups of a batch's tables, packed within each table's budget. After Plonky3's p3-batch-stark
-- (from_airs_and_degrees_with_lookup_budgets).
use Rattle.std.specs.Prelude.{slice_index_or as get_or}
use Rattle.std.specs.Prelude.{◌≡◌, ℕ, ◌+◌, ◌-◌, ◌^◌, ◌<◌, ◌≤◌, max, false, List, [], ◌∷◌, length, map, None}
use Rattle.p3_field.specs.Checks.{Check, check}
use Rattle.p3_field.specs.Ring.{Ring}
use Rattle.air_core.specs.Degree.{capped_sum}
use Rattle.air_core.specs.Shape.{Declaration}
use Rattle.air_core.specs.Tree.{Tree, Interaction}
use Rattle.p3_lookup.specs.Lookup.{LookupData, lookups_of}
use Rattle.p3_lookup.specs.Packing.{packed}
use Rattle.batch_constraints.specs.Sizing.{table_log_chunks, free_budget}
use Rattle.batch_setup.specs.declared.error.SetupError.{SetupError}
use Rattle.batch_setup.specs.declared.error.SetupError.TheVariants.{LookupBudget}

-- what an AIR makes a table from: what it declares, its constraints, and its interactions
pub record Source (F : Type 0) : Type 0 where
  pub declaration : Declaration F
  pub trees : List (Tree F)
  pub interactions : List (Interaction F)

abbrev pub source_of : {A F : Type 0} → (A → Declaration F) → (A → List (Tree F)) → (A → List (Interaction F)) → A → Source F
source_of declaration trees interactions a = record { declaration = declaration a; trees = trees a; interactions = interactions a }

-- those of AIRs, in order
abbrev pub batch_sources : {A F : Type 0} → (A → Declaration F) → (A → List (Tree F)) → (A → List (Interaction F)) → List A → List (Source F)
batch_sources declaration trees interactions airs = map (source_of declaration trees interactions) airs

-- a source past the end of a list
abbrev pub no_source : {F : Type 0} → Source F
no_source = record {
  declaration = record { width = 0; preprocessed = None; main_next = []; preprocessed_next = []; public_values = 0; periodic = []; constraints = None; degree_hint = None; boolean_trace = false };
  trees = [];
  interactions = [];
}

-- the lookups before packing
abbrev pub unpacked_lookups : {F : Type 0} → Source F → List (LookupData F)
unpacked_lookups s = lookups_of s.interactions

-- The logarithm of the number of chunks of a table with these lookups and degree bits, before masking. It has
-- 2^(degree bits - masks) rows.
abbrev pub log_chunks_with : {F : Type 0} → Ring F → (masks bits : ℕ) → Source F → List (LookupData F) → ℕ
log_chunks_with f masks bits s lookups = table_log_chunks f s.declaration s.trees masks 0 (2 ^ (bits - masks)) lookups

-- the budget that leaves the number of chunks as it is without packing
abbrev pub own_budget : {F : Type 0} → Ring F → (masks bits : ℕ) → Source F → ℕ
own_budget f masks bits s = free_budget masks (log_chunks_with f masks bits s (unpacked_lookups s))

-- the lookups packed within the larger of that budget and of the one that is asked for
abbrev pub packed_lookups : {F : Type 0} → Ring F → (masks bits asked : ℕ) → Source F → List (LookupData F)
packed_lookups f masks bits asked s = packed f 0 (max (own_budget f masks bits s) asked) (unpacked_lookups s)

-- the logarithm of the number of chunks with these lookups, before masking
abbrev pub packed_log_chunks : {F : Type 0} → Ring F → (masks bits asked : ℕ) → Source F → ℕ
packed_log_chunks f masks bits asked s = log_chunks_with f masks bits s (packed_lookups f masks bits asked s)

-- The number of chunks, with masking, is at most that of the backend's blowup. The number in the refusal stops at the greatest
-- usize.
abbrev pub chunk_count_checks : {E : Type 0} → (masks log_blowup instance log_chunks : ℕ) → List (Check (SetupError E))
chunk_count_checks masks log_blowup instance log_chunks =
    check (LookupBudget instance (capped_sum log_chunks masks) log_blowup) (log_chunks + masks ≤ log_blowup) ∷ []

-- where the budget that is asked for is above the table's own
abbrev pub limit_checks : {E : Type 0} → (masks log_blowup instance own asked log_chunks : ℕ) → List (Check (SetupError E))
limit_checks masks log_blowup instance own asked log_chunks =
    check (LookupBudget instance (capped_sum log_chunks masks) log_blowup) (own < asked → log_chunks + masks ≤ log_blowup) ∷ []

-- the same of a table with its packed lookups
abbrev pub budget_checks : {F E : Type 0} → Ring F → (masks log_blowup instance bits asked : ℕ) → Source F → List (Check (SetupError E))
budget_checks f masks log_blowup instance bits asked s =
    limit_checks masks log_blowup instance (own_budget f masks bits s) asked (packed_log_chunks f masks bits asked s)

-- the same of table i of a batch
abbrev pub packed_at : {F : Type 0} → Ring F → (masks : ℕ) → List (Source F) → (degree_bits budgets : List ℕ) → ℕ → List (LookupData F)
packed_at f masks sources degree_bits budgets i = packed_lookups f masks (get_or degree_bits i 0) (get_or budgets i 0) (get_or sources i no_source)

abbrev pub budget_at : {F E : Type 0} → Ring F → (masks log_blowup : ℕ) → List (Source F) → (degree_bits budgets : List ℕ) → ℕ → List (Check (SetupError E))
budget_at f masks log_blowup sources degree_bits budgets i =
    budget_checks f masks log_blowup i (get_or degree_bits i 0) (get_or budgets i 0) (get_or sources i no_source)

-- a table with these lookups has as many chunks as with those that its AIR makes
abbrev pub HasOwnChunks : {F : Type 0} → Ring F → (masks bits : ℕ) → Source F → List (LookupData F) → Type 0
HasOwnChunks f masks bits s lookups = log_chunks_with f masks bits s lookups ≡ log_chunks_with f masks bits s (unpacked_lookups s)

-- each table of a batch has
abbrev pub KeepChunks : {F : Type 0} → Ring F → (masks : ℕ) → List (Source F) → (degree_bits : List ℕ) → (lookups : List (List (LookupData F))) → Type 0
KeepChunks f masks sources degree_bits lookups =
    (i : ℕ) → i < length sources → HasOwnChunks f masks (get_or degree_bits i 0) (get_or sources i no_source) (get_or lookups i [])

-- each has whose budget, of those that are asked for, is at most its own; a larger one may cost chunks
abbrev pub KeepChunksWithin : {F : Type 0} → Ring F → (masks : ℕ) → List (Source F) → (degree_bits budgets : List ℕ) → (lookups : List (List (LookupData F))) → Type 0
KeepChunksWithin f masks sources degree_bits budgets lookups =
    (i : ℕ) → i < length sources → get_or budgets i 0 ≤ own_budget f masks (get_or degree_bits i 0) (get_or sources i no_source)
    → HasOwnChunks f masks (get_or degree_bits i 0) (get_or sources i no_source) (get_or lookups i [])
