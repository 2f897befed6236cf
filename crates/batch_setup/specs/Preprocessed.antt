-- The preprocessed traces of a batch's tables, what is committed of them, and their entries. After Plonky3's p3-batch-stark
-- (from_airs_and_degrees_with_lookup_budgets).
use Rattle.std.specs.Prelude.{slice_index_or as get_or}
use Rattle.std.specs.Prelude.{◌≡◌, ℕ, zero, suc, ◌-◌, ◌^◌, List, [], ◌∷◌, ◌++◌, length, Option, None, Some}
use Rattle.p3_field.specs.Checks.{Check, check}
use Rattle.p3_field.specs.Domain.{CosetData}
use Rattle.p3_field.specs.Poly.{tabulate}
use Rattle.p3_matrix.specs.Matrix.{Rows, height}
use Rattle.commit_core.specs.Failure.{NoneOf}
use Rattle.batch_statement.specs.Statement.{PreprocessedTracesData, with_entry}
use Rattle.batch_statement.specs.declared.preprocessed.PreprocessedInstanceMeta.{PreprocessedInstanceMeta}
use Rattle.batch_setup.specs.Packed.{Source, no_source}
use Rattle.batch_setup.specs.declared.error.ProverPhase.TheVariants.{PreprocessingCommitment, TraceCommitment, PermutationCommitment, QuotientEvaluations, QuotientCommitment, Opening}
use Rattle.batch_setup.specs.declared.error.SetupError.{SetupError}
use Rattle.batch_setup.specs.declared.error.SetupError.TheVariants.{LengthMismatch, PreprocessedHeight, Pcs, LookupBudget, OutOfMemory}

-- a preprocessed trace of a table with these degree bits has as many rows as the table
abbrev pub height_checks : {F E : Type 0} → (masks instance bits : ℕ) → Option (Rows F) → List (Check (SetupError E))
height_checks masks instance bits None = []
height_checks masks instance bits (Some m) = check (PreprocessedHeight instance) (height m ≡ 2 ^ (bits - masks)) ∷ []

-- the preprocessed trace of table i of a batch
abbrev pub trace_at : {F : Type 0} → List (Source F) → ℕ → Option (Rows F)
trace_at sources i = (get_or sources i no_source).declaration.preprocessed

abbrev pub height_at : {F E : Type 0} → (masks : ℕ) → List (Source F) → (degree_bits : List ℕ) → ℕ → List (Check (SetupError E))
height_at masks sources degree_bits i = height_checks masks i (get_or degree_bits i 0) (trace_at sources i)

-- the subgroup of size 2^k, as a domain
abbrev pub natural : {F : Type 0} → F → ℕ → CosetData F
natural one k = record { shift = one; log_size = k }

-- what is committed of a trace, where there is one: it, on the natural domain of its extended degree
abbrev pub on_domain : {F : Type 0} → F → (bits : ℕ) → Option (Rows F) → List (CosetData F × Rows F)
on_domain one bits None = []
on_domain one bits (Some m) = (natural one bits, m) ∷ []

abbrev pub committed_trace_at : {F : Type 0} → F → List (Source F) → (degree_bits : List ℕ) → ℕ → List (CosetData F × Rows F)
committed_trace_at one sources degree_bits i = on_domain one (get_or degree_bits i 0) (trace_at sources i)

-- what is committed of the first n tables, in order
abbrev pub committed_below : {F : Type 0} → F → List (Source F) → (degree_bits : List ℕ) → ℕ → List (CosetData F × Rows F)
committed_below one sources degree_bits zero = []
committed_below one sources degree_bits (suc n) = committed_below one sources degree_bits n ++ committed_trace_at one sources degree_bits n

-- the entry of a table with such a trace, which is the matrix at this place
abbrev pub entry_with : {F : Type 0} → (matrix_index bits : ℕ) → Option (Rows F) → Option PreprocessedInstanceMeta
entry_with matrix_index bits None = None
entry_with matrix_index bits (Some m) = Some (record { matrix_index = matrix_index; width = m.width; degree_bits = bits })

-- the entry of table i of a batch: its matrix comes after those of the tables before it
abbrev pub entry_at : {F : Type 0} → F → List (Source F) → (degree_bits : List ℕ) → ℕ → Option PreprocessedInstanceMeta
entry_at one sources degree_bits i = entry_with (length (committed_below one sources degree_bits i)) (get_or degree_bits i 0) (trace_at sources i)

-- the refusal of a commitment to preprocessed traces, for this cause
abbrev pub IsCommitRefusal : {E : Type 0} → (E → Type 0) → SetupError E → Type 0
IsCommitRefusal fault LengthMismatch = ⊥
IsCommitRefusal fault (PreprocessedHeight instance) = ⊥
IsCommitRefusal fault (Pcs PreprocessingCommitment source) = fault source
IsCommitRefusal fault (Pcs TraceCommitment source) = ⊥
IsCommitRefusal fault (Pcs PermutationCommitment source) = ⊥
IsCommitRefusal fault (Pcs QuotientEvaluations source) = ⊥
IsCommitRefusal fault (Pcs QuotientCommitment source) = ⊥
IsCommitRefusal fault (Pcs Opening source) = ⊥
IsCommitRefusal fault (LookupBudget instance log_chunks log_blowup) = ⊥
IsCommitRefusal fault OutOfMemory = ⊥

-- the backend doesn't refuse to commit to what is given, where something is
abbrev pub commit_checks : {T E : Type 0} → (List T → E → Type 0) → List T → List (Check (SetupError E))
commit_checks fault [] = []
commit_checks fault (e ∷ es) = record { refusal = IsCommitRefusal (fault (e ∷ es)); holds = NoneOf (fault (e ∷ es)) } ∷ []

-- The commitment to what is given, with these entries, and the prover data of it. Of nothing there is neither.
abbrev pub IsPrepared : {T C P : Type 0} → (List T → C × P → Type 0) → List (Option PreprocessedInstanceMeta) → List T → Option (PreprocessedTracesData C) → Option P → Type 0
IsPrepared commits entries [] traces kept = (traces ≡ None) × (kept ≡ None)
IsPrepared commits entries (e ∷ es) None kept = ⊥
IsPrepared commits entries (e ∷ es) (Some g) None = ⊥
IsPrepared commits entries (e ∷ es) (Some g) (Some d) = (g.instances ≡ entries) × (g.matrix_to_instance ≡ with_entry 0 entries) × commits (e ∷ es) (g.commitment, d)

-- the same of the preprocessed traces of a batch's first n tables, in order, each on the natural domain of its extended degree
abbrev pub ArePrepared : {F C P : Type 0} → (List (CosetData F × Rows F) → C × P → Type 0) → F → List (Source F) → (degree_bits : List ℕ) → (n : ℕ)
    → Option (PreprocessedTracesData C) → Option P → Type 0
ArePrepared commits one sources degree_bits n traces kept =
    IsPrepared commits (tabulate n (entry_at one sources degree_bits)) (committed_below one sources degree_bits n) traces kept
