-- Small words of statements and proofs: whether something is there, and the items of lists, past whose end stands what no check reads.
use Rattle.std.specs.Prelude.{slice_index_or as get_or}
use Rattle.std.specs.Prelude.{ℕ, Bool, true, false, List, [], ◌∷◌, Option, None, Some}
use Rattle.air_core.specs.Shape.{Declaration}
use Rattle.batch_statement.specs.Proof.{OpenedWithLookups}
use Rattle.batch_statement.specs.Statement.{AirTable}

-- a value is there
abbrev pub is_there : {A : Type 0} → Option A → Bool
is_there None = false
is_there (Some x) = true

-- a list has an item
abbrev pub has_some : {A : Type 0} → List A → Bool
has_some [] = false
has_some (x ∷ xs) = true

-- a table past the end of a list, which no check reads
abbrev pub no_table : {F : Type 0} → AirTable F
no_table = record {
  declaration = record { width = 0; preprocessed = None; main_next = []; preprocessed_next = []; public_values = 0; periodic = []; constraints = None; degree_hint = None; boolean_trace = false };
  trees = [];
}

-- what is opened of a table past the end
abbrev pub no_opened : {E : Type 0} → OpenedWithLookups E
no_opened = record {
  base = record { trace_local = []; trace_next = None; preprocessed = None; quotient_chunks = []; random = None };
  permutation_local = [];
  permutation_next = [];
}

-- the items of table i; past the end of a list stands what is never read
abbrev pub declared_at : {F : Type 0} → List (Declaration F) → ℕ → Declaration F
declared_at {F = F} declarations i = get_or declarations i (no_table {F = F}).declaration

abbrev pub instance_at : {E : Type 0} → List (OpenedWithLookups E) → ℕ → OpenedWithLookups E
instance_at instances i = get_or instances i no_opened

abbrev pub bits_at : (degree_bits : List ℕ) → ℕ → ℕ
bits_at degree_bits i = get_or degree_bits i 0
