-- Which checks of a batch proof's shape are asked where all that fail are to be named. After `verify_batch` of Plonky3's p3-batch-stark, whose checks of the shape
-- `shape_checks` lists.
use Rattle.std.specs.Prelude.{slice_index_or as get_or}
use Rattle.std.specs.Prelude.{◌≡◌, ℕ, zero, suc, ◌+◌, ◌^◌, Bool, false, List, [], ◌∷◌, ◌++◌, length, Option, None}
use Rattle.p3_field.specs.Checks.{check}
use Rattle.p3_field.specs.Ring.{Ring}
use Rattle.air_core.specs.Shape.{Declaration, width_of}
use Rattle.p3_lookup.specs.Bus.{bus_count, batch_buses}
use Rattle.p3_lookup.specs.Lookup.{LookupData}
use Rattle.p3_uni_stark.specs.Opened.{PreprocessedData}
use Rattle.p3_uni_stark.specs.declared.error.InvalidProofShapeError.TheVariants.{InstanceCountMismatch}
use Rattle.p3_uni_stark.specs.declared.error.VerificationError.TheVariants.{RandomizationError}
use Rattle.batch_statement.specs.Proof.{OpenedWithLookups, ProofData}
use Rattle.batch_statement.specs.Statement.{AirTable, Statement}
use Rattle.batch_statement.specs.Words.{has_some, is_there, no_opened, no_table}
use Rattle.batch_statement.specs.declared.error.BatchVerificationError.{BatchVerificationError}
use Rattle.batch_statement.specs.declared.error.BatchVerificationError.TheVariants.{Verification}
use Rattle.verifier_shape.specs.ShapeChecks.{Bounds, HaveItemForEachTable, IsRandomized, bound_at, chunk_checks, heights_of, log_chunks_at, lookup_checks, main_checks, next_length, permutation_check, preprocessed_next_check, preprocessed_next_of, preprocessed_width_check, shape_check, sizes_at, unpreprocessed_check}
use Rattle.audit_batch.specs.Asked.{Asked, always, only}
use Rattle.audit_batch.specs.Parts.{ShapeParts}

-- no next row has values where none is declared
abbrev pub HasNoUndeclaredNext : {E : Type 0} → List ℕ → Option (PreprocessedData E) → Type 0
HasNoUndeclaredNext declared p = has_some declared ≡ false → next_length (preprocessed_next_of p) ≡ 0

-- Preprocessed rows: a next row that isn't declared is named as unexpected where it is empty. One with values is a row of another width, which the check
-- before names.
abbrev pub preprocessed_asked : {E R : Type 0} → ℕ → (width : ℕ) → List ℕ → Option (PreprocessedData E) → List (Asked (BatchVerificationError R))
preprocessed_asked i zero declared p = always (unpreprocessed_check i p ∷ [])
preprocessed_asked i (suc n) declared p =
    always (preprocessed_width_check i (suc n) declared p ∷ [])
    ++ only (HasNoUndeclaredNext declared p) (always (preprocessed_next_check i declared p ∷ []))

-- what is opened of table i, each refusal by its own condition
unfoldable pub table_asked : {F E R : Type 0} → ℕ → Declaration F → (publics chunks dimension lookups : ℕ) → OpenedWithLookups E → (terminal : Bool)
    → List (Asked (BatchVerificationError R))
table_asked i d publics chunks dimension lookups o terminal =
    always (main_checks i d publics o.base)
    ++ always (chunk_checks i chunks dimension o.base)
    ++ preprocessed_asked i (width_of d.preprocessed) d.preprocessed_next o.base.preprocessed
    ++ always (lookup_checks i lookups dimension o terminal)

-- what is opened of table i of a batch, where its quotient has so many chunks
abbrev pub opened_asked_at : {F E R : Type 0} → List (AirTable F) → List (List F) → List (List (LookupData F)) → List (OpenedWithLookups E) → List (Option E)
    → (chunks dimension : ℕ) → ℕ → List (Asked (BatchVerificationError R))
opened_asked_at tables publics lookups instances terminals chunks dimension i =
    table_asked i (get_or tables i no_table).declaration (length (get_or publics i [])) chunks dimension (length (get_or lookups i []))
    (get_or instances i no_opened) (is_there (get_or terminals i None))

-- the same, where this list has the logarithms of the numbers of chunks before masking
abbrev pub opened_asked_by : {F E R : Type 0} → List (AirTable F) → List (List F) → List (List (LookupData F)) → List (OpenedWithLookups E) → List (Option E)
    → (chunks : List ℕ) → (masks dimension : ℕ) → ℕ → List (Asked (BatchVerificationError R))
opened_asked_by tables publics lookups instances terminals chunks masks dimension i =
    opened_asked_at tables publics lookups instances terminals (2 ^ (get_or chunks i 0 + masks)) dimension i

-- of a statement and a proof, over a field, with these numbers of a configuration
module _ {F E C P R : Type 0} (f : Ring F) (b : Bounds) (s : Statement F C) (p : ProofData F E C P) where
  abbrev pub opened_asked : ℕ → List (Asked (BatchVerificationError R))
  opened_asked i =
      opened_asked_at s.tables s.publics s.common.lookups p.instances p.lookup_terminals
      (2 ^ (log_chunks_at f b.masks s.tables s.common.lookups p.degree_bits i + b.masks)) b.dimension i

  abbrev pub shape_parts : ShapeParts (BatchVerificationError R)
  shape_parts = record {
    counts = shape_check InstanceCountMismatch (HaveItemForEachTable s p);
    randomized = check (Verification RandomizationError) (IsRandomized b.zk p);
    tables = length s.tables;
    size = sizes_at f b.least b.most b.masks s.tables s.common.lookups p.degree_bits;
    buses = bus_count (batch_buses s.common.lookups);
    bound = bound_at b.order s.common.lookups (heights_of b.masks p.degree_bits (length s.tables));
    opened = opened_asked;
    permutation = permutation_check s p;
  }
