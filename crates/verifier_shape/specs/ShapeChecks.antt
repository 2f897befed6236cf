-- The checks of a batch proof's shape, in order: counts, presence, degree bits, bounds on multiplicities, and the lengths of what is opened. None
-- reads a value or a challenge. After Plonky3's p3-batch-stark (verify_batch).
use Rattle.std.specs.Prelude.{slice_index_or as get_or}
use Rattle.std.specs.Prelude.{◌≡◌, ℕ, zero, suc, ◌+◌, ◌-◌, ◌*◌, ◌^◌, ◌<◌, ◌≤◌, Bool, true, false, cond, min, List, [], ◌∷◌, ◌++◌, length, map, All, Option, None, Some, option_map}
use Rattle.std.specs.List.{list_any}
use Rattle.p3_field.specs.Checks.{Check, NoneFails, check, in_turn}
use Rattle.p3_field.specs.Poly.{tabulate}
use Rattle.p3_field.specs.Ring.{Ring}
use Rattle.air_core.specs.Degree.{capped_sum}
use Rattle.air_core.specs.Shape.{Declaration, width_of}
use Rattle.p3_lookup.specs.Bound.{bus_load, capped}
use Rattle.p3_lookup.specs.Bus.{bus_count, batch_buses}
use Rattle.p3_lookup.specs.Lookup.{LookupData}
use Rattle.p3_lookup.specs.declared.terminal.LookupError.TheVariants.{MultiplicityBound, PermutationWidthMismatch, TerminalPresenceMismatch, CommitmentMismatch}
use Rattle.p3_uni_stark.specs.Opened.{OpenedData, PreprocessedData}
use Rattle.p3_uni_stark.specs.declared.error.InvalidProofShapeError.{InvalidProofShapeError}
use Rattle.p3_uni_stark.specs.declared.error.InvalidProofShapeError.TheVariants.{InstanceCountMismatch, DegreeBitsTooSmall, DegreeBitsTooLarge, QuotientDomainTooLarge, TraceNextMismatch, UnexpectedTraceNext, UnexpectedPreprocessedValues, UnexpectedPreprocessedNext, PublicValuesLengthMismatch, TraceLocalWidthMismatch, QuotientChunksCountMismatch, QuotientChunkDimensionMismatch, PreprocessedWidthMismatch}
use Rattle.p3_uni_stark.specs.declared.error.VerificationError.TheVariants.{InvalidProofShape, RandomizationError}
use Rattle.batch_constraints.specs.BatchTrees.{table_trees}
use Rattle.batch_constraints.specs.Sizing.{constraint_degree, log_chunks, periods_of, with_hint}
use Rattle.batch_statement.specs.Proof.{OpenedWithLookups, ProofData}
use Rattle.batch_statement.specs.Statement.{Statement, AirTable, PreprocessedTracesData, WrittenCommon, read_common}
use Rattle.batch_statement.specs.declared.error.BatchVerificationError.{BatchVerificationError}
use Rattle.verifier_shape.specs.declared.whole.ShapeBounds.{ShapeBounds}
use Rattle.batch_statement.specs.declared.error.BatchVerificationError.TheVariants.{Verification, Lookup}
use Rattle.batch_statement.specs.Words.{is_there, has_some, no_table, no_opened}

-- a check that is refused with an error of the proof's shape
abbrev pub shape_check : {R : Type 0} → InvalidProofShapeError → Type 0 → Check (BatchVerificationError R)
shape_check e P = check (Verification (InvalidProofShape e)) P

-- the next row: as many values as columns where next columns are declared, else no row
abbrev pub next_check : {E R : Type 0} → ℕ → (width : ℕ) → List ℕ → Option (List E) → Check (BatchVerificationError R)
next_check i width [] next = shape_check (UnexpectedTraceNext (Some i)) (is_there next ≡ false)
next_check i width (c ∷ cs) next = shape_check (TraceNextMismatch (Some i)) (option_map length next ≡ Some width)

-- a table has its number of public values
abbrev pub public_values_check : {R : Type 0} → (declared publics : ℕ) → Check (BatchVerificationError R)
public_values_check declared publics = shape_check (PublicValuesLengthMismatch declared publics) (publics ≡ declared)

-- the main row of table i has so many values
abbrev pub local_check : {E R : Type 0} → ℕ → (width : ℕ) → List E → Check (BatchVerificationError R)
local_check i width row = shape_check (TraceLocalWidthMismatch i width (length row)) (length row ≡ width)

-- table i, which declares d, has its number of public values, and its main rows are opened as declared
abbrev pub main_checks : {F E R : Type 0} → ℕ → Declaration F → (publics : ℕ) → OpenedData E → List (Check (BatchVerificationError R))
main_checks i d publics o =
    public_values_check d.public_values publics
    ∷ local_check i d.width o.trace_local
    ∷ next_check i d.width d.main_next o.trace_next
    ∷ []

-- what is there has so many values
abbrev pub HasLengthWhereThere : {E : Type 0} → ℕ → Option (List E) → Type 0
HasLengthWhereThere n None = Unit {0}
HasLengthWhereThere n (Some xs) = length xs ≡ n

-- its quotient has so many chunks
abbrev pub chunk_count_check : {E R : Type 0} → ℕ → (chunks : ℕ) → List (List E) → Check (BatchVerificationError R)
chunk_count_check i chunks cs = shape_check (QuotientChunksCountMismatch i chunks (length cs)) (length cs ≡ chunks)

-- each of them has a value for each basis element
abbrev pub chunk_length_check : {E R : Type 0} → ℕ → (dimension : ℕ) → List (List E) → Check (BatchVerificationError R)
chunk_length_check i dimension cs = shape_check (QuotientChunkDimensionMismatch i) (All (λ c. length c ≡ dimension) cs)

-- and so has what is random, where it is there
abbrev pub random_check : {E R : Type 0} → (dimension : ℕ) → Option (List E) → Check (BatchVerificationError R)
random_check dimension random = check (Verification RandomizationError) (HasLengthWhereThere dimension random)

-- its quotient has so many chunks, each with a value for each basis element, and so has what is random
abbrev pub chunk_checks : {E R : Type 0} → ℕ → (chunks dimension : ℕ) → OpenedData E → List (Check (BatchVerificationError R))
chunk_checks i chunks dimension o =
    chunk_count_check i chunks o.quotient_chunks
    ∷ chunk_length_check i dimension o.quotient_chunks
    ∷ random_check dimension o.random
    ∷ []

-- how many values a next row has: one that is absent has none
abbrev pub next_length : {E : Type 0} → Option (List E) → ℕ
next_length None = 0
next_length (Some xs) = length xs

-- preprocessed rows of this width are opened, the next one where next columns are declared
abbrev pub IsOpenedPreprocessed : {E : Type 0} → (width : ℕ) → List ℕ → Option (PreprocessedData E) → Type 0
IsOpenedPreprocessed width declared None = ⊥
IsOpenedPreprocessed width declared (Some p) = (length p.local ≡ width) × (next_length p.next ≡ cond (has_some declared) width 0)

abbrev pub preprocessed_next_of : {E : Type 0} → Option (PreprocessedData E) → Option (List E)
preprocessed_next_of None = None
preprocessed_next_of (Some p) = p.next

-- no preprocessed rows are opened
abbrev pub unpreprocessed_check : {E R : Type 0} → ℕ → Option (PreprocessedData E) → Check (BatchVerificationError R)
unpreprocessed_check i p = shape_check (UnexpectedPreprocessedValues (Some i)) (is_there p ≡ false)

-- preprocessed rows of this width are opened as declared
abbrev pub preprocessed_width_check : {E R : Type 0} → ℕ → (width : ℕ) → List ℕ → Option (PreprocessedData E) → Check (BatchVerificationError R)
preprocessed_width_check i width declared p = shape_check (PreprocessedWidthMismatch i) (IsOpenedPreprocessed width declared p)

-- no next one is there, not even an empty one, where no next columns are declared
abbrev pub preprocessed_next_check : {E R : Type 0} → ℕ → List ℕ → Option (PreprocessedData E) → Check (BatchVerificationError R)
preprocessed_next_check i declared p = shape_check (UnexpectedPreprocessedNext (Some i)) (has_some declared ≡ false → is_there (preprocessed_next_of p) ≡ false)

-- its preprocessed rows, where it has so many preprocessed columns
abbrev pub preprocessed_checks : {E R : Type 0} → ℕ → (width : ℕ) → List ℕ → Option (PreprocessedData E) → List (Check (BatchVerificationError R))
preprocessed_checks i zero declared p = unpreprocessed_check i p ∷ []
preprocessed_checks i (suc n) declared p =
    preprocessed_width_check i (suc n) declared p
    ∷ preprocessed_next_check i declared p
    ∷ []

-- how many values a permutation row has: one for each coefficient of the running sum and of each lookup's column, none without lookups
abbrev pub permutation_width : (lookups dimension : ℕ) → ℕ
permutation_width zero dimension = 0
permutation_width (suc n) dimension = (suc n + 1) * dimension

abbrev pub is_some : ℕ → Bool
is_some zero = false
is_some (suc n) = true

-- its permutation rows, where it has so many lookups; the width in the refusal stops at the greatest usize
abbrev pub permutation_width_check : {E R : Type 0} → ℕ → (lookups dimension : ℕ) → OpenedWithLookups E → Check (BatchVerificationError R)
permutation_width_check i lookups dimension o =
    let width = permutation_width lookups dimension in
    check (Lookup (PermutationWidthMismatch i (capped width))) ((length o.permutation_local ≡ width) × (length o.permutation_next ≡ width))

-- its terminal is there exactly where it has lookups
abbrev pub terminal_presence_check : {R : Type 0} → ℕ → (lookups : ℕ) → (terminal : Bool) → Check (BatchVerificationError R)
terminal_presence_check i lookups terminal = check (Lookup (TerminalPresenceMismatch i (is_some lookups) terminal)) (terminal ≡ is_some lookups)

-- both
abbrev pub lookup_checks : {E R : Type 0} → ℕ → (lookups dimension : ℕ) → OpenedWithLookups E → (terminal : Bool) → List (Check (BatchVerificationError R))
lookup_checks i lookups dimension o terminal = permutation_width_check i lookups dimension o ∷ terminal_presence_check i lookups terminal ∷ []

-- what is opened of table i: it declares d, has so many public values and lookups, its quotient so many chunks
unfoldable pub table_checks : {F E R : Type 0} → ℕ → Declaration F → (publics chunks dimension lookups : ℕ) → OpenedWithLookups E → (terminal : Bool)
    → List (Check (BatchVerificationError R))
table_checks i d publics chunks dimension lookups o terminal =
    main_checks i d publics o.base
    ++ chunk_checks i chunks dimension o.base
    ++ preprocessed_checks i (width_of d.preprocessed) d.preprocessed_next o.base.preprocessed
    ++ lookup_checks i lookups dimension o terminal

-- the logarithm of the number of chunks of a table's quotient over n rows, before masking
abbrev pub chunks_of_table : {F : Type 0} → Ring F → (masks n : ℕ) → AirTable F → List (LookupData F) → ℕ
chunks_of_table f masks n t lookups =
    log_chunks masks (with_hint t.declaration (constraint_degree n (periods_of t.declaration) (table_trees f t.trees lookups)))

-- the degree bits of table i lie between these two, and its number of chunks, with masking, is below 2^64
abbrev pub size_checks : {R : Type 0} → ℕ → (least most bits chunks masks : ℕ) → List (Check (BatchVerificationError R))
size_checks i least most bits chunks masks =
    shape_check (DegreeBitsTooSmall (Some i) least bits) (least ≤ bits)
    ∷ shape_check (DegreeBitsTooLarge (Some i) most bits) (bits ≤ most)
    ∷ shape_check (QuotientDomainTooLarge (Some i) 63 (capped_sum chunks masks)) (chunks + masks < 64)
    ∷ []

-- the numbers of a configuration that the shape depends on: whether and by how many bits the backend masks, the least and the greatest degree bits, the order
-- of the base field and the dimension of the extension
pub record Bounds : Type 0 where
  pub zk : Bool
  pub masks : ℕ
  pub least : ℕ
  pub most : ℕ
  pub order : ℕ
  pub dimension : ℕ

-- the same as a caller gives them, over a field of this order
abbrev pub bounds_with : (order : ℕ) → ShapeBounds → Bounds
bounds_with order b = record { zk = b.zk; masks = b.masks; least = b.least; most = b.most; order = order; dimension = b.dimension }

-- there is an entry for each of n tables, where there are preprocessed traces
abbrev pub HasEntries : {C : Type 0} → ℕ → Option (PreprocessedTracesData C) → Type 0
HasEntries n None = Unit {0}
HasEntries n (Some g) = length g.instances ≡ n

-- each list of statement and proof has an item for each table
pub record HaveItemForEachTable {F E C P : Type 0} (s : Statement F C) (p : ProofData F E C P) : Type 0 where
  pub instances : length p.instances ≡ length s.tables
  pub publics : length s.publics ≡ length s.tables
  pub degree_bits : length p.degree_bits ≡ length s.tables
  pub terminals : length p.lookup_terminals ≡ length s.tables
  pub lookups : length s.common.lookups ≡ length s.tables
  pub entries : HasEntries (length s.tables) s.common.preprocessed

-- something random is opened of each table, and committed to, exactly where the backend masks
pub record IsRandomized {F E C P : Type 0} (zk : Bool) (p : ProofData F E C P) : Type 0 where
  pub opened : All (λ o. is_there o.base.random ≡ zk) p.instances
  pub committed : is_there p.commitments.random ≡ zk

-- the counts of statement and proof, and the presence of what is random
abbrev pub count_checks : {F E C P R : Type 0} → Bool → Statement F C → ProofData F E C P → List (Check (BatchVerificationError R))
count_checks zk s p =
    shape_check InstanceCountMismatch (HaveItemForEachTable s p)
    ∷ check (Verification RandomizationError) (IsRandomized zk p)
    ∷ []

-- the logarithm of the number of chunks of table i of a batch, before masking
abbrev pub log_chunks_at : {F : Type 0} → Ring F → (masks : ℕ) → List (AirTable F) → List (List (LookupData F)) → (degree_bits : List ℕ) → ℕ → ℕ
log_chunks_at f masks tables lookups degree_bits i =
    chunks_of_table f masks (2 ^ (get_or degree_bits i 0 - masks)) (get_or tables i no_table) (get_or lookups i [])

-- the checks of its size
abbrev pub sizes_at : {F R : Type 0} → Ring F → (least most masks : ℕ) → List (AirTable F) → List (List (LookupData F)) → (degree_bits : List ℕ) → ℕ
    → List (Check (BatchVerificationError R))
sizes_at f least most masks tables lookups degree_bits i =
    size_checks i least most (get_or degree_bits i 0) (log_chunks_at f masks tables lookups degree_bits i) masks

-- the heights of n tables
abbrev pub heights_of : (masks : ℕ) → (degree_bits : List ℕ) → ℕ → List ℕ
heights_of masks degree_bits n = tabulate n (λ i. 2 ^ (get_or degree_bits i 0 - masks))

-- what lookups may send on a bus stays below the order
abbrev pub bound_at : {F R : Type 0} → (order : ℕ) → List (List (LookupData F)) → (heights : List ℕ) → ℕ → List (Check (BatchVerificationError R))
bound_at order lookups heights b = check (Lookup (MultiplicityBound (capped b))) (bus_load lookups heights b < order) ∷ []

-- what is opened of table i of a batch, where its quotient has so many chunks
abbrev pub opened_checks_at : {F E R : Type 0} → List (AirTable F) → List (List F) → List (List (LookupData F)) → List (OpenedWithLookups E) → List (Option E)
    → (chunks dimension : ℕ) → ℕ → List (Check (BatchVerificationError R))
opened_checks_at tables publics lookups instances terminals chunks dimension i =
    table_checks i (get_or tables i no_table).declaration (length (get_or publics i [])) chunks dimension (length (get_or lookups i []))
    (get_or instances i no_opened) (is_there (get_or terminals i None))

-- the same, where this list has the logarithms of the numbers of chunks before masking
abbrev pub opened_by : {F E R : Type 0} → List (AirTable F) → List (List F) → List (List (LookupData F)) → List (OpenedWithLookups E) → List (Option E)
    → (chunks : List ℕ) → (masks dimension : ℕ) → ℕ → List (Check (BatchVerificationError R))
opened_by tables publics lookups instances terminals chunks masks dimension i =
    opened_checks_at tables publics lookups instances terminals (2 ^ (get_or chunks i 0 + masks)) dimension i

-- the same of a statement and a proof
abbrev pub opened_checks : {F E C P R : Type 0} → Ring F → (masks dimension : ℕ) → Statement F C → ProofData F E C P → ℕ → List (Check (BatchVerificationError R))
opened_checks f masks dimension s p i =
    opened_checks_at s.tables s.publics s.common.lookups p.instances p.lookup_terminals
    (2 ^ (log_chunks_at f masks s.tables s.common.lookups p.degree_bits i + masks)) dimension i

-- there are permutation columns exactly where there are lookups
abbrev pub permutation_check : {F E C P R : Type 0} → Statement F C → ProofData F E C P → List (Check (BatchVerificationError R))
permutation_check s p = check (Lookup CommitmentMismatch) (is_there p.commitments.permutation ≡ list_any has_some s.common.lookups) ∷ []

-- the parts of a statement's and a proof's checks that look at each table, or at each bus: the tables' sizes, what may be sent on the buses, and what is opened
abbrev pub size_part : {F E C P R : Type 0} → Ring F → Bounds → Statement F C → ProofData F E C P → List (Check (BatchVerificationError R))
size_part f b s p = in_turn (length s.tables) (sizes_at f b.least b.most b.masks s.tables s.common.lookups p.degree_bits)

abbrev pub bus_bound_part : {F E C P R : Type 0} → Bounds → Statement F C → ProofData F E C P → List (Check (BatchVerificationError R))
bus_bound_part b s p =
    in_turn (bus_count (batch_buses s.common.lookups)) (bound_at b.order s.common.lookups (heights_of b.masks p.degree_bits (length s.tables)))

abbrev pub opened_part : {F E C P R : Type 0} → Ring F → Bounds → Statement F C → ProofData F E C P → List (Check (BatchVerificationError R))
opened_part f b s p = in_turn (length s.tables) (opened_checks f b.masks b.dimension s p)

-- All of these in order: the counts and what is random; for each table its size; for each bus what may be sent on it; for each table what is opened; and
-- the presence of permutation columns.
unfoldable pub shape_checks : {F E C P R : Type 0} → Ring F → Bounds → Statement F C → ProofData F E C P → List (Check (BatchVerificationError R))
shape_checks f b s p = count_checks b.zk s p ++ size_part f b s p ++ bus_bound_part b s p ++ opened_part f b s p ++ permutation_check s p

-- a proof has the right counts for its statement, and what is random is there as it has to be; R is the type of the backend's errors
abbrev pub HasRightCounts : {F E C P : Type 0} (R : Type 0) → Bool → Statement F C → ProofData F E C P → Type 0
HasRightCounts R zk s p = NoneFails (count_checks {R = R} zk s p)

-- a proof has the right shape for its statement
abbrev pub HasRightShape : {F E C P : Type 0} (R : Type 0) → Ring F → Bounds → Statement F C → ProofData F E C P → Type 0
HasRightShape R f b s p = NoneFails (shape_checks {R = R} f b s p)
