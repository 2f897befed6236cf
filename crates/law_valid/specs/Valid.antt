-- When a statement with traces is valid: an honest prover's proof of it is accepted. The conditions are those under which Plonky3's
-- p3-batch-stark (prove_batch) is called, and that the traces meet the constraints and that the buses are balanced.
use Rattle.std.specs.Prelude.{◌≡◌, ℕ, ◌+◌, ◌^◌, ◌<◌, ◌≤◌, Bool, List, length, map, All, Option, None, Some}
use Rattle.p3_field.specs.Domain.{CosetData}
use Rattle.p3_matrix.specs.Matrix.{Rows}
use Rattle.p3_lookup.specs.Batch.{senders}
use Rattle.p3_lookup.specs.Bound.{HaveLoadsBelow}
use Rattle.p3_lookup.specs.Messages.{IsBalanced, batch_messages}
use Rattle.verifier_claims.specs.ClaimChecks.{HasDegreeBits}
use Rattle.batch_constraints.specs.Fitting.{FitsChunks}
use Rattle.batch_constraints.specs.Sizing.{periods_of}
use Rattle.batch_config.specs.Setting.{Setting, masks}
use Rattle.verifier_shape.specs.ShapeChecks.{HasEntries, heights_of}
use Rattle.batch_statement.specs.Statement.{PreprocessedTracesData, Statement, WellFormed, entry_of}
use Rattle.law_committed.specs.Committed.{Holds}
use Rattle.law_committed.specs.Quotient.{IsQuotientDomain}
use Rattle.law_committed.specs.Traces.{HaveTraceRows}
use Rattle.law_valid.specs.Traced.{TracedTable, all_traced, committed_alone, constraints, declared, log_parts, log_rows, no_rows, preprocessed_matrices, quotient_shift, sender, traced_at, traces_of}

-- each list has an item for each table
pub record ListsEachTable {F C : Type 0} (s : Statement F C) (traces : List (Rows F)) (degree_bits : List ℕ) : Type 0 where
  pub publics_long : length s.publics ≡ length s.tables
  pub lookups_long : length s.common.lookups ≡ length s.tables
  pub entries_long : HasEntries (length s.tables) s.common.preprocessed
  pub traces_long : length traces ≡ length s.tables
  pub bits_long : length degree_bits ≡ length s.tables

-- the commitment to preprocessed traces, where there is one, is that to these matrices
abbrev pub CommitsToMatrices : {F C : Type 0} → (commitment_of : List (CosetData F × Rows F) → C) → List (CosetData F × Rows F) → Option (PreprocessedTracesData C) → Type 0
CommitsToMatrices commitment_of matrices None = Unit {0}
CommitsToMatrices commitment_of matrices (Some g) = g.commitment ≡ commitment_of matrices

module _ {S F E C : Type 0} (c : Setting S F E C) where
  -- A table is traced:
  pub record IsTraced (t : TracedTable F) : Type 0 where
    -- its trace has the AIR's columns, at least one;
    pub width : t.trace.width ≡ (declared t).width
    pub some : 0 < (declared t).width
    -- its traces have a number of rows that is a power of two, by its degree bits, and each periodic column fits them;
    pub rows : HaveTraceRows {E = E} (2 ^ log_rows c t) (traces_of t) no_rows
    -- the degree bits lie in the backend's bounds;
    pub least : c.log_min + masks c ≤ t.degree_bits
    pub most : t.degree_bits ≤ c.log_max
    -- and it has the declared number of public values
    pub publics : length t.publics ≡ (declared t).public_values

  -- each constraint of its AIR is zero on each row, where its columns are read by their interpolants
  abbrev pub OwnHold : TracedTable F → Type 0
  OwnHold t = Holds c.field c.extension (committed_alone c t) t.table.trees

  -- each of its constraints, those of its lookups among them, fits the chunks that its quotient is split into
  abbrev pub AllFit : TracedTable F → Type 0
  AllFit t = All (FitsChunks (2 ^ log_rows c t) (periods_of (declared t)) (2 ^ log_parts c t)) (constraints c t)

  -- its quotient has a domain, which has no point in common with its rows
  abbrev pub HasQuotientDomain : TracedTable F → Type 0
  HasQuotientDomain t = IsQuotientDomain c.field c.extension (committed_alone c t) (quotient_shift c) (log_parts c t) c.two_adicity

  -- for each bus and each tuple the counts of all rows of all tables that send it there sum to zero
  abbrev pub AreBalanced : (F → F → Bool) → List (TracedTable F) → Type 0
  AreBalanced eq tables = IsBalanced c.field.ring eq (batch_messages (senders (map (sender c) tables)))

  -- A batch is traced, a statement with traces and degree bits, where the backend's commitment to matrices on domains is `commitment_of`: this is what
  -- a prover of it asks for. The traces need not meet the constraints.
  pub record IsTracedBatch (commitment_of : List (CosetData F × Rows F) → C) (s : Statement F C) (traces : List (Rows F)) (degree_bits : List ℕ) : Type 0 where
    -- The common data is well-formed, and each list has an item for each table;
    pub formed : WellFormed (map (λ t. t.declaration) s.tables) s.common
    pub lists : ListsEachTable s traces degree_bits
    -- the preprocessed commitment is that to the AIRs' preprocessed traces, and each entry has its table's degree bits;
    pub committed : CommitsToMatrices commitment_of (preprocessed_matrices c.field.ring.one (all_traced s traces degree_bits)) s.common.preprocessed
    pub entries : (i : ℕ) → i < length s.tables → HasDegreeBits (traced_at s traces degree_bits i).degree_bits (entry_of s.common.preprocessed i)
    -- each table is traced, and there are the quotients' domains
    pub traced : (i : ℕ) → i < length s.tables → IsTraced (traced_at s traces degree_bits i)
    pub domains : (i : ℕ) → i < length s.tables → HasQuotientDomain (traced_at s traces degree_bits i)

  -- A statement with traces and degree bits is valid, where values are equal by `eq`:
  pub record Valid (eq : F → F → Bool) (commitment_of : List (CosetData F × Rows F) → C) (s : Statement F C) (traces : List (Rows F)) (degree_bits : List ℕ) : Type 0 where
    -- it is a traced batch;
    pub batch : IsTracedBatch commitment_of s traces degree_bits
    -- the traces meet the AIRs' constraints, and all constraints fit;
    pub holds : (i : ℕ) → i < length s.tables → OwnHold (traced_at s traces degree_bits i)
    pub fits : (i : ℕ) → i < length s.tables → AllFit (traced_at s traces degree_bits i)
    -- no bus may carry counts that add up to the order of the field, and all are balanced
    pub bounded : HaveLoadsBelow c.order s.common.lookups (heights_of (masks c) degree_bits (length s.tables))
    pub balanced : AreBalanced eq (all_traced s traces degree_bits)
