-- Tables to be proved: what prover and verifier know of them, with their traces. After Plonky3's p3-batch-stark (StarkInstance, prove_batch).
use Rattle.std.specs.Prelude.{slice_index_or as get_or}
use Rattle.std.specs.Prelude.{ℕ, ◌+◌, ◌-◌, ◌^◌, List, [], length}
use Rattle.std.specs.List.{flat_map}
use Rattle.p3_field.specs.Poly.{tabulate}
use Rattle.p3_field.specs.Domain.{CosetData, subgroup}
use Rattle.p3_matrix.specs.Matrix.{Rows}
use Rattle.air_core.specs.Check.{TableTraces as Traces, table_row, table_traces}
use Rattle.air_core.specs.RowCheck.{tree_value_at_row}
use Rattle.air_core.specs.Shape.{Declaration}
use Rattle.air_core.specs.Tree.{Tree}
use Rattle.p3_lookup.specs.Batch.{SendingTable}
use Rattle.p3_lookup.specs.Lookup.{LookupData}
use Rattle.batch_constraints.specs.BatchTrees.{table_trees}
use Rattle.batch_config.specs.Domains.{offered}
use Rattle.batch_config.specs.Setting.{Setting, masks}
use Rattle.batch_statement.specs.Statement.{Statement, AirTable}
use Rattle.verifier_shape.specs.ShapeChecks.{chunks_of_table}
use Rattle.batch_statement.specs.Words.{no_table}
use Rattle.batch_setup.specs.Preprocessed.{on_domain}
use Rattle.law_committed.specs.Committed.{CommittedTable}
use Rattle.law_committed.specs.Traces.{committed_traces}

-- a table to be proved: its AIR's declaration and constraints, its lookups, its public values, its trace, and its degree bits
pub record TracedTable (F : Type 0) : Type 0 where
  pub table : AirTable F
  pub lookups : List (LookupData F)
  pub publics : List F
  pub trace : Rows F
  pub degree_bits : ℕ

-- a matrix without columns and rows
abbrev pub no_rows : {A : Type 0} → Rows A
no_rows = record { values = []; width = 0 }

-- table i of a statement with traces and degree bits; past the end of a list stands what is never read
abbrev pub traced_at : {F C : Type 0} → Statement F C → (traces : List (Rows F)) → (degree_bits : List ℕ) → ℕ → TracedTable F
traced_at s traces degree_bits i = record {
  table = get_or s.tables i no_table;
  lookups = get_or s.common.lookups i [];
  publics = get_or s.publics i [];
  trace = get_or traces i no_rows;
  degree_bits = get_or degree_bits i 0;
}

abbrev pub all_traced : {F C : Type 0} → Statement F C → (traces : List (Rows F)) → (degree_bits : List ℕ) → List (TracedTable F)
all_traced s traces degree_bits = tabulate (length s.tables) (traced_at s traces degree_bits)

-- its declaration, and its trace with the AIR's preprocessed trace and periodic columns and with its public values
abbrev pub declared : {F : Type 0} → TracedTable F → Declaration F
declared t = t.table.declaration

abbrev pub traces_of : {F : Type 0} → TracedTable F → Traces F
traces_of t = table_traces t.trace (declared t).preprocessed (declared t).periodic t.publics

module _ {S F E C : Type 0} (c : Setting S F E C) (t : TracedTable F) where
  -- all its constraints: the AIR's, and those of its lookups
  abbrev pub constraints : List (Tree F)
  constraints = table_trees c.field.ring t.table.trees t.lookups

  -- the logarithm of its number of rows, and that of the number of chunks that its quotient is split into: both count that the backend
  -- masks, where it does
  abbrev pub log_rows : ℕ
  log_rows = t.degree_bits - masks c

  abbrev pub log_parts : ℕ
  log_parts = chunks_of_table c.field.ring (masks c) (2 ^ log_rows) t.table t.lookups + masks c

  -- the table as its traces' columns are committed to, with these permutation columns, challenges and terminals
  abbrev pub committed_with : Rows E → (challenges terminals : List E) → CommittedTable F E
  committed_with columns challenges terminals = committed_traces c.field c.extension (traces_of t) columns challenges terminals log_rows

  -- the same without lookups
  abbrev pub committed_alone : CommittedTable F E
  committed_alone = committed_with no_rows [] []

  -- the table as far as it sends: its lookups, its rows, and the value of a tree in each
  abbrev pub sender : SendingTable F
  sender = record {
    lookups = t.lookups;
    rows = 2 ^ log_rows;
    value = λ row tree. tree_value_at_row c.field.ring c.field.ring (λ x. x) (table_row c.field.ring.zero (table_traces t.trace (declared t).preprocessed [] t.publics) row) tree;
  }

-- the preprocessed traces of tables, in order, each on the subgroup of its degree bits
abbrev pub preprocessed_matrices : {F : Type 0} → F → List (TracedTable F) → List (CosetData F × Rows F)
preprocessed_matrices one tables = flat_map (λ t. on_domain one t.degree_bits (declared t).preprocessed) tables

-- the shift of the quotients' domains: that of the domains that are offered as disjoint from subgroups
abbrev pub quotient_shift : {S F E C : Type 0} → Setting S F E C → F
quotient_shift c = (offered c.field.ring c.field.generator (subgroup c.field.ring 0) 0).shift
