-- The checks of the tables' identities at the drawn point, and of the terminals' sum. After Plonky3's p3-batch-stark (verify_batch).
use Rattle.std.specs.Prelude.{slice_index_or as get_or}
use Rattle.std.specs.Prelude.{◌≡◌, ℕ, zero, suc, ◌+◌, ◌-◌, ◌^◌, List, [], ◌∷◌, ◌++◌, length, map, flat_map, replicate, All, Option, None, Some, option_to_list, unwrap_or}
use Rattle.p3_field.specs.Checks.{Check, check}
use Rattle.p3_field.specs.Domain.{CosetData, subgroup}
use Rattle.p3_field.specs.Field.{TwoAdic, Extension}
use Rattle.p3_field.specs.Ring.{Ring}
use Rattle.air_core.specs.Shape.{Declaration, width_of}
use Rattle.commit_core.specs.Periodic.{IsPeriod, NamesFirstUnfit}
use Rattle.commit_core.specs.declared.periodic.PeriodicColumnShapeError.{PeriodicColumnShapeError}
use Rattle.p3_lookup.specs.Lookup.{LookupData}
use Rattle.p3_lookup.specs.Term.{sum_of}
use Rattle.p3_lookup.specs.declared.terminal.LookupError.TheVariants.{TerminalSum}
use Rattle.p3_uni_stark.specs.Opened.{PreprocessedData}
use Rattle.p3_uni_stark.specs.Recombine.{recombined}
use Rattle.p3_uni_stark.specs.declared.error.VerificationError.{VerificationError}
use Rattle.p3_uni_stark.specs.declared.error.VerificationError.TheVariants.{PeriodicColumn}
use Rattle.batch_constraints.specs.BatchTrees.{table_trees}
use Rattle.verifier_identity.specs.Identity.{OpenedTable, identity_checks}
use Rattle.verifier_identity.specs.OpenedRows.{recombined_row}
use Rattle.verifier_identity.specs.PeriodicValues.{periodic_value}
use Rattle.batch_statement.specs.Proof.{OpenedWithLookups}
use Rattle.batch_statement.specs.Statement.{Statement, AirTable}
use Rattle.batch_statement.specs.declared.error.BatchVerificationError.{BatchVerificationError}
use Rattle.batch_statement.specs.declared.error.BatchVerificationError.TheVariants.{Verification, Lookup}
use Rattle.verifier_shape.specs.ShapeChecks.{preprocessed_next_of}
use Rattle.batch_statement.specs.Words.{no_opened, no_table}

-- the same check, refused as one of the tables
abbrev pub verified : {R : Type 0} → Check (VerificationError R) → Check (BatchVerificationError R)
verified {R} c = record { refusal = λ e. (x : VerificationError R) × c.refusal x × (e ≡ Verification x); holds = c.holds }

-- the next row that is read: what is opened where next columns are declared, else the zeros
abbrev pub next_row_or_zeros : {E : Type 0} → (zeros : List E) → List ℕ → Option (List E) → List E
next_row_or_zeros zeros [] opened = zeros
next_row_or_zeros zeros (c ∷ cs) opened = unwrap_or opened []

-- the preprocessed columns' values that are opened
abbrev pub preprocessed_local_of : {E : Type 0} → Option (PreprocessedData E) → List E
preprocessed_local_of None = []
preprocessed_local_of (Some p) = p.local

-- how many permutation columns there are with so many lookups: one for the running sum and one for each lookup
abbrev pub permutation_column_count : ℕ → ℕ
permutation_column_count zero = 0
permutation_column_count (suc n) = suc n + 1

-- What a table that declares d reads at zeta of what is opened: it has so many lookups, and these public values, challenges and terminals. A next row
-- of which no column is declared is a row of zeros; periodic columns have the values of their interpolants on the domain of the table's rows.
abbrev pub opened_table : {F E : Type 0} → TwoAdic F → Extension F E → CosetData F → Declaration F → (lookups : ℕ) → (publics : List F) → (challenges terminals : List E) → (zeta : E)
    → OpenedWithLookups E → OpenedTable F E
opened_table f e domain d lookups publics challenges terminals zeta o = record {
  trace_local = o.base.trace_local;
  trace_next = next_row_or_zeros (replicate d.width e.ring.zero) d.main_next o.base.trace_next;
  preprocessed_local = preprocessed_local_of o.base.preprocessed;
  preprocessed_next = next_row_or_zeros (replicate (width_of d.preprocessed) e.ring.zero) d.preprocessed_next (preprocessed_next_of o.base.preprocessed);
  periodic = map (periodic_value f e domain zeta) d.periodic;
  public = publics;
  permutation_local = recombined_row e o.permutation_local (permutation_column_count lookups);
  permutation_next = recombined_row e o.permutation_next (permutation_column_count lookups);
  challenges = challenges;
  terminals = terminals;
}

-- periodic columns of these lengths fit so many rows; the refusal names the first that doesn't
abbrev pub periods_check : {R : Type 0} → (height : ℕ) → (lengths : List ℕ) → List (Check (BatchVerificationError R))
periods_check height lengths = record {
  refusal = λ e. (x : PeriodicColumnShapeError) × NamesFirstUnfit height lengths x × (e ≡ Verification (PeriodicColumn x));
  holds = All (IsPeriod height) lengths;
} ∷ []

-- The checks of table i at zeta, in order: its periodic columns fit its rows, of which there are 2^log_height, zeta isn't one of the points of their
-- domain, and the identity holds there, with the quotient recombined from its chunks on these domains.
abbrev pub identity_of_table : {F E R : Type 0} → TwoAdic F → Extension F E → (i log_height : ℕ) → AirTable F → List (LookupData F) → (publics : List F) → (challenges : List E)
    → (terminal : Option E) → (domains : List (CosetData F)) → (alpha zeta : E) → OpenedWithLookups E → List (Check (BatchVerificationError R))
identity_of_table {R = R} f e i log_height t lookups publics challenges terminal domains alpha zeta o =
    let domain = subgroup f.ring log_height in
    periods_check (2 ^ log_height) (map length t.declaration.periodic)
    ++ map verified (identity_checks f e {R = R} (Some i) domain alpha zeta
    (opened_table f e domain t.declaration (length lookups) publics challenges (option_to_list terminal) zeta o)
    (table_trees f.ring t.trees lookups) (recombined f e domains o.base.quotient_chunks zeta))

-- the same of table i of a batch, by the lists of all tables
abbrev pub identity_by : {F E R : Type 0} → TwoAdic F → Extension F E → (masks : ℕ) → List (AirTable F) → List (List F) → List (List (LookupData F)) → List (OpenedWithLookups E)
    → (terminals : List (Option E)) → (degree_bits : List ℕ) → (challenges : List (List E)) → (domains : List (List (CosetData F))) → (alpha zeta : E) → ℕ
    → List (Check (BatchVerificationError R))
identity_by f e masks tables publics lookups instances terminals degree_bits challenges domains alpha zeta i =
    identity_of_table f e i (get_or degree_bits i 0 - masks) (get_or tables i no_table) (get_or lookups i []) (get_or publics i []) (get_or challenges i [])
    (get_or terminals i None) (get_or domains i []) alpha zeta (get_or instances i no_opened)

-- the same of a statement
abbrev pub identity_at : {F E C R : Type 0} → TwoAdic F → Extension F E → (masks : ℕ) → Statement F C → List (OpenedWithLookups E) → (terminals : List (Option E))
    → (degree_bits : List ℕ) → (challenges : List (List E)) → (domains : List (List (CosetData F))) → (alpha zeta : E) → ℕ → List (Check (BatchVerificationError R))
identity_at f e masks s instances terminals degree_bits challenges domains alpha zeta i =
    identity_by f e masks s.tables s.publics s.common.lookups instances terminals degree_bits challenges domains alpha zeta i

-- the terminals that are there sum to zero
abbrev pub terminal_check : {E R : Type 0} → Ring E → List (Option E) → List (Check (BatchVerificationError R))
terminal_check r terminals = check (Lookup TerminalSum) (sum_of r (flat_map option_to_list terminals) ≡ r.zero) ∷ []
