-- The tables of a batch as a proof commits to them, over the plain scheme (not in Plonky3). What the proof opens has no
-- part in it.
use Rattle.std.specs.Prelude.{ℕ, zero, suc, ◌+◌, ◌^◌, List, [], length, sum, All, Option, None, Some, option_to_list}
use Rattle.std.specs.Prelude.{slice_index_or as get_or}
use Rattle.p3_field.specs.Poly.{tabulate}
use Rattle.air_core.specs.Shape.{ReadsDeclared, declared_shape}
use Rattle.air_core.specs.Tree.{Tree}
use Rattle.p3_lookup.specs.Lookup.{LookupData}
use Rattle.plain_pcs.specs.Scheme.{Scheme, PlainCommitmentData}
use Rattle.law_committed.specs.Batch.{DividedTable}
use Rattle.law_committed.specs.Committed.{CommittedTable}
use Rattle.law_committed.specs.Identity.{CommittedQuotient}
use Rattle.batch_constraints.specs.BatchTrees.{table_trees}
use Rattle.batch_config.specs.Domains.{chunk_domains}
use Rattle.batch_config.specs.Setting.{Setting}
use Rattle.batch_statement.specs.Proof.{ProofData}
use Rattle.batch_statement.specs.Statement.{PreprocessedTracesData, Statement, AirTable}
use Rattle.batch_statement.specs.declared.preprocessed.PreprocessedInstanceMeta.{PreprocessedInstanceMeta}
use Rattle.batch_statement.specs.Words.{no_table, bits_at}
use Rattle.verifier_batch.specs.OpeningChecks.{log_chunks_of_table}
use Rattle.verifier_batch.specs.BatchChecks.{table_challenges_of}
use Rattle.law_soundness.specs.Commitment.{polynomials_at}
use Rattle.law_soundness.specs.PlainSetting.{plain_scheme}

-- how many matrices the tables before table i have in a commitment, where table j has `count j` there
abbrev pub matrices_before : (count : ℕ → ℕ) → ℕ → ℕ
matrices_before count i = sum (tabulate i count)

-- a table with lookups has one permutation matrix
abbrev pub permutation_count : (lookups : ℕ) → ℕ
permutation_count zero = 0
permutation_count (suc n) = 1

module _ {F : Type 0} (s : Scheme F) (log_height : ℕ) where
  -- The polynomials of table i's preprocessed columns: those of the matrix that its entry in the common data names. Without an entry there are none.
  abbrev pub preprocessed_at : PlainCommitmentData F → Option PreprocessedInstanceMeta → List (List F)
  preprocessed_at c None = []
  preprocessed_at c (Some entry) = polynomials_at s log_height c entry.matrix_index

  abbrev pub preprocessed_of : Option (PreprocessedTracesData (PlainCommitmentData F)) → ℕ → List (List F)
  preprocessed_of None i = []
  preprocessed_of (Some g) i = preprocessed_at g.commitment (get_or g.instances i None)

  -- those of its flattened permutation columns, where it has lookups
  abbrev pub permutation_of : Option (PlainCommitmentData F) → (place lookups : ℕ) → List (List F)
  permutation_of None place lookups = []
  permutation_of (Some c) place zero = []
  permutation_of (Some c) place (suc n) = polynomials_at s log_height c place

-- table i of a statement, and its lookups
abbrev pub stated_table : {F C : Type 0} → Statement F C → ℕ → AirTable F
stated_table s i = get_or s.tables i no_table

abbrev pub lookups_at : {F C : Type 0} → Statement F C → ℕ → List (LookupData F)
lookups_at s i = get_or s.common.lookups i []

-- each table's constraints read cells that it declares, as those of an AIR do
abbrev pub ReadDeclared : {F C : Type 0} → Statement F C → Type 0
ReadDeclared s = All (λ t. All (ReadsDeclared (declared_shape t.declaration)) t.trees) s.tables

-- how many chunks its quotient has in a proof
abbrev pub chunk_count : {S F E C P : Type 0} → Setting S F E C → Statement F C → ProofData F E C P → ℕ → ℕ
chunk_count c s p i = 2 ^ log_chunks_of_table c s p i

-- its constraints: those of its AIR, and after them those of its lookups
abbrev pub constraints_at : {S F E C : Type 0} → Setting S F E C → Statement F C → ℕ → List (Tree F)
constraints_at c s i = table_trees c.field.ring (stated_table s i).trees (lookups_at s i)

-- of a configuration over the plain scheme, a statement and a proof
module _ {S F E P : Type 0} (c : Setting S F E (PlainCommitmentData F)) (log_blowup : ℕ) (s : Statement F (PlainCommitmentData F)) (p : ProofData F E (PlainCommitmentData F) P) where
  -- the polynomials of matrix number `place` of a commitment, as columns of table i
  abbrev pub columns_of : ℕ → PlainCommitmentData F → (place : ℕ) → List (List F)
  columns_of i commitment place = polynomials_at (plain_scheme c log_blowup) (bits_at p.degree_bits i) commitment place

  -- how many permutation matrices stand before that of table i: one for each table before it that has lookups
  abbrev pub permutation_place : ℕ → ℕ
  permutation_place i = matrices_before (λ j. permutation_count (length (lookups_at s j))) i

  -- Table i as it is committed to. Its main matrix is number i of the main commitment, its preprocessed one is the one that the common data names, and its
  -- permutation matrix stands after those of the tables before it. Its challenges are drawn, and its height is that of its degree bits.
  abbrev pub committed_table_at : ℕ → CommittedTable F E
  committed_table_at i = record {
    main = columns_of i p.commitments.main i;
    preprocessed = preprocessed_of (plain_scheme c log_blowup) (bits_at p.degree_bits i) s.common.preprocessed i;
    permutation = permutation_of (plain_scheme c log_blowup) (bits_at p.degree_bits i) p.commitments.permutation (permutation_place i) (length (lookups_at s i));
    public_values = get_or s.publics i [];
    challenges = table_challenges_of c s p i;
    terminals = option_to_list (get_or p.lookup_terminals i None);
    periodic = (stated_table s i).declaration.periodic;
    log_height = bits_at p.degree_bits i;
  }

  -- Its quotient: chunk j is matrix number j after the chunks of the tables before it.
  abbrev pub committed_quotient : ℕ → CommittedQuotient F
  committed_quotient i = record {
    domains = chunk_domains c (bits_at p.degree_bits i) (log_chunks_of_table c s p i);
    chunks = tabulate (chunk_count c s p i) (λ j. columns_of i p.commitments.quotient_chunks (matrices_before (chunk_count c s p) i + j));
  }

  -- all tables with their constraints and quotients
  abbrev pub committed_at : ℕ → DividedTable F E
  committed_at i = record { table = committed_table_at i; trees = constraints_at c s i; quotient = committed_quotient i }

  abbrev pub committed_batch : List (DividedTable F E)
  committed_batch = tabulate (length s.tables) committed_at
