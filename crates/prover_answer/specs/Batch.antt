-- A batch that is proved: a configuration with its prover, a statement, the traces and the degree bits; and what is committed at each stage. After
-- Plonky3's p3-batch-stark (prove_batch).
use Rattle.std.specs.Prelude.{ℕ, List, [], ◌∷◌, length, map, Option, None, Some}
use Rattle.std.specs.List.{flat_map}
use Rattle.p3_field.specs.Domain.{CosetData, subgroup}
use Rattle.p3_field.specs.Poly.{tabulate}
use Rattle.p3_matrix.specs.Matrix.{Rows}
use Rattle.air_core.specs.Shape.{Declaration}
use Rattle.air_core.specs.Tree.{Tree}
use Rattle.batch_config.specs.Setting.{Setting, masks}
use Rattle.batch_setup.specs.Setup.{Instance, airs_of, bits_of}
use Rattle.batch_statement.specs.Statement.{statement_with, PreprocessedTracesData, Statement, WrittenCommon, tables_of}
use Rattle.law_valid.specs.Traced.{TracedTable, all_traced, log_parts, preprocessed_matrices, traced_at}
use Rattle.law_valid.specs.Valid.{IsTracedBatch}
use Rattle.law_honest.specs.HonestProof.{Prover, alpha, challenges_at, chunk_matrices, permutation_matrices}

pub record Batch (S F E C : Type 0) : Type 0 where
  pub setting : Setting S F E C
  pub prover : Prover F E C
  pub statement : Statement F C
  pub traces : List (Rows F)
  pub degree_bits : List ℕ

-- the batch of these instances with this common data: the degree bits are those of the traces' heights
abbrev pub batch_of : {S F E C A : Type 0} → Setting S F E C → Prover F E C → (A → Declaration F) → (A → List (Tree F)) → List (Instance A F) → WrittenCommon F C → Batch S F E C
batch_of c p declaration trees instances common = record {
  setting = c;
  prover = p;
  statement = statement_with (tables_of declaration trees (airs_of instances)) (map (λ i. i.public_values) instances) common;
  traces = map (λ i. i.trace) instances;
  degree_bits = bits_of (masks c) instances;
}

-- what commits to matrices, where there are some: of none there is nothing
abbrev pub CommitsToSome : {M X : Type 0} → (List M → X → Type 0) → List M → Option X → Type 0
CommitsToSome commits [] None = Unit {0}
CommitsToSome commits [] (Some x) = ⊥
CommitsToSome commits (m ∷ ms) None = ⊥
CommitsToSome commits (m ∷ ms) (Some x) = commits (m ∷ ms) x

-- the commitment to preprocessed matrices, where there is one, with the prover data that belongs to it
abbrev pub HasProverData : {M C D : Type 0} → (List M → C × D → Type 0) → List M → Option (PreprocessedTracesData C) → Option D → Type 0
HasProverData commits ms None None = Unit {0}
HasProverData commits ms None (Some d) = ⊥
HasProverData commits ms (Some g) None = ⊥
HasProverData commits ms (Some g) (Some d) = commits ms (g.commitment, d)

module _ {S F E C : Type 0} (b : Batch S F E C) where
  abbrev pub table_count : ℕ
  table_count = length b.statement.tables

  -- it is traced, as a prover asks
  abbrev pub IsTracedAll : Type 0
  IsTracedAll = IsTracedBatch b.setting b.prover.commitment_of b.statement b.traces b.degree_bits

  -- table i
  abbrev pub table_at : ℕ → TracedTable F
  table_at i = traced_at b.statement b.traces b.degree_bits i

  -- the traces, each on the domain of its rows
  abbrev pub main_matrices : List (CosetData F × Rows F)
  main_matrices = map (λ t. (subgroup b.setting.field.ring t.degree_bits, t.trace)) (all_traced b.statement b.traces b.degree_bits)

  -- the preprocessed traces
  abbrev pub preprocessed_all : List (CosetData F × Rows F)
  preprocessed_all = preprocessed_matrices b.setting.field.ring.one (all_traced b.statement b.traces b.degree_bits)

  -- for a grinding value before the lookups' pair:
  module _ (lookup_witness : Option F) where
    -- the challenges of each table's lookups
    abbrev pub all_challenges : List (List E)
    all_challenges = tabulate table_count (challenges_at b.setting b.prover b.statement b.traces b.degree_bits lookup_witness)

    -- the permutation columns of all tables that have some
    abbrev pub all_permutations : List (CosetData F × Rows F)
    all_permutations =
        flat_map (λ i. permutation_matrices b.setting b.prover (table_at i) (challenges_at b.setting b.prover b.statement b.traces b.degree_bits lookup_witness i)) (tabulate table_count (λ i. i))

    -- the challenge that folds the constraints, the chunks of table i's quotient, and those of all quotients
    abbrev pub folding : E
    folding = alpha b.setting b.prover b.statement b.traces b.degree_bits lookup_witness

    abbrev pub chunks_of : ℕ → List (CosetData F × Rows F)
    chunks_of i = chunk_matrices b.setting b.prover (table_at i) (challenges_at b.setting b.prover b.statement b.traces b.degree_bits lookup_witness i) folding

    abbrev pub all_chunks : List (CosetData F × Rows F)
    all_chunks = flat_map chunks_of (tabulate table_count (λ i. i))

  -- the number of chunks of table i's quotient
  abbrev pub log_parts_at : ℕ → ℕ
  log_parts_at i = log_parts b.setting (table_at i)
