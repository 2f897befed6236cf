-- Tables whose quotients are made, and what is given of them. After Plonky3's p3-batch-stark (prove_batch).
use Rattle.std.specs.Prelude.{slice_index_or as get_or}
use Rattle.std.specs.Prelude.{◌≡◌, ℕ, ◌+◌, ◌*◌, ◌<◌, ◌≤◌, List, [], ◌∷◌, length, Option, None, Some}
use Rattle.std.specs.List.{flat_map}
use Rattle.p3_field.specs.Domain.{CosetData}
use Rattle.p3_field.specs.Poly.{tabulate}
use Rattle.p3_matrix.specs.Matrix.{Rows, height}
use Rattle.air_core.specs.Shape.{Declaration}
use Rattle.air_core.specs.Tree.{Tree}
use Rattle.p3_lookup.specs.Lookup.{LookupData}
use Rattle.batch_constraints.specs.BatchTrees.{AreLookupsOf}
use Rattle.batch_config.specs.Setting.{Setting, masks}
use Rattle.batch_setup.specs.Setup.{Instance, log_of}
use Rattle.law_committed.specs.Committed.{CommittedTable}
use Rattle.law_valid.specs.Traced.{TracedTable, declared}
use Rattle.law_valid.specs.Valid.{HasQuotientDomain, IsTraced}
use Rattle.law_honest.specs.HonestProof.{chunk_matrices, committed_table, honest_terminal}
use Rattle.prover_answer.specs.Backend.{ProverBackend}
use Rattle.prover_answer.specs.Batch.{Batch, table_at, table_count}
use Rattle.prover_quotients.specs.ProverData.{HoldsTable}
use Rattle.prover_quotients.specs.Places.{places_at}

-- the table of an instance with these lookups
abbrev pub table_of_instance : {S F E C A : Type 0} → Setting S F E C → (A → Declaration F) → (A → List (Tree F)) → Instance A F → List (LookupData F) → TracedTable F
table_of_instance c declaration trees i lookups = record {
  table = record { declaration = declaration i.air; trees = trees i.air };
  lookups = lookups;
  publics = i.public_values;
  trace = i.trace;
  degree_bits = log_of (height i.trace) + masks c;
}

-- a table is traced, its quotient has a domain, and its lookups read what it declares
pub record IsTracedTable {S F E C : Type 0} (c : Setting S F E C) (t : TracedTable F) : Type 0 where
  pub is_traced : IsTraced c t
  pub has_domain : HasQuotientDomain c t
  pub lookups_declared : AreLookupsOf (declared t) t.lookups

module _ {S F E C : Type 0} (b : Batch S F E C) (challenges : List (List E)) where
  -- table i as it is committed to, for these challenges of the tables' lookups
  abbrev pub committed_by : ℕ → CommittedTable F E
  committed_by i = committed_table b.setting b.prover (table_at b i) (get_or challenges i [])

  -- the chunks of its quotient, where alpha folds the constraints
  abbrev pub chunks_by : E → ℕ → List (CosetData F × Rows F)
  chunks_by alpha i = chunk_matrices b.setting b.prover (table_at b i) (get_or challenges i []) alpha

  -- those of the first n tables
  abbrev pub chunks_below : E → ℕ → List (CosetData F × Rows F)
  chunks_below alpha n = flat_map (chunks_by alpha) (tabulate n (λ i. i))

  -- What is given when the quotients are made: for each table two challenges for each of its lookups, its terminal, and the prover data of
  -- its columns.
  pub record AreGiven {D P R : Type 0} (k : ProverBackend S F E C D P R) (preprocessed : Option D) (main : D) (permutation : Option D) (terminals : List (Option E)) : Type 0 where
    pub challenges_long : length challenges ≡ table_count b
    pub terminals_long : length terminals ≡ table_count b
    pub pairs : (i : ℕ) → i < table_count b → 2 * length (table_at b i).lookups ≤ length (get_or challenges i [])
    pub terminals_are : (i : ℕ) → i < table_count b → get_or terminals i None ≡ honest_terminal b.setting b.prover (table_at b i) (get_or challenges i [])
    pub held : (i : ℕ) → i < table_count b → HoldsTable k (places_at b.statement.common i) preprocessed main permutation (committed_by i)

-- there is prover data of matrices, where there are some, beside a commitment to them
abbrev pub HasProverDataOfSome : {M C D : Type 0} → (List M → C × D → Type 0) → List M → Option D → Type 0
HasProverDataOfSome commits [] None = Unit {0}
HasProverDataOfSome commits [] (Some d) = ⊥
HasProverDataOfSome commits (m ∷ ms) None = ⊥
HasProverDataOfSome {M} {C} {D} commits (m ∷ ms) (Some d) = (commitment : C) × commits (m ∷ ms) (commitment, d)
