-- The values that a backend opens, taken apart table by table. After Plonky3's p3-batch-stark (prove_batch).
use Rattle.std.specs.Prelude.{slice_index_or as get_or}
use Rattle.std.specs.Prelude.{ℕ, zero, suc, ◌+◌, Bool, cond, List, [], drop, Option, None, Some}
use Rattle.p3_field.specs.Poly.{tabulate}
use Rattle.p3_lookup.specs.Lookup.{LookupData}
use Rattle.batch_statement.specs.Words.{has_some, is_there}
use Rattle.batch_statement.specs.Proof.{OpenedWithLookups}
use Rattle.batch_statement.specs.Statement.{PreprocessedTracesData, entry_of}
use Rattle.prover_openings.specs.Rows.{first_list, rows_in, second_of, values_of_row}

-- what is opened of a table, by the rows of its main matrix, of the chunks of its quotient, of which there are so many, and, where there are such, of its
-- preprocessed and of its permutation matrix
abbrev pub taken_table : {E : Type 0} → (chunk_count : ℕ) → (has_entry has_lookups : Bool) → (main : List (List E)) → (chunk : ℕ → List (List E)) → (preprocessed permutation : List (List E)) → OpenedWithLookups E
taken_table chunk_count has_entry has_lookups main chunk preprocessed permutation = record {
  base = record {
    trace_local = first_list main;
    trace_next = second_of main;
    preprocessed = cond has_entry (Some (rows_in preprocessed)) None;
    quotient_chunks = tabulate chunk_count (λ j. first_list (chunk j));
    random = None;
  };
  permutation_local = cond has_lookups (first_list permutation) [];
  permutation_next = cond has_lookups (values_of_row (second_of permutation)) [];
}

-- the opened values of the matrices of each round
pub record RoundValues (E : Type 0) : Type 0 where
  pub main : List (List (List E))
  pub quotient : List (List (List E))
  pub preprocessed : List (List (List E))
  pub permutation : List (List (List E))

-- the rounds' values, of which the third is that of the preprocessed matrices where there are such; the last may be absent
abbrev pub round_values : {E : Type 0} → (has_preprocessed : Bool) → List (List (List (List E))) → RoundValues E
round_values has_preprocessed values = record {
  main = first_list values;
  quotient = first_list (drop 1 values);
  preprocessed = cond has_preprocessed (first_list (drop 2 values)) [];
  permutation = first_list (drop (cond has_preprocessed 3 2) values);
}

-- how many items all tables before table i have
unfoldable pub count_below : (ℕ → ℕ) → ℕ → ℕ
count_below count zero = 0
count_below count (suc i) = count_below count i + count i

-- one where there is something
abbrev pub one_where : Bool → ℕ
one_where b = cond b 1 0

-- how many chunks table i's quotient has, and whether the table has a preprocessed matrix, and lookups
abbrev pub chunk_count_at : (chunk_counts : List ℕ) → ℕ → ℕ
chunk_count_at chunk_counts i = get_or chunk_counts i 0

abbrev pub has_entry_at : {C : Type 0} → Option (PreprocessedTracesData C) → ℕ → Bool
has_entry_at preprocessed i = is_there (entry_of preprocessed i)

abbrev pub has_lookups_at : {F : Type 0} → List (List (LookupData F)) → ℕ → Bool
has_lookups_at lookups i = has_some (get_or lookups i [])

-- what is opened of table i: in each round its matrices stand after those of the tables before it
abbrev pub taken_at : {F E C : Type 0} → Option (PreprocessedTracesData C) → List (List (LookupData F)) → (chunk_counts : List ℕ) → RoundValues E → ℕ → OpenedWithLookups E
taken_at preprocessed lookups chunk_counts r i =
    taken_table (chunk_count_at chunk_counts i) (has_entry_at preprocessed i) (has_lookups_at lookups i) (get_or r.main i [])
    (λ j. get_or r.quotient (count_below (chunk_count_at chunk_counts) i + j) [])
    (get_or r.preprocessed (count_below (λ k. one_where (has_entry_at preprocessed k)) i) []) (get_or r.permutation (count_below (λ k. one_where (has_lookups_at lookups k)) i) [])
