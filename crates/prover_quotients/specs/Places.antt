-- Where the matrices of each table stand among those that are committed to. After Plonky3's p3-batch-stark (prove_batch).
use Rattle.std.specs.Prelude.{slice_index_or as get_or}
use Rattle.std.specs.Prelude.{ℕ, cond, List, [], take, count_by, Option, None, Some, option_map}
use Rattle.p3_lookup.specs.Lookup.{LookupData}
use Rattle.batch_statement.specs.Words.{has_some}
use Rattle.batch_statement.specs.Statement.{Common, entry_of}
use Rattle.prover_quotients.specs.declared.places.Places.{Places}

-- the permutation columns of table i stand after those of the tables before it that have lookups; without lookups it has none
abbrev pub permutation_matrix_place : {F : Type 0} → List (List (LookupData F)) → ℕ → Option ℕ
permutation_matrix_place lookups i = cond (has_some (get_or lookups i [])) (Some (count_by has_some (take i lookups))) None

-- the preprocessed columns stand where the table's entry says
abbrev pub places_at : {F C : Type 0} → Common F C → ℕ → Places
places_at common i = record {
  main = i;
  preprocessed = option_map (λ e. e.matrix_index) (entry_of common.preprocessed i);
  permutation = permutation_matrix_place common.lookups i;
}
