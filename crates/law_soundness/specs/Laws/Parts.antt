-- The rows that belong to a table's preprocessed and permutation matrices, where it has them, and where it has none.
use Rattle.std.proofs.Common.{◌≡◌, ℕ, zero, suc, ◌<◌, List, [], ◌∷◌, Option, None, Some, length, get_or, refl, subst, arith}
use Rattle.std.specs.Prelude.{slice_get}
use Rattle.plain_pcs.specs.Scheme.{Scheme, PlainCommitmentData}
use Rattle.batch_statement.specs.Statement.{HasEntryOf, HasPlace, IsPlaced, PreprocessedTracesData, entry_of, within_entries}
use Rattle.batch_statement.specs.declared.preprocessed.PreprocessedInstanceMeta.{PreprocessedInstanceMeta}
use Rattle.verifier_shape.specs.ShapeChecks.{HasEntries}
use Rattle.verifier_claims.specs.Claims.{commitment_in, matrix_tables}
use Rattle.law_soundness.specs.Commitment.{polynomials_at}
use Rattle.law_soundness.specs.CommittedBatch.{permutation_of, preprocessed_at, preprocessed_of}

-- all tables are instances where the lists have an item for each
pub all_within : {C : Type 0} (g : Option (PreprocessedTracesData C)) (n i : ℕ) → HasEntries n g → i < n → i < within_entries g n
all_within None n i h l = l
all_within (Some g) n i h l = omega (arith, h, l)

-- a table's entry names its place among the matrices
pub entry_names : {C : Type 0} (g : Option (PreprocessedTracesData C)) (i : ℕ) (m : PreprocessedInstanceMeta) → HasPlace g i → entry_of g i ≡ Some m
    → slice_get (matrix_tables g) m.matrix_index ≡ Some i
entry_names None i m h q = absurd cc
entry_names (Some g) i m h q = let placed : IsPlaced g.matrix_to_instance i (Some m) = subst (IsPlaced g.matrix_to_instance i) q h in placed

-- without an entry it has no preprocessed columns
pub no_columns : (width : ℕ) (entry : Option PreprocessedInstanceMeta) → HasEntryOf width entry → entry ≡ None → width ≡ 0
no_columns width None h q = h
no_columns width (Some m) h q = absurd cc

-- a list of length zero is empty
pub none_long : {A : Type 0} (xs : List A) → length xs ≡ 0 → xs ≡ []
none_long [] h = refl
none_long (x ∷ xs) h = absurd (omega (arith, h))

-- What holds of a table's preprocessed polynomials, and of its permutation polynomials, whether or not it has some.
module _ {F : Type 0} (s : Scheme F) (k : ℕ) (Q : List (List F) → Type 0) where
  fixed_by_entry : (commitment : PlainCommitmentData F) (entry : Option PreprocessedInstanceMeta) → (entry ≡ None → Q [])
      → ((m : PreprocessedInstanceMeta) → entry ≡ Some m → Q (polynomials_at s k commitment m.matrix_index)) → Q (preprocessed_at s k commitment entry)
  fixed_by_entry commitment None none some = none refl
  fixed_by_entry commitment (Some m) none some = some m refl

  pub fixed_has : (g : Option (PreprocessedTracesData (PlainCommitmentData F))) (i : ℕ) → (entry_of g i ≡ None → Q [])
      → ((commitment : PlainCommitmentData F) (m : PreprocessedInstanceMeta) → commitment_in g ≡ Some commitment → entry_of g i ≡ Some m → Q (polynomials_at s k commitment m.matrix_index))
      → Q (preprocessed_of s k g i)
  fixed_has None i none some = none refl
  fixed_has (Some g) i none some = fixed_by_entry g.commitment (get_or g.instances i None) none (λ m q. some g.commitment m refl q)

  pub sums_have : (o : Option (PlainCommitmentData F)) (place lookups : ℕ) → (lookups ≡ 0 → Q []) → (0 < lookups → (commitment : PlainCommitmentData F) × (o ≡ Some commitment))
      → ((commitment : PlainCommitmentData F) → o ≡ Some commitment → 0 < lookups → Q (polynomials_at s k commitment place)) → Q (permutation_of s k o place lookups)
  sums_have None place zero none there some = none refl
  sums_have None place (suc n) none there some = let q = (there (omega arith)).1 in absurd cc
  sums_have (Some commitment) place zero none there some = none refl
  sums_have (Some commitment) place (suc n) none there some = some commitment refl (omega arith)
