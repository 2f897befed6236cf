-- What a table reads has the declared lengths where no check of its shape fails.
use Rattle.std.proofs.Common.{◌≡◌, ℕ, zero, suc, ◌+◌, ◌*◌, ◌/◌, ◌<◌, Bool, true, false, cond, List, [], ◌∷◌, ◌++◌, Option, None, Some, length, replicate, All, refl, sym, ◌∙◌, ap, arith}
use Rattle.std.proofs.Math.Nat.{mul-div_cancel}
use Rattle.std.proofs.lemmas.List.{length-map, length-replicate}
use Rattle.std.specs.Prelude.{option_to_list, slice_range}
use Rattle.p3_field.specs.Checks.{NoneFails}
use Rattle.p3_field.specs.Domain.{CosetData}
use Rattle.p3_field.specs.Field.{TwoAdic, Extension, combine}
use Rattle.p3_field.specs.Laws.Checks.{none_before, none_after}
use Rattle.p3_field.specs.Laws.Tabulate.{length-tabulate}
use Rattle.air_core.specs.Shape.{Declaration, width_of}
use Rattle.p3_uni_stark.specs.Opened.{PreprocessedData}
use Rattle.verifier_identity.specs.Identity.{HasDeclaredLengths}
use Rattle.verifier_identity.specs.PeriodicValues.{periodic_value}
use Rattle.batch_statement.specs.Proof.{OpenedWithLookups}
use Rattle.verifier_shape.specs.ShapeChecks.{chunk_checks, is_some, lookup_checks, main_checks, next_check, next_length, permutation_width, preprocessed_checks, preprocessed_next_of, table_checks}
use Rattle.batch_statement.specs.Words.{has_some, is_there}
use Rattle.verifier_identity.specs.TableIdentity.{next_row_or_zeros, opened_table, permutation_column_count, preprocessed_local_of}

-- a main row
next_is : {E : Type 0} (R : Type 0) (z : E) (i width : ℕ) (declared : List ℕ) (row : Option (List E)) → (next_check {R = R} i width declared row).holds
    → length (next_row_or_zeros (replicate width z) declared row) ≡ width
next_is R z i width [] row h = length-replicate width z
next_is R z i width (c ∷ cs) None h = let none : Option ℕ = None in let w : none ≡ Some width = h in absurd cc
next_is R z i width (c ∷ cs) (Some xs) h = let w : Some (length xs) ≡ Some width = h in cc

-- a preprocessed one
declared_next : {E : Type 0} (z : E) (n : ℕ) (declared : List ℕ) (row : Option (List E)) → next_length row ≡ cond (has_some declared) (suc n) 0
    → length (next_row_or_zeros (replicate (suc n) z) declared row) ≡ suc n
declared_next z n [] row h = length-replicate (suc n) z
declared_next z n (c ∷ cs) None h = let w : 0 ≡ suc n = h in absurd (omega arith)
declared_next z n (c ∷ cs) (Some xs) h = h

undeclared_next : {E : Type 0} (z : E) (declared : List ℕ) → length (next_row_or_zeros (replicate 0 z) declared None) ≡ 0
undeclared_next z [] = refl
undeclared_next z (c ∷ cs) = refl

preprocessed_are : {E : Type 0} (R : Type 0) (z : E) (i width : ℕ) (declared : List ℕ) (p : Option (PreprocessedData E)) → NoneFails (preprocessed_checks {R = R} i width declared p)
    → (length (preprocessed_local_of p) ≡ width) × (length (next_row_or_zeros (replicate width z) declared (preprocessed_next_of p)) ≡ width)
unfolding NoneFails
preprocessed_are R z i zero declared None h = (refl, undeclared_next z declared)
preprocessed_are R z i zero declared (Some p) h = let w : true ≡ false = h.0 in absurd cc
preprocessed_are R z i (suc n) declared None h = absurd h.0
preprocessed_are R z i (suc n) declared (Some p) h = (h.0.0, declared_next z n declared p.next h.0.1)

-- permutation columns and terminals, where there are lookups
columns_are : (n : ℕ) → 0 < n → permutation_column_count n ≡ n + 1
columns_are zero h = absurd (omega arith)
columns_are (suc n) h = refl

terminal_is : {E : Type 0} (n : ℕ) (t : Option E) → is_there t ≡ is_some n → 0 < n → length (option_to_list t) ≡ 1
terminal_is zero t e h = absurd (omega arith)
terminal_is (suc n) None e h = let w : false ≡ true = e in absurd cc
terminal_is (suc n) (Some x) e h = refl

-- a permutation row has a value for each coefficient of each column
pub width_is : (n dimension : ℕ) → permutation_width n dimension ≡ permutation_column_count n * dimension
width_is zero dimension = sym (omega arith)
width_is (suc n) dimension = refl

-- so the number of columns is that of the values over the dimension
pub columns_found : (n dimension d len : ℕ) → 0 < dimension → d ≡ dimension → len ≡ permutation_width n dimension → len / d ≡ permutation_column_count n
columns_found n dimension d len pos same e =
    ap (λ k. len / k) same ∙ (ap (λ k. k / dimension) (e ∙ width_is n dimension) ∙ mul-div_cancel (permutation_column_count n) pos)

module _ {F E : Type 0} (R : Type 0) (i : ℕ) (d : Declaration F) (publics chunks dimension lookups : ℕ) (o : OpenedWithLookups E) (terminal : Bool)
    (h : NoneFails (table_checks {R = R} i d publics chunks dimension lookups o terminal)) where
  main_part : NoneFails (main_checks {R = R} i d publics o.base)
  unfolding table_checks
  main_part =
      let a = main_checks {R = R} i d publics o.base in
      let b = chunk_checks {R = R} i chunks dimension o.base in
      let p = preprocessed_checks {R = R} i (width_of d.preprocessed) d.preprocessed_next o.base.preprocessed in
      let l = lookup_checks {R = R} i lookups dimension o terminal in
      none_before a b (none_before (a ++ b) p (none_before (a ++ b ++ p) l h))

  chunk_part : NoneFails (chunk_checks {R = R} i chunks dimension o.base)
  unfolding table_checks
  chunk_part =
      let a = main_checks {R = R} i d publics o.base in
      let b = chunk_checks {R = R} i chunks dimension o.base in
      let p = preprocessed_checks {R = R} i (width_of d.preprocessed) d.preprocessed_next o.base.preprocessed in
      let l = lookup_checks {R = R} i lookups dimension o terminal in
      none_after a b (none_before (a ++ b) p (none_before (a ++ b ++ p) l h))

  preprocessed_part : NoneFails (preprocessed_checks {R = R} i (width_of d.preprocessed) d.preprocessed_next o.base.preprocessed)
  unfolding table_checks
  preprocessed_part =
      let a = main_checks {R = R} i d publics o.base in
      let b = chunk_checks {R = R} i chunks dimension o.base in
      let p = preprocessed_checks {R = R} i (width_of d.preprocessed) d.preprocessed_next o.base.preprocessed in
      let l = lookup_checks {R = R} i lookups dimension o terminal in
      none_after (a ++ b) p (none_before (a ++ b ++ p) l h)

  lookup_part : NoneFails (lookup_checks {R = R} i lookups dimension o terminal)
  unfolding table_checks
  lookup_part =
      let a = main_checks {R = R} i d publics o.base in
      let b = chunk_checks {R = R} i chunks dimension o.base in
      let p = preprocessed_checks {R = R} i (width_of d.preprocessed) d.preprocessed_next o.base.preprocessed in
      let l = lookup_checks {R = R} i lookups dimension o terminal in
      none_after (a ++ b ++ p) l h

  -- the quotient's chunks
  pub chunks_are : (length o.base.quotient_chunks ≡ chunks) × All (λ c. length c ≡ dimension) o.base.quotient_chunks
  unfolding NoneFails
  chunks_are = (chunk_part.0, chunk_part.1.0)

  -- the permutation rows
  pub rows_are : (length o.permutation_local ≡ permutation_width lookups dimension) × (length o.permutation_next ≡ permutation_width lookups dimension)
  unfolding NoneFails
  rows_are = lookup_part.0

  public_are : publics ≡ d.public_values
  unfolding NoneFails
  public_are = main_part.0

  local_are : length o.base.trace_local ≡ d.width
  unfolding NoneFails
  local_are = main_part.1.0

  trace_next_are : (z : E) → length (next_row_or_zeros (replicate d.width z) d.main_next o.base.trace_next) ≡ d.width
  unfolding NoneFails
  trace_next_are z = next_is R z i d.width d.main_next o.base.trace_next main_part.1.1.0

  presence : terminal ≡ is_some lookups
  unfolding NoneFails
  presence = lookup_part.1.0

  -- so the table reads values of the declared lengths
  pub declared_lengths : (f : TwoAdic F) (e : Extension F E) (domain : CosetData F) (values : List F) (challenges : List E) (t : Option E) (zeta : E) → length values ≡ publics → terminal ≡ is_there t
      → length challenges ≡ 2 * lookups → HasDeclaredLengths d lookups (opened_table f e domain d lookups values challenges (option_to_list t) zeta o)
  declared_lengths f e domain values challenges t zeta many there pairs =
      let p = preprocessed_are R e.ring.zero i (width_of d.preprocessed) d.preprocessed_next o.base.preprocessed preprocessed_part in
      let combined = λ (row : List E) (j : ℕ). combine e.ring e.basis 0 (slice_range row (j * e.dimension) (j * e.dimension + e.dimension)) in
      record {
        trace_local = local_are;
        trace_next = trace_next_are e.ring.zero;
        preprocessed_local = p.0;
        preprocessed_next = p.1;
        periodic = length-map d.periodic (periodic_value f e domain zeta);
        public = many ∙ public_are;
        permutation_local = λ some. length-tabulate (permutation_column_count lookups) (combined o.permutation_local) ∙ columns_are lookups some;
        permutation_next = λ some. length-tabulate (permutation_column_count lookups) (combined o.permutation_next) ∙ columns_are lookups some;
        challenges = pairs;
        terminals = λ some. terminal_is lookups t (sym there ∙ presence) some;
      }
