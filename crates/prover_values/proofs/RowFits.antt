-- What is read at a row has all cells that a table with lookups reads.
use Rattle.std.proofs.Common.{◌≡◌, ℕ, zero, suc, ◌<◌, ◌≤◌, Option, Some, None, List, length, refl, sym, ◌∙◌, inl, inr, true, false, arith}
use Rattle.std.specs.Prelude.{IfSome, IsTrue, nat_lt, nat_eq}
use Rattle.std.specs.List.{All}
use Rattle.std.proofs.lemmas.Bool.{cases_lt}
use Rattle.std.proofs.lemmas.Bool.Decides.{nat_tests}
use Rattle.std.proofs.lemmas.List.Folds.{list_any_none}
use Rattle.p3_matrix.specs.Matrix.{Rows, height}
use Rattle.air_core.specs.Check.{preprocessed_row}
use Rattle.air_core.specs.Shape.{Declaration, Fits, declared_shape, has, width_of}
use Rattle.prover_folder.specs.FolderState.{given_shape}
use Rattle.prover_values.specs.QuotientRows.{QuotientRows, given_at, permutation_column_count}
use Rattle.prover_values.specs.Laws.Reads.{row_long}

differs_above : (m n w : ℕ) → m < w → w ≤ n → nat_eq m n ≡ false
differs_above m n w h k = grind (arith, nat_tests)

is_below : (m n : ℕ) → m < n → IsTrue (nat_lt m n)
is_below m n h = grind (arith, nat_tests)

false_is_not_true : false ≡ true → ⊥
false_is_not_true e = cc

-- a number of a list is below what all are below
has_below : (ns : List ℕ) (w n : ℕ) → All (λ c. c < w) ns → IsTrue (has ns n) → n < w
has_below ns w n below h = elim (cases_lt n w) [
  | inl less ↦ less
  | inr more ↦ absurd (false_is_not_true (sym (list_any_none (λ m. nat_eq m n) ns (λ k d at. differs_above _ n w (below k d at) more)) ∙ h))
]

-- a row of a matrix that may be absent has a value for each column
some_long : {X : Type 0} (m : Option (Rows X)) (n i : ℕ) → IfSome m (λ r. height r ≡ n) → i < n → length (preprocessed_row m i) ≡ width_of m
some_long None n i tall h = refl
some_long (Some m) n i tall h = row_long m i (omega (arith, tall, h))

module _ {F E : Type 0} (d : Declaration F) (z : F) (q : QuotientRows F E) (periodic : List F) (powers : List E) (n i j : ℕ) (low : i < n) (next : j < n) where
  -- the row has the cells that the AIR declares
  pub row_fits : All (λ c. c < d.width) d.main_next → All (λ c. c < width_of d.preprocessed) d.preprocessed_next → height q.main ≡ n → q.main.width ≡ d.width
      → IfSome q.preprocessed (λ r. height r ≡ n) → width_of q.preprocessed ≡ width_of d.preprocessed → length periodic ≡ length d.periodic → length q.public_values ≡ d.public_values
      → Fits (declared_shape d) (given_shape (given_at z q periodic powers i j))
  row_fits main_below preprocessed_below tall wide tall_too wide_too periods public =
      let here = row_long q.main i (omega (arith, tall, low)) in
      let after = row_long q.main j (omega (arith, tall, next)) in
      let here_too = some_long q.preprocessed n i tall_too low in
      let after_too = some_long q.preprocessed n j tall_too next in
      record {
        main = omega (arith, here, wide);
        main_next = λ column has_it. is_below _ _ (omega (arith, after, wide, has_below d.main_next d.width column main_below has_it));
        preprocessed = omega (arith, here_too, wide_too);
        preprocessed_next = λ column has_it. is_below _ _ (omega (arith, after_too, wide_too, has_below d.preprocessed_next (width_of d.preprocessed) column preprocessed_below has_it));
        periodic = omega (arith, periods);
        public = omega (arith, public);
      }

  -- and the permutation columns that so many lookups read
  pub columns_fit : (lookups : ℕ) → IfSome q.permutation (λ r. height r ≡ n) → width_of q.permutation ≡ permutation_column_count lookups → 0 < lookups
      → lookups < (given_shape (given_at z q periodic powers i j)).permutation
  columns_fit zero tall wide some = absurd (omega (arith, some))
  columns_fit (suc lookups) tall wide some = omega (arith, some_long q.permutation n i tall low, some_long q.permutation n j tall next, wide)
