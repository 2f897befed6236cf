-- Traces that are given row by row: their sizes, their rows, and one row more.
use Rattle.std.proofs.Common.{◌≡◌, ℕ, zero, suc, ◌+◌, ◌-◌, ◌*◌, ◌<◌, List, [], ◌∷◌, ◌++◌, length, get_or, take, drop, refl, sym, ◌∙◌, ap, arith}
use Rattle.std.specs.List.{flat_map}
use Rattle.std.proofs.lemmas.List.{append-nil, append_assoc}
use Rattle.std.proofs.lemmas.List.Concat.{flat_map-append}
use Rattle.p3_field.specs.Laws.Tabulate.{get_or-tabulate, length-tabulate, tabulate_more}
use Rattle.p3_field.specs.Poly.{tabulate}
use Rattle.p3_matrix.specs.Laws.Flattened.{length-pieces, row_at-pieces}
use Rattle.p3_matrix.specs.Laws.Grids.{product_fills, product_height}
use Rattle.p3_matrix.specs.Matrix.{FillsRows, Rows, height, row_at}
use Rattle.air_equations.specs.Rows.{rows_of, values_of}

module _ {A : Type 0} (width : ℕ) (row : ℕ → List A) (long : (i : ℕ) → length (row i) ≡ width) where
  values_long : (n : ℕ) → length (values_of row n) ≡ n * width
  values_long n = length-pieces row width long (tabulate n (λ i. i)) ∙ ap (λ k. k * width) (length-tabulate n (λ i. i))

  pub rows_fill : (n : ℕ) → FillsRows (values_of row n) width
  rows_fill n = product_fills (values_of row n) n width (values_long n)

  pub rows_height : (n : ℕ) → 0 < width → height (rows_of width row n) ≡ n
  rows_height n pos = product_height (values_of row n) n width (values_long n) pos

  one_item : {B : Type 0} (xs : List B) (i : ℕ) (z : B) → i < length xs → take 1 (drop i xs) ≡ get_or xs i z ∷ []
  one_item [] i z h = absurd (omega (arith, h))
  one_item (x ∷ xs) zero z h = refl
  one_item (x ∷ xs) (suc i) z h = one_item xs i z (omega (arith, h))

  -- row i is `row i`
  pub rows_row : (n i : ℕ) → i < n → row_at (rows_of width row n) i ≡ row i
  rows_row n i h =
      let numbers = tabulate n (λ i. i) in
      let wide : width ≡ 1 * width = omega arith in
      let at : i * 1 ≡ i = omega arith in
      let one : (i * 1 + 1) - i * 1 ≡ 1 = omega arith in
      let item : get_or numbers i 0 ≡ i = get_or-tabulate n (λ i. i) i 0 h in
      row_at-pieces row width long (record { values = numbers; width = 1 }) (rows_of width row n) i refl wide
      ∙ (ap (flat_map row) ((λ j. take (one j) (drop (at j) numbers)) ∙ one_item numbers i 0 (omega (arith, h, length-tabulate n (λ i. i))))
      ∙ (append-nil (row (get_or numbers i 0)) ∙ ap row item))

-- n rows and one more
pub rows_more : {A : Type 0} (row : ℕ → List A) (n : ℕ) (values : List A) → values ≡ values_of row n → values ++ row n ≡ values_of row (n + 1)
rows_more row n values e =
    ap (λ l. l ++ row n) e
    ∙ (ap (λ l. values_of row n ++ l) (sym (append-nil (row n)))
    ∙ (sym (flat_map-append row (tabulate n (λ i. i)) (n ∷ [])) ∙ ap (flat_map row) (tabulate_more n (λ i. i))))

-- the same of a row of two cells, pushed one by one
pub two_more : {A : Type 0} (row : ℕ → List A) (n : ℕ) (values with_first with_both : List A) (x y : A) → values ≡ values_of row n → with_first ≡ values ++ x ∷ [] → with_both ≡ with_first ++ y ∷ []
    → x ∷ y ∷ [] ≡ row n → with_both ≡ values_of row (n + 1)
two_more row n values with_first with_both x y e first both is =
    both ∙ (ap (λ l. l ++ y ∷ []) first ∙ (append_assoc values (x ∷ []) (y ∷ []) ∙ (ap (λ l. values ++ l) is ∙ rows_more row n values e)))
