-- Lists that hold a grid row after row.
use Rattle.std.proofs.Common.{◌≡◌, ℕ, zero, suc, ◌+◌, ◌*◌, ◌/◌, ◌<◌, inl, inr, List, ◌++◌, length, get_or, refl, sym, ◌∙◌, ap, arith, length-append}
use Rattle.std.proofs.Math.Nat.{mul-div_cancel}
use Rattle.std.proofs.lemmas.Nat.{mul-add-lt}
use Rattle.std.proofs.lemmas.Bool.{cases_lt}
use Rattle.std.proofs.lemmas.List.{get_or_append_left, get_or-append-add}
use Rattle.p3_matrix.specs.Matrix.{Rows, FillsRows, height}

-- a place of the grid is a place of the list
pub in_grid : (i j h w n : ℕ) → h * w ≡ n → i < h → j < w → i * w + j < n
in_grid i j h w n e a b = omega (arith, mul-add-lt i w j h a b, e)

-- the same of a matrix
pub in_matrix : {F : Type 0} (m : Rows F) (i j : ℕ) → FillsRows m.values m.width → i < height m → j < m.width → i * m.width + j < length m.values
in_matrix m i j h a b = in_grid i j (height m) m.width (length m.values) h a b

-- xs has h rows of w values, and G i j in row i and column j
pub record IsGrid {A : Type 0} (d : A) (xs : List A) (h w : ℕ) (G : ℕ → ℕ → A) : Type 0 where
  pub length_is : length xs ≡ h * w
  pub cell_is : (i j : ℕ) → i < h → j < w → get_or xs (i * w + j) d ≡ G i j

-- one row more
pub next_row : {A : Type 0} (d : A) (xs ys zs : List A) (h w : ℕ) (G : ℕ → ℕ → A) → IsGrid d xs h w G → length ys ≡ w → ((j : ℕ) → j < w → get_or ys j d ≡ G h j) → zs ≡ xs ++ ys
    → IsGrid d zs (h + 1) w G
next_row d xs ys zs h w G I e r q = record {
  length_is = ap length q ∙ (length-append xs ys ∙ rows_more);
  cell_is = cells;
}
  where
    rows_more : length xs + length ys ≡ (h + 1) * w
    rows_more = omega (arith, I.length_is, e)

    old : (i j : ℕ) → i < h → j < w → get_or zs (i * w + j) d ≡ G i j
    old i j a b =
        let inside : i * w + j < length xs = omega (arith, in_grid i j h w (h * w) refl a b, I.length_is) in
        ap (λ l. get_or l (i * w + j) d) q ∙ (get_or_append_left xs ys d (i * w + j) inside ∙ I.cell_is i j a b)

    new : (i j : ℕ) → i ≡ h → j < w → get_or zs (i * w + j) d ≡ G i j
    new i j s b =
        let at : i * w + j ≡ length xs + j = omega (arith, ap (λ k. k * w) s, I.length_is) in
        ap (λ l. get_or l (i * w + j) d) q ∙ (ap (λ k. get_or (xs ++ ys) k d) at ∙ (get_or-append-add xs ys j d ∙ (r j b ∙ ap (λ k. G k j) (sym s))))

    cells : (i j : ℕ) → i < h + 1 → j < w → get_or zs (i * w + j) d ≡ G i j
    cells i j a b = elim (cases_lt i h) [
      | inl c ↦ old i j c b
      | inr c ↦ new i j (omega arith) b
    ]

-- a product of two numbers fills rows
pub product_fills : {A : Type 0} (xs : List A) (h w : ℕ) → length xs ≡ h * w → FillsRows xs w
product_fills xs h zero e =
    let n : length xs ≡ 0 = omega arith in
    let z : 0 ≡ length xs = sym n in
    no_rows (length xs / 0) ∙ z
  where
    no_rows : (q : ℕ) → q * 0 ≡ 0
    no_rows q = omega arith
product_fills xs h (suc w) e =
    let rows : length xs / suc w ≡ h = ap (λ k. k / suc w) e ∙ mul-div_cancel h (omega arith) in
    ap (λ k. k * suc w) rows ∙ sym e

pub product_height : {A : Type 0} (xs : List A) (h w : ℕ) → length xs ≡ h * w → 0 < w → length xs / w ≡ h
product_height xs h w e pos = ap (λ k. k / w) e ∙ mul-div_cancel h pos
