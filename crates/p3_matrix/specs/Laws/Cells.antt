-- Cells, rows and columns.
use Rattle.std.proofs.Common.{◌≡◌, ℕ, zero, suc, ◌+◌, ◌*◌, ◌/◌, ◌%◌, ◌^◌, ◌<◌, inl, inr, length, get_or, sym, ◌∙◌, ap, arith}
use Rattle.std.specs.Int.{IsPowerOfTwo}
use Rattle.std.proofs.lemmas.Bool.{cases_eq}
use Rattle.std.proofs.Math.Nat.{div-lt_iff_lt-mul}
use Rattle.std.proofs.lemmas.Nat.{div-add-mod', mod_below, pow_pos}
use Rattle.std.proofs.lemmas.List.{ext_get_or}
use Rattle.p3_matrix.specs.Matrix.{Rows, FillsRows, height, cell_at, column}
use Rattle.p3_field.specs.Laws.Tabulate.{length-tabulate, get_or-tabulate}

pub length-column : {F : Type 0} (d : F) (m : Rows F) (j : ℕ) → length (column d m j) ≡ height m
unfolding column
length-column d m j = length-tabulate (height m) (λ i. cell_at d m i j)

-- row i of column j
pub get_or-column : {F : Type 0} (d : F) (m : Rows F) (j i : ℕ) → i < height m → get_or (column d m j) i d ≡ cell_at d m i j
unfolding column
get_or-column d m j i h = get_or-tabulate (height m) (λ i. cell_at d m i j) i d h

-- place n of a grid of h rows by w columns is in row n / w and column n % w
place_in_grid : (n h w : ℕ) → n < h * w → (n / w < h) × (n % w < w)
place_in_grid n h zero b = let e : h * zero ≡ zero = omega arith in absurd (omega (arith, b, e))
place_in_grid n h (suc w) b = let p : zero < suc w = omega arith in ((div-lt_iff_lt-mul p).1 b, mod_below n (suc w) p)

-- matrices of one width and height with the same columns are one
pub same_matrix : {F : Type 0} (d : F) (m v : Rows F) → FillsRows m.values m.width → FillsRows v.values v.width → v.width ≡ m.width → height v ≡ height m
    → ((j : ℕ) → j < m.width → column d v j ≡ column d m j) → v ≡ m
same_matrix {F} d m v fills filled width rows columns = λ i. record { values = values i; width = width i }
  where
    count : length v.values ≡ length m.values
    count = sym filled ∙ (ap (λ n. n * v.width) rows ∙ (ap (λ n. height m * n) width ∙ fills))

    each : (n : ℕ) → n < length v.values → get_or v.values n d ≡ get_or m.values n d
    each n b =
        let w = m.width in
        let inside : n < height m * w = omega (arith, b, count, fills) in
        let (row, place) = place_in_grid n (height m) w inside in
        let at : n / w * w + n % w ≡ n = div-add-mod' n w in
        let turned : n / w * v.width + n % w ≡ n = ap (λ k. n / w * k + n % w) width ∙ at in
        let low : n / w < height v = omega (arith, row, rows) in
        ap (λ k. get_or v.values k d) (sym turned)
        ∙ (sym (get_or-column d v (n % w) (n / w) low)
        ∙ (ap (λ l. get_or l (n / w) d) (columns (n % w) place)
        ∙ (get_or-column d m (n % w) (n / w) row ∙ ap (λ k. get_or m.values k d) at)))

    values : v.values ≡ m.values
    values = ext_get_or d v.values m.values count each

by_zero : (n : ℕ) → n / 0 ≡ 0
by_zero n = omega arith

-- a matrix with rows has columns
pub width_positive : {F : Type 0} (m : Rows F) → IsPowerOfTwo (height m) → 0 < m.width
width_positive m p = elim (cases_eq m.width 0) [
  | inl z ↦
      let none : height m ≡ 0 = ap (λ w. length m.values / w) z ∙ by_zero (length m.values) in
      absurd (let q : 0 < 2 ^ p.0 = pow_pos p.0 in omega (arith, none, p.1))
  | inr d ↦ omega arith
]
