-- Rows, and rows and columns exchanged.
use Rattle.std.proofs.Common.{◌≡◌, ℕ, ◌+◌, ◌-◌, ◌*◌, ◌/◌, ◌≤◌, ◌<◌, inl, inr, List, [], ◌++◌, subst, length-append, length, take, get_or, drop, sym, ◌∙◌, ap, arith, length-drop}
use Rattle.std.proofs.Math.Nat.{mul_comm, mul-le-mul_right}
use Rattle.std.proofs.lemmas.Bool.{cases_lt}
use Rattle.std.proofs.lemmas.List.{ext_get_or, get_or-take, get_or-drop, length-take-le, drop-append-le, take-append-le, drop_at, take_all}
use Rattle.p3_matrix.specs.Matrix.{Rows, FillsRows, height, row_at, cell_at, column}
use Rattle.p3_matrix.specs.Laws.Cells.{length-column, get_or-column}
use Rattle.p3_matrix.specs.Laws.Grids.{product_fills, product_height}

row_fits : (i h w n : ℕ) → h * w ≡ n → i < h → i * w + w ≤ n
row_fits i h w n e a =
    let b : (i + 1) * w ≤ h * w = mul-le-mul_right w (omega arith) in
    omega (arith, b, e)

-- how many values a row takes
pub range_width : (a w : ℕ) → (a + w) - a ≡ w
range_width a w = omega arith

-- a cell in its row
pub get_or-row_at : {F : Type 0} (m : Rows F) (i j : ℕ) (d : F) → j < m.width → get_or (row_at m i) j d ≡ cell_at d m i j
get_or-row_at m i j d b =
    let at = i * m.width in
    let c : j < (at + m.width) - at = omega (arith, range_width at m.width) in
    get_or-take ((at + m.width) - at) (drop at m.values) j d c ∙ get_or-drop at m.values j d

module _ {F : Type 0} (m : Rows F) (h : FillsRows m.values m.width) where
  pub length-row_at : (i : ℕ) → i < height m → length (row_at m i) ≡ m.width
  length-row_at i a =
      let at = i * m.width in
      let fits : at + m.width ≤ length m.values = row_fits i (height m) m.width (length m.values) h a in
      let n : (at + m.width) - at ≤ length (drop at m.values) = omega (arith, length-drop at m.values) in
      length-take-le ((at + m.width) - at) (drop at m.values) n ∙ range_width at m.width

-- the rows of a list of values
abbrev pub rows_of : {A : Type 0} → List A → ℕ → Rows A
rows_of xs w = record { values = xs; width = w }

-- one row more: the others stay, and the last is the new one
old_row : {A : Type 0} (xs ys : List A) (n w k : ℕ) → length xs ≡ n * w → k < n → row_at (rows_of (xs ++ ys) w) k ≡ row_at (rows_of xs w) k
old_row xs ys n w k e b =
    let at = k * w in
    let fits : at + w ≤ length xs = row_fits k n w (length xs) (sym e) b in
    let start : at ≤ length xs = omega arith in
    let long : (at + w) - at ≤ length (drop at xs) = omega (arith, length-drop at xs) in
    ap (take ((at + w) - at)) (drop-append-le at xs ys start) ∙ take-append-le ((at + w) - at) (drop at xs) ys long

new_row : {A : Type 0} (xs ys : List A) (n w : ℕ) → length xs ≡ n * w → length ys ≡ w → row_at (rows_of (xs ++ ys) w) n ≡ ys
new_row xs ys n w e d =
    let at = n * w in
    let whole : length ys ≤ (at + w) - at = omega (arith, range_width at w) in
    ap (take ((at + w) - at)) (drop_at xs ys at e) ∙ take_all ((at + w) - at) ys whole

-- xs has n rows of w values, and P holds of each row
pub record HasRows {A : Type 0} (xs : List A) (n w : ℕ) (P : ℕ → List A → Type 0) : Type 0 where
  pub count : length xs ≡ n * w
  pub rows : (k : ℕ) → k < n → P k (row_at (rows_of xs w) k)

pub no_rows : {A : Type 0} (xs : List A) (w : ℕ) (P : ℕ → List A → Type 0) → xs ≡ [] → HasRows xs 0 w P
no_rows xs w P e = record { count = ap length e ∙ omega arith; rows = λ k b. absurd (omega arith) }

pub more_rows : {A : Type 0} (xs ys zs : List A) (n w : ℕ) (P : ℕ → List A → Type 0) → HasRows xs n w P → length ys ≡ w → P n ys → zs ≡ xs ++ ys → HasRows zs (n + 1) w P
more_rows xs ys zs n w P R e p q = record { count = ap length q ∙ (length-append xs ys ∙ total); rows = all }
  where
    total : length xs + length ys ≡ (n + 1) * w
    total = omega (arith, R.count, e)

    all : (k : ℕ) → k < n + 1 → P k (row_at (rows_of zs w) k)
    all k b = elim (cases_lt k n) [
      | inl c ↦ subst (P k) (sym (ap (λ l. row_at (rows_of l w) k) q ∙ old_row xs ys n w k R.count c)) (R.rows k c)
      | inr c ↦
          let s : k ≡ n = omega arith in
          subst (λ j. P j (row_at (rows_of zs w) j)) (sym s) (subst (P n) (sym (ap (λ l. row_at (rows_of l w) n) q ∙ new_row xs ys n w R.count e)) p)
    ]

-- what exchanges the cells, exchanges rows and columns
module _ {F : Type 0} (d : F) (m t : Rows F) (h : FillsRows m.values m.width) (width : t.width ≡ height m) (count : length t.values ≡ length m.values)
    (cells : (i j : ℕ) → i < height m → j < m.width → cell_at d t j i ≡ cell_at d m i j) where
  values_count : length t.values ≡ m.width * height m
  values_count = count ∙ (sym h ∙ mul_comm (height m) m.width)

  pub transposed-fills : FillsRows t.values t.width
  transposed-fills = ap (λ w. length t.values / w * w) width ∙ product_fills t.values m.width (height m) values_count

  pub height-transposed : 0 < height m → height t ≡ m.width
  height-transposed pos =
      ap (λ w. length t.values / w) width ∙ product_height t.values m.width (height m) values_count pos

  pub column-transposed : (j : ℕ) → j < height m → column d t j ≡ row_at m j
  column-transposed j b =
      let rows : height t ≡ m.width = height-transposed (omega arith) in
      let long : length (column d t j) ≡ m.width = length-column d t j ∙ rows in
      ext_get_or d (column d t j) (row_at m j) (long ∙ sym (length-row_at m h j b))
      (λ i a. let below : i < m.width = omega arith in
      get_or-column d t j i (omega arith) ∙ (cells j i b below ∙ sym (get_or-row_at m j i d below)))

  pub row_at-transposed : (j : ℕ) → 0 < height m → j < m.width → row_at t j ≡ column d m j
  row_at-transposed j pos b =
      let rows : height t ≡ m.width = height-transposed pos in
      let inside : j < height t = omega arith in
      let long : length (row_at t j) ≡ height m = length-row_at t transposed-fills j inside ∙ width in
      ext_get_or d (row_at t j) (column d m j) (long ∙ sym (length-column d m j))
      (λ i a. let below : i < height m = omega arith in let across : i < t.width = omega arith in
      get_or-row_at t j i d across ∙ (cells i j below b ∙ sym (get_or-column d m j i below)))
