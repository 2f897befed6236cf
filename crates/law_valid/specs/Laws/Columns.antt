-- Matrices that are given row by row.
use Rattle.std.proofs.Common.{◌≡◌, ℕ, zero, suc, ◌+◌, ◌-◌, ◌*◌, ◌/◌, ◌<◌, List, [], ◌∷◌, ◌++◌, length, get_or, take, drop, refl, sym, ◌∙◌, ap, arith}
use Rattle.std.specs.List.{flat_map}
use Rattle.std.proofs.Math.Nat.{div-one, mul-div_cancel}
use Rattle.p3_matrix.specs.Matrix.{Rows, height, row_at}
use Rattle.p3_matrix.specs.Laws.Flattened.{length-pieces, row_at-pieces}
use Rattle.law_committed.specs.Traces.{IsTall}

append_nothing : {A : Type 0} (xs : List A) → xs ++ [] ≡ xs
append_nothing [] = refl
append_nothing (x ∷ xs) = ap (λ ys. x ∷ ys) (append_nothing xs)

-- a matrix of one column
abbrev pub one_column : {A : Type 0} → List A → Rows A
one_column xs = record { values = xs; width = 1 }

one_item : {A : Type 0} (xs : List A) (i : ℕ) (z : A) → i < length xs → take 1 (drop i xs) ≡ get_or xs i z ∷ []
one_item [] i z h = absurd (omega (arith, h))
one_item (x ∷ xs) zero z h = refl
one_item (x ∷ xs) (suc i) z h = one_item xs i z (omega (arith, h))

-- its rows are its items
pub column_row : {A : Type 0} (xs : List A) (i : ℕ) (z : A) → i < length xs → row_at (one_column xs) i ≡ get_or xs i z ∷ []
column_row xs i z h =
    let at : i * 1 ≡ i = omega arith in
    let long : (i * 1 + 1) - i * 1 ≡ 1 = omega arith in
    (λ j. take (long j) (drop (at j) xs)) ∙ one_item xs i z h

pub column_height : {A : Type 0} (xs : List A) → height (one_column xs) ≡ length xs
column_height xs = div-one (length xs)

pub column_tall : {A : Type 0} (n : ℕ) (xs : List A) → length xs ≡ n → IsTall n (one_column xs)
column_tall n xs e =
    let h = column_height xs in
    record { fills = (let m : length xs / 1 * 1 ≡ length xs / 1 = omega arith in m ∙ h); tall = λ _. h ∙ e }

-- a matrix of rows of d cells
module _ {X Y : Type 0} (f : X → List Y) (d : ℕ) (long : (x : X) → length (f x) ≡ d) where
  abbrev pub pieces : List X → Rows Y
  pieces xs = record { values = flat_map f xs; width = d }

  pub pieces_height : 0 < d → (xs : List X) → height (pieces xs) ≡ length xs
  pieces_height pos xs = ap (λ n. n / d) (length-pieces f d long xs) ∙ mul-div_cancel (length xs) pos

  pub pieces_tall : 0 < d → (n : ℕ) (xs : List X) → length xs ≡ n → IsTall n (pieces xs)
  pieces_tall pos n xs e =
      let h = pieces_height pos xs in
      record { fills = ap (λ m. m * d) h ∙ sym (length-pieces f d long xs); tall = λ _. h ∙ e }

  pub pieces_row : (xs : List X) (i : ℕ) (z : X) → i < length xs → row_at (pieces xs) i ≡ f (get_or xs i z)
  pieces_row xs i z h =
      let wide : d ≡ 1 * d = omega arith in
      row_at-pieces f d long (one_column xs) (pieces xs) i refl wide
      ∙ (ap (flat_map f) (column_row xs i z h) ∙ append_nothing (f (get_or xs i z)))
