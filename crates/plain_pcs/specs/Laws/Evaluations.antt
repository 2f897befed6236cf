-- The rows and columns of polynomials' values on a domain.
use Rattle.std.proofs.Common.{◌≡◌, ℕ, zero, suc, ◌+◌, ◌*◌, ◌^◌, ◌<◌, ◌≤◌, List, [], ◌++◌, length, get_or, take, drop, map, refl, sym, ◌∙◌, ap, subst, arith}
use Rattle.std.proofs.Math.Seq.{take-add}
use Rattle.std.proofs.lemmas.List.{ext_get_or, take_all, get_or-map, length-map}
use Rattle.p3_field.specs.Field.{TwoAdic}
use Rattle.p3_field.specs.Poly.{eval_poly}
use Rattle.p3_field.specs.Domain.{CosetData, point}
use Rattle.p3_matrix.specs.Matrix.{Rows, FillsRows, height, row_at, column}
use Rattle.p3_matrix.specs.Laws.Cells.{length-column, get_or-column}
use Rattle.p3_matrix.specs.Laws.Grids.{product_fills, product_height}
use Rattle.p3_matrix.specs.Laws.Transposed.{rows_of, HasRows, no_rows, more_rows, range_width, length-row_at, get_or-row_at}
use Rattle.p3_dft.specs.Transform.{values_at}
use Rattle.p3_dft.specs.Laws.Values.{length-values_at, get_or-values_at}
use Rattle.plain_pcs.specs.Extension.{row_major, evaluations}

-- rows one after another are the rows of the list
pub rows-row_major : {A : Type 0} (w n : ℕ) (row : ℕ → List A) → ((i : ℕ) → i < n → length (row i) ≡ w) → HasRows (row_major n row) n w (λ k y. y ≡ row k)
unfolding row_major
rows-row_major w zero row h = no_rows [] w (λ k y. y ≡ row k) refl
rows-row_major w (suc n) row h =
    let e : n + 1 ≡ suc n = omega arith in
    let before = rows-row_major w n row (λ i b. h i (omega arith)) in
    subst (λ (m : ℕ). HasRows (row_major n row ++ row n) m w (λ k y. y ≡ row k)) e
    (more_rows (row_major n row) (row n) (row_major n row ++ row n) n w (λ k y. y ≡ row k) before (h n (omega arith)) refl refl)

pub row_major_same : {A : Type 0} (n : ℕ) (f g : ℕ → List A) → ((i : ℕ) → i < n → f i ≡ g i) → row_major n f ≡ row_major n g
unfolding row_major
row_major_same zero f g h = refl
row_major_same (suc n) f g h = cc (row_major_same n f g (λ i b. h i (omega arith)), h n (omega arith))

first_rows : {A : Type 0} (xs : List A) (w n : ℕ) → take (n * w) xs ≡ row_major n (row_at (rows_of xs w))
unfolding row_major
first_rows xs w zero = let e : zero * w ≡ zero = omega arith in ap (λ k. take k xs) e
first_rows xs w (suc n) =
    let e : suc n * w ≡ n * w + w = omega arith in
    let last : take w (drop (n * w) xs) ≡ row_at (rows_of xs w) n = ap (λ k. take k (drop (n * w) xs)) (sym (range_width (n * w) w)) in
    ap (λ k. take k xs) e ∙ (take-add (n * w) w xs ∙ cc (first_rows xs w n, last))

-- a matrix is its rows, one after another
pub values_by_rows : {F : Type 0} (m : Rows F) → FillsRows m.values m.width → m.values ≡ row_major (height m) (row_at m)
values_by_rows m h =
    let all : length m.values ≤ height m * m.width = omega (arith, h) in
    sym (take_all (height m * m.width) m.values all) ∙ first_rows m.values m.width (height m)

module _ {F : Type 0} (t : TwoAdic F) (d : CosetData F) (fs : List (List F)) (some : 0 < length fs) where
  row_of : ℕ → List F
  row_of i = map (λ f. eval_poly t.ring f (point t.ring t.root d i)) fs

  rows_are : HasRows (evaluations t d fs).values (2 ^ d.log_size) (length fs) (λ k y. y ≡ map (λ f. eval_poly t.ring f (point t.ring t.root d k)) fs)
  unfolding evaluations
  rows_are = rows-row_major (length fs) (2 ^ d.log_size) (λ i. map (λ f. eval_poly t.ring f (point t.ring t.root d i)) fs) (λ i b. length-map fs (λ f. eval_poly t.ring f (point t.ring t.root d i)))

  pub width-evaluations : (evaluations t d fs).width ≡ length fs
  unfolding evaluations
  width-evaluations = refl

  pub evaluations-fill : FillsRows (evaluations t d fs).values (evaluations t d fs).width
  unfolding evaluations
  evaluations-fill = product_fills (evaluations t d fs).values (2 ^ d.log_size) (length fs) rows_are.count

  pub height-evaluations : height (evaluations t d fs) ≡ 2 ^ d.log_size
  unfolding evaluations
  height-evaluations = product_height (evaluations t d fs).values (2 ^ d.log_size) (length fs) rows_are.count some

  row-evaluations : (i : ℕ) → i < 2 ^ d.log_size → row_at (evaluations t d fs) i ≡ map (λ f. eval_poly t.ring f (point t.ring t.root d i)) fs
  unfolding evaluations
  row-evaluations i b = rows_are.rows i b

  -- a column has the values of its polynomial
  pub column-evaluations : (j : ℕ) → j < length fs → column t.ring.zero (evaluations t d fs) j ≡ values_at t.ring (point t.ring t.root d) (2 ^ d.log_size) (get_or fs j [])
  column-evaluations j b =
      let z = t.ring.zero in
      let m = evaluations t d fs in
      let n = 2 ^ d.log_size in
      let p = point t.ring t.root d in
      let f = get_or fs j [] in
      let inside : j < m.width = omega (arith, width-evaluations) in
      ext_get_or z (column z m j) (values_at t.ring p n f) (length-column z m j ∙ (height-evaluations ∙ sym (length-values_at t.ring p n f)))
      (λ i a.
      let below : i < height m = omega (arith, length-column z m j) in
      let within : i < n = omega (arith, height-evaluations) in
      get_or-column z m j i below ∙ (sym (get_or-row_at m i j z inside)
      ∙ (ap (λ l. get_or l j z) (row-evaluations i within) ∙ (get_or-map (λ g. eval_poly t.ring g (p i)) fs j [] z b
      ∙ sym (get_or-values_at t.ring p n f i z within)))))

  -- a matrix with such columns
  pub evaluations_of_columns : (m : Rows F) → FillsRows m.values m.width → m.width ≡ length fs
      → ((j : ℕ) → j < length fs → column t.ring.zero m j ≡ values_at t.ring (point t.ring t.root d) (2 ^ d.log_size) (get_or fs j [])) → m ≡ evaluations t d fs
  unfolding evaluations
  evaluations_of_columns m fills wide cols =
      let z = t.ring.zero in
      let n = 2 ^ d.log_size in
      let p = point t.ring t.root d in
      let high : height m ≡ n = sym (length-column z m 0) ∙ (ap length (cols 0 some) ∙ length-values_at t.ring p n (get_or fs 0 [])) in
      let row : (i : ℕ) → i < n → row_at m i ≡ map (λ f. eval_poly t.ring f (p i)) fs = λ i b.
      let below : i < height m = omega (arith, high) in
      let long = length-row_at m fills i below in
      ext_get_or z (row_at m i) (map (λ f. eval_poly t.ring f (p i)) fs) (long ∙ (wide ∙ sym (length-map fs (λ f. eval_poly t.ring f (p i)))))
      (λ j a.
      let inside : j < m.width = omega (arith, long) in
      let across : j < length fs = omega (arith, wide) in
      get_or-row_at m i j z inside ∙ (sym (get_or-column z m j i below) ∙ (ap (λ l. get_or l i z) (cols j across)
      ∙ (get_or-values_at t.ring p n (get_or fs j []) i z b ∙ sym (get_or-map (λ f. eval_poly t.ring f (p i)) fs j [] z across))))) in
      let values : m.values ≡ row_major n (λ i. map (λ f. eval_poly t.ring f (p i)) fs) = values_by_rows m fills ∙ (ap (λ k. row_major k (row_at m)) high ∙ row_major_same n (row_at m) (λ i. map (λ f. eval_poly t.ring f (p i)) fs) row) in
      same_rows m.values (row_major n (λ i. map (λ f. eval_poly t.ring f (p i)) fs)) m.width (length fs) values wide
    where
      same_rows : {A : Type 0} (a b : List A) (v w : ℕ) → a ≡ b → v ≡ w → rows_of a v ≡ rows_of b w
      same_rows a b v w e f = cc
