-- Rows in bit-reversed order, and the butterflies on rows.
use Rattle.std.specs.Prelude.{◌≡◌, ℕ, zero, suc, ◌+◌, ◌*◌, ◌/◌, ◌^◌, ◌<◌, List, [], ◌∷◌, ◌++◌, length, get_or}
use Rattle.p3_field.specs.Ring.{Ring, sub}
use Rattle.p3_field.specs.Poly.{eval_poly, even_part, odd_part, tabulate}
use Rattle.p3_field.specs.Domain.{coset_point}
use Rattle.p3_matrix.specs.Matrix.{Rows, cell_at}

-- 2^k coefficients in bit-reversed order: those at even places before those at odd ones, each in this order
abbrev pub reversed : {A : Type 0} → Ring A → ℕ → List A → List A
reversed r zero f = get_or f 0 r.zero ∷ []
reversed r (suc k) f = reversed r k (even_part f) ++ reversed r k (odd_part f)

-- With x_i = s h^i for the row i of place k: e_k + x_i o_k and e_k - x_i o_k, of rows of so many values
unfoldable pub summed : {A : Type 0} → Ring A → ℕ → A → A → List A → List A → ℕ → A
summed r w s h e o k = r.add (get_or e k r.zero) (r.mul (coset_point r s h (k / w)) (get_or o k r.zero))

unfoldable pub subtracted : {A : Type 0} → Ring A → ℕ → A → A → List A → List A → ℕ → A
subtracted r w s h e o k = sub r (get_or e k r.zero) (r.mul (coset_point r s h (k / w)) (get_or o k r.zero))

-- column j of the rows start, start + stride, .. of a matrix, 2^bits of them, with zeros past its end
abbrev pub strided : {A : Type 0} → Ring A → Rows A → (j start stride bits : ℕ) → List A
strided r m j start stride bits = tabulate (2 ^ bits) (λ i. cell_at r.zero m (start + stride * i) j)

-- after the rows that were there, those of a matrix in bit-reversed order
pub record PutsReversed {A : Type 0} (r : Ring A) (m : Rows A) (start stride bits : ℕ) (old new : List A) : Type 0 where
  pub length_is : length new ≡ length old + 2 ^ bits * m.width
  pub before : (k : ℕ) → k < length old → get_or new k r.zero ≡ get_or old k r.zero
  pub after : (i j : ℕ) → i < 2 ^ bits → j < m.width → get_or new (length old + (i * m.width + j)) r.zero ≡ get_or (reversed r bits (strided r m j start stride bits)) i r.zero

-- column j of these rows has the coefficients of f in bit-reversed order
pub record AreReversed {A : Type 0} (r : Ring A) (w bits : ℕ) (values : List A) (j : ℕ) (f : List A) : Type 0 where
  pub each : (i : ℕ) → i < 2 ^ bits → get_or values (i * w + j) r.zero ≡ get_or (reversed r bits f) i r.zero

-- column j of these rows has the values of f at the points s h^i
pub record AreValues {A : Type 0} (r : Ring A) (w : ℕ) (s h : A) (bits : ℕ) (values : List A) (j : ℕ) (f : List A) : Type 0 where
  pub each : (i : ℕ) → i < 2 ^ bits → get_or values (i * w + j) r.zero ≡ eval_poly r f (coset_point r s h i)
