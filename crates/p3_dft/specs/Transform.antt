-- Transforms between the coefficients of polynomials and their values on cosets. The rules are those of Plonky3's
-- p3-dft (TwoAdicSubgroupDft).
use Rattle.std.specs.Prelude.{◌≡◌, ℕ, suc, ◌+◌, ◌^◌, ◌<◌, List, length, get_or}
use Rattle.p3_field.specs.Ring.{Ring, pow}
use Rattle.p3_field.specs.Poly.{eval_poly, tabulate}
use Rattle.p3_field.specs.Domain.{coset_point, IsInterpolant}
use Rattle.p3_matrix.specs.Matrix.{Rows, height, column}

-- the values of f at the points p 0, .., p (n - 1)
unfoldable pub values_at : {A : Type 0} → Ring A → (ℕ → A) → ℕ → List A → List A
values_at r p n f = tabulate n (λ i. eval_poly r f (p i))

-- w has the values at q 0, .., q (n - 1) of the polynomial with the values v at the points p
pub record IsExtension {A : Type 0} (r : Ring A) (p q : ℕ → A) (n : ℕ) (v w : List A) : Type 0 where
  pub interpolant : List A
  pub interpolates : IsInterpolant r p v interpolant
  pub values_are : w ≡ values_at r q n interpolant

-- each column of v has the values on the subgroup of the polynomial whose coefficients are m's column
pub record IsTransformOf {A : Type 0} (r : Ring A) (root : ℕ → A) (m v : Rows A) : Type 0 where
  pub width_is : v.width ≡ m.width
  pub column_is : (j k : ℕ) → j < m.width → height m ≡ 2 ^ k
      → column r.zero v j ≡ values_at r (coset_point r r.one (root k)) (2 ^ k) (column r.zero m j)

-- each column of v has the coefficients of the interpolant of m's column on the subgroup
pub record IsInverseTransformOf {A : Type 0} (r : Ring A) (root : ℕ → A) (m v : Rows A) : Type 0 where
  pub width_is : v.width ≡ m.width
  pub column_is : (j k : ℕ) → j < m.width → height m ≡ 2 ^ k
      → IsInterpolant r (coset_point r r.one (root k)) (column r.zero m j) (column r.zero v j)

-- each column of v has the values on the coset with this shift, 2^added times as large, of the polynomial that has
-- m's column as its values on the subgroup
pub record IsExtensionOf {A : Type 0} (r : Ring A) (root : ℕ → A) (added : ℕ) (shift : A) (m v : Rows A) : Type 0 where
  pub width_is : v.width ≡ m.width
  pub column_is : (j k : ℕ) → j < m.width → height m ≡ 2 ^ k
      → IsExtension r (coset_point r r.one (root k)) (coset_point r shift (root (k + added))) (2 ^ (k + added)) (column r.zero m j) (column r.zero v j)

-- h turns half way round in 2^(k-1) steps, where k is positive: h^(2^(k-1)) = -1
abbrev pub TurnsIn : {A : Type 0} → Ring A → ℕ → A → Type 0
TurnsIn r k h = (j : ℕ) → suc j ≡ k → pow r h (2 ^ j) ≡ r.neg r.one

-- item j times w t^j
unfoldable pub weighted : {A : Type 0} → Ring A → A → A → List A → List A
weighted r w t v = tabulate (length v) (λ j. r.mul (get_or v j r.zero) (coset_point r w t j))
