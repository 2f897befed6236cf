-- Domains: cosets of the two-adic subgroups, and the polynomials that belong to them.
-- The rules are those of Plonky3's p3-field (TwoAdicMultiplicativeCoset) and p3-commit (PolynomialSpace).
use Rattle.std.specs.Prelude.{◌≡◌, ℕ, ◌^◌, ◌<◌, List, [], ◌∷◌, length, get_or}
use Rattle.p3_field.specs.Ring.{Ring, pow}
use Rattle.p3_field.specs.Poly.{eval_poly, add_poly, scale_poly, raise, quotient}

-- a coset as data: its shift, and the logarithm to base 2 of its size
pub record CosetData (F : Type 0) : Type 0 where
  pub shift : F
  pub log_size : ℕ

-- the domain of the powers of root k
abbrev pub subgroup : {A : Type 0} → Ring A → ℕ → CosetData A
subgroup r k = record { shift = r.one; log_size = k }

-- point i of the coset with shift s and generator h: s h^i
abbrev pub coset_point : {A : Type 0} → Ring A → A → A → ℕ → A
coset_point r s h i = r.mul s (pow r h i)

-- X^n - c
abbrev pub binomial : {A : Type 0} → Ring A → ℕ → A → List A
binomial r n c = add_poly r (r.neg c ∷ []) (raise r n (r.one ∷ []))

-- (X / s)^n - 1, where t s = 1
abbrev pub scaled_binomial : {A : Type 0} → Ring A → ℕ → A → A → List A
scaled_binomial r n s t = scale_poly r (pow r t n) (binomial r n (pow r s n))

-- point i of a domain, where root k generates the subgroup of size 2^k
abbrev pub point : {A : Type 0} → Ring A → (ℕ → A) → CosetData A → ℕ → A
point r root d i = coset_point r d.shift (root d.log_size) i

-- the vanishing polynomial of the domain, which is zero there: (X / s)^n - 1
unfoldable pub vanishing_polynomial : {A : Type 0} → Ring A → (A → A) → CosetData A → List A
vanishing_polynomial r inv d = scaled_binomial r (2 ^ d.log_size) d.shift (inv d.shift)

-- The selector of the first row: the vanishing polynomial divided by X / s - 1. It isn't scaled to one
-- there.
unfoldable pub first_selector : {A : Type 0} → Ring A → (A → A) → CosetData A → List A
first_selector r inv d = scale_poly r d.shift (quotient r (vanishing_polynomial r inv d) d.shift)

-- the selector of the last row: the vanishing polynomial divided by X / s - 1 / h
unfoldable pub last_selector : {A : Type 0} → Ring A → (A → A) → (ℕ → A) → CosetData A → List A
last_selector r inv root d = scale_poly r d.shift (quotient r (vanishing_polynomial r inv d) (r.mul d.shift (inv (root d.log_size))))

-- the selector of all rows but the last: X / s - 1 / h
unfoldable pub transition_selector : {A : Type 0} → Ring A → (A → A) → (ℕ → A) → CosetData A → List A
transition_selector r inv root d = r.neg (inv (root d.log_size)) ∷ inv d.shift ∷ []

-- f is the interpolant of the values v at the points p: the list of v's length whose value at point i is the i-th value
pub record IsInterpolant {A : Type 0} (r : Ring A) (p : ℕ → A) (v f : List A) : Type 0 where
  pub length_is : length f ≡ length v
  pub value_is : (i : ℕ) → i < length v → eval_poly r f (p i) ≡ get_or v i r.zero
