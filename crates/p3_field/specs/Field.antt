-- Fields, maps between rings, roots of unity and coefficients over a base, as laws over plain data.
use Rattle.std.specs.Prelude.{◌≡◌, ℕ, ◌+◌, ◌<◌, List, [], ◌∷◌, length}
use Rattle.p3_field.specs.Ring.{Ring}

-- one isn't zero, and each value but zero has the inverse `inv`
pub record FieldLaws {A : Type 0} (r : Ring A) (inv : A → A) : Type 0 where
  pub one_differs : r.one ≡ r.zero → ⊥
  pub mul_inv : (x : A) → (x ≡ r.zero → ⊥) → r.mul x (inv x) ≡ r.one

-- `f` keeps zero, one, sums and products
pub record RingHom {A B : Type 0} (r : Ring A) (s : Ring B) (f : A → B) : Type 0 where
  pub keeps_zero : f r.zero ≡ s.zero
  pub keeps_one : f r.one ≡ s.one
  pub keeps_add : (x y : A) → f (r.add x y) ≡ s.add (f x) (f y)
  pub keeps_mul : (x y : A) → f (r.mul x y) ≡ s.mul (f x) (f y)

-- `gen k` generates the subgroup of size 2^k, for each k up to `top`:
-- the square of generator k+1 is generator k, generator 0 is one, generator 1 is minus one, which isn't one
pub record TwoAdicLaws {A : Type 0} (r : Ring A) (top : ℕ) (gen : ℕ → A) : Type 0 where
  pub gen_zero : gen 0 ≡ r.one
  pub gen_one : 0 < top → gen 1 ≡ r.neg r.one
  pub gen_square : (k : ℕ) → k < top → r.mul (gen (k + 1)) (gen (k + 1)) ≡ gen k
  pub minus_one_differs : 0 < top → gen 1 ≡ r.one → ⊥

-- each value of `B` has exactly one list of `dimension` coefficients in `A`, and each such list one value
pub record VectorLaws {A B : Type 0} (dimension : ℕ) (coefficients : B → List A) (from_coefficients : List A → B) : Type 0 where
  pub positive : 0 < dimension
  pub coefficients_length : (x : B) → length (coefficients x) ≡ dimension
  pub from_coefficients_of_coefficients : (x : B) → from_coefficients (coefficients x) ≡ x
  pub coefficients_of_from_coefficients : (c : List A) → length c ≡ dimension → coefficients (from_coefficients c) ≡ c

-- a field over itself: the value of a list of one coefficient is that coefficient; of no coefficient it is z
abbrev pub own_from_coefficients : {A : Type 0} → A → List A → A
own_from_coefficients z [] = z
own_from_coefficients z (x ∷ xs) = x

-- the sum of c_i times e_(k+i)
abbrev pub combine : {A : Type 0} → Ring A → (ℕ → A) → ℕ → List A → A
combine r e k [] = r.zero
combine r e k (c ∷ cs) = r.add (r.mul c (e k)) (combine r e (k + 1) cs)

-- a two-adic field as data: its ring, inverses, the generator of the subgroup of size 2^k, and its own GENERATOR
pub record TwoAdic (F : Type 0) : Type 0 where
  pub ring : Ring F
  pub inv : F → F
  pub root : ℕ → F
  pub generator : F

-- a ring above F as data, with a basis of `dimension` elements: its elements, the coefficients of a value, and the value of coefficients
pub record Extension (F E : Type 0) : Type 0 where
  pub ring : Ring E
  pub embed : F → E
  pub dimension : ℕ
  pub basis : ℕ → E
  pub coefficients : E → List F
  pub from_coefficients : List F → E
