-- Polynomial spaces. The rules are those of Plonky3's p3-commit (PolynomialSpace).
use Rattle.std.specs.Prelude.{◌≡◌, ℕ, ◌+◌, ◌*◌, ◌^◌, ◌<◌, ◌≤◌, List, Some, length, slice_get, max}
use Rattle.p3_field.specs.Ring.{Ring, pow}
use Rattle.p3_field.specs.Domain.{CosetData, point}
use Rattle.p3_matrix.specs.Matrix.{Rows, height, row_at}

-- x is one of the n points p 0, .., p (n - 1), read over a larger field by f
abbrev pub IsPoint : {A B : Type 0} → ℕ → (ℕ → A) → (A → B) → B → Type 0
IsPoint n p f x = (i : ℕ) × (i < n) × (x ≡ f (p i))

-- the m points p have none in common with the n points q
abbrev pub AreDisjoint : {A : Type 0} → ℕ → (ℕ → A) → ℕ → (ℕ → A) → Type 0
AreDisjoint m p n q = (i j : ℕ) → i < m → j < n → p i ≡ q j → ⊥

-- e is the coset that is offered as disjoint from d with at least m points: its shift is d's times the field's
-- generator, and its size is the least power of two that is m or more
pub record IsOffered {A : Type 0} (r : Ring A) (generator : A) (d : CosetData A) (m : ℕ) (e : CosetData A) : Type 0 where
  pub shift_is : e.shift ≡ r.mul d.shift generator
  pub enough : m ≤ 2 ^ e.log_size
  pub least : (k : ℕ) → m ≤ 2 ^ k → e.log_size ≤ k

-- the field's generator is no power of the generator of the larger of two subgroups
abbrev pub IsGeneratorOutside : {A : Type 0} → Ring A → (ℕ → A) → A → CosetData A → CosetData A → Type 0
IsGeneratorOutside r root generator d e = (i : ℕ) → pow r (root (max d.log_size e.log_size)) i ≡ generator → ⊥

-- e is part i of d split in c: it begins at point i, and has a c-th of the points
pub record IsPart {A : Type 0} (r : Ring A) (root : ℕ → A) (d : CosetData A) (c i : ℕ) (e : CosetData A) : Type 0 where
  pub shift_is : e.shift ≡ point r root d i
  pub size_is : 2 ^ e.log_size * c ≡ 2 ^ d.log_size

-- the matrix p holds rows i, i + c, i + 2 c, .. of m, a c-th of all
pub record IsSplit {F : Type 0} (m : Rows F) (c i : ℕ) (p : Rows F) : Type 0 where
  pub width_is : p.width ≡ m.width
  pub height_is : height p * c ≡ height m
  pub row_is : (j : ℕ) → j < height p → row_at p j ≡ row_at m (i + c * j)

-- P i holds of item i, and there are c items
pub record EachOf {X : Type 0} (c : ℕ) (xs : List X) (P : ℕ → X → Type 0) : Type 0 where
  pub count : length xs ≡ c
  pub each : (i : ℕ) (x : X) → slice_get xs i ≡ Some x → P i x
