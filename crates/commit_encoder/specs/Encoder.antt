-- Codes whose codewords are a polynomial's values. The rules are those of Plonky3's p3-commit (Encoder).
use Rattle.std.specs.Prelude.{◌≡◌, ℕ, ◌*◌, ◌/◌, ◌^◌, ◌<◌, ◌≤◌}
use Rattle.p3_field.specs.Ring.{Ring}
use Rattle.p3_field.specs.Domain.{coset_point}
use Rattle.p3_matrix.specs.Matrix.{Rows, height, cell_at, column}
use Rattle.p3_dft.specs.Transform.{values_at}

-- the code of m is 2^rate times as high: each of its columns has the values, on the subgroup of that size, of the
-- polynomial whose coefficients are m's column
pub record IsCodeOf {A : Type 0} (r : Ring A) (root : ℕ → A) (m : Rows A) (rate : ℕ) (code : Rows A) : Type 0 where
  pub width_is : code.width ≡ m.width
  pub column_is : (j k : ℕ) → j < m.width → height m * 2 ^ rate ≡ 2 ^ k
      → column r.zero code j ≡ values_at r (coset_point r r.one (root k)) (2 ^ k) (column r.zero m j)

-- all rows of m are zeros but for the first of 2^rate parts
abbrev pub IsPadded : {A : Type 0} → A → Rows A → ℕ → Type 0
IsPadded z m rate = (i j : ℕ) → height m / 2 ^ rate ≤ i → i < height m → j < m.width → cell_at z m i j ≡ z
