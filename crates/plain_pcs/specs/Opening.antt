-- The polynomials that a matrix of values is opened for.
use Rattle.std.specs.Prelude.{◌≡◌, ℕ, ◌-◌, ◌^◌, ◌<◌, ◌≤◌, List, [], length, map, get_or, zip, All}
use Rattle.p3_field.specs.Ring.{Ring}
use Rattle.p3_field.specs.Domain.{CosetData, point}
use Rattle.p3_matrix.specs.Matrix.{Rows, column}
use Rattle.p3_dft.specs.Transform.{values_at}
use Rattle.commit_core.specs.Commitments.{Committed, values_of}
use Rattle.commit_core.specs.Periodic.{EachFrom}

-- the polynomials, one for each column, have the matrix's values on the domain, and at most n coefficients; where the
-- domain has n points, no others do, but for zeros at the end
pub record HaveMatrixValues {F : Type 0} (r : Ring F) (root : ℕ → F) (n : ℕ) (d : CosetData F) (m : Rows F) (fs : List (List F)) : Type 0 where
  pub count : length fs ≡ m.width
  pub short : All (λ f. length f ≤ n) fs
  pub values_are : (j : ℕ) → j < m.width → column r.zero m j ≡ values_at r (point r root d) (2 ^ d.log_size) (get_or fs j [])

-- the polynomials of each matrix have its values on its domain, which is 2^log_blowup times as large as they have coefficients
abbrev pub EachHasValues : {F : Type 0} → Ring F → (ℕ → F) → ℕ → List (CosetData F × Rows F) → List (Committed F) → Type 0
EachHasValues r root log_blowup evaluated cs =
    EachFrom evaluated cs (λ e c. HaveMatrixValues r root (2 ^ (e.0.log_size - log_blowup)) e.0 e.1 c.polynomials)

-- the values of each matrix's polynomials at its points
abbrev pub opened_each : {F E : Type 0} → Ring E → (F → E) → List (Committed F) → List (List E) → List (List (List E))
opened_each s embed cs points = map (λ p. map (values_of s embed p.0) p.1) (zip cs points)
