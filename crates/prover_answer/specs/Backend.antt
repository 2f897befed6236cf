-- The prover's side of a backend, as plain data. After Plonky3's p3-commit (Pcs, UnivariateStarkPcs).
use Rattle.std.specs.Prelude.{ℕ, List}
use Rattle.p3_field.specs.Domain.{CosetData}
use Rattle.p3_matrix.specs.Matrix.{Rows}
use Rattle.commit_core.specs.Claims.{Request}
use Rattle.commit_core.specs.Commitments.{Committed}

-- Why it refuses to commit to matrices on domains, to extend the chunks of a quotient, of which there are so many, and to commit to extensions; which
-- matrix extends another on its domain. Which prover data it made, and which polynomials that holds for a commitment. Why it refuses to open, which
-- proof opening gives from a challenger's state, and the points at which an honest opening may be refused.
pub record ProverBackend (S F E C D P R : Type 0) : Type 1 where
  pub commit_fault : List (CosetData F × Rows F) → R → Type 0
  pub extension_fault : List (CosetData F × Rows F) → ℕ → R → Type 0
  pub extends : CosetData F → Rows F → Rows F → Type 0
  pub ldes_fault : List (Rows F) → R → Type 0
  pub made : D → Type 0
  pub holds : D → C → List (Committed F) → Type 0
  pub open_fault : List (Request D E) → R → Type 0
  pub proves : S → List (Request D E) → P → Type 0
  pub excludes : E → Type 0
