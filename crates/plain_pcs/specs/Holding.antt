-- What prover data of the plain scheme holds: matrices of values, each with its domain.
use Rattle.std.specs.Prelude.{◌≡◌, ℕ, ◌+◌, ◌^◌, ◌<◌, ◌≤◌, List, [], length, get_or, zip, All}
use Rattle.p3_field.specs.Domain.{CosetData, point}
use Rattle.p3_matrix.specs.Matrix.{Rows, height, column}
use Rattle.p3_dft.specs.Transform.{values_at}
use Rattle.commit_core.specs.Commitments.{Committed}
use Rattle.commit_core.specs.Periodic.{EachFrom}
use Rattle.plain_pcs.specs.Scheme.{Scheme, PlainCommitmentData}
use Rattle.plain_pcs.specs.Extension.{extended_domain, evaluations}

-- matrices with columns, each with a row for every point of its domain
abbrev pub IsMade : {F : Type 0} → List (CosetData F × Rows F) → Type 0
IsMade matrices = All (λ e. (0 < e.1.width) × (height e.1 ≡ 2 ^ e.0.log_size)) matrices

-- The matrix e.1 has the values of c's polynomials on the domain e.0, which is 2^log_blowup times as large as the domain
-- that c's columns were given on; l is their extension.
pub record IsHolding {F : Type 0} (s : Scheme F) (e : CosetData F × Rows F) (l : Rows F) (c : Committed F) : Type 0 where
  pub log_size : ℕ
  pub size_is : c.size ≡ 2 ^ log_size
  pub fits : log_size + s.log_blowup ≤ s.most
  pub larger : e.0.log_size ≡ log_size + s.log_blowup
  pub count : length c.polynomials ≡ e.1.width
  pub lengths : All (λ f. length f ≡ c.size) c.polynomials
  pub values_are : (j : ℕ) → j < e.1.width
      → column s.field.ring.zero e.1 j ≡ values_at s.field.ring (point s.field.ring s.field.root e.0) (2 ^ e.0.log_size) (get_or c.polynomials j [])
  pub extension_is : l ≡ evaluations s.field (extended_domain s log_size) c.polynomials

-- prover data belongs to a commitment, and holds these polynomials
pub record AreHolding {F : Type 0} (s : Scheme F) (prover_data : List (CosetData F × Rows F)) (commitment : PlainCommitmentData F) (cs : List (Committed F)) : Type 0 where
  pub count : length prover_data ≡ length commitment.matrices
  pub each : EachFrom (zip prover_data commitment.matrices) cs (λ p c. IsHolding s p.0 p.1 c)
