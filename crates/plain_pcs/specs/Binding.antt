-- What claims that are opened bind a commitment to: to each column one polynomial, which the commitment alone fixes.
use Rattle.std.specs.Prelude.{◌≡◌, ℕ, ◌^◌, map, All}
use Rattle.p3_field.specs.Ring.{Ring}
use Rattle.p3_field.specs.Poly.{DegreeBelow}
use Rattle.p3_field.specs.Domain.{CosetData}
use Rattle.p3_matrix.specs.Matrix.{Rows}
use Rattle.commit_core.specs.Claims.{MatrixClaim}
use Rattle.commit_core.specs.Commitments.{Committed, values_of}
use Rattle.plain_pcs.specs.Scheme.{Scheme}
use Rattle.plain_pcs.specs.Extension.{columns, interpolant, extended_domain}
use Rattle.plain_pcs.specs.Checks.{HasDimensions}

-- the polynomials of a commitment's matrix, whose columns were given on a domain of size 2^k: the interpolant of each column
abbrev pub committed_polynomials : {F : Type 0} → Scheme F → (k : ℕ) → Rows F → Committed F
committed_polynomials s k m = record { size = 2 ^ k; polynomials = map (interpolant s.field (extended_domain s k)) (columns s.field.ring.zero m) }

-- The claim d on a commitment's matrix m speaks of these polynomials: each has a degree below the size of d's domain, and at each point the
-- claimed values are theirs.
pub record IsBound {F E : Type 0} (s : Scheme F) (ring : Ring E) (embed : F → E) (m : Rows F) (d : MatrixClaim E (CosetData F)) : Type 0 where
  pub dimensions_are : HasDimensions s ring embed m d
  pub degrees_are : All (DegreeBelow s.field.ring (2 ^ d.domain.log_size)) (committed_polynomials s d.domain.log_size m).polynomials
  pub values_are : All (λ p. p.values ≡ values_of ring embed (committed_polynomials s d.domain.log_size m) p.point) d.points
