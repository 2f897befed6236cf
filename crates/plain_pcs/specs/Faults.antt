-- The polynomials that a verifier's search for the first fault tests.
use Rattle.std.specs.Prelude.{◌≡◌, ℕ, ◌<◌, List, [], length, get_or}
use Rattle.p3_field.specs.Domain.{point, IsInterpolant}
use Rattle.p3_matrix.specs.Matrix.{Rows, column}
use Rattle.plain_pcs.specs.Scheme.{Scheme}
use Rattle.plain_pcs.specs.Extension.{extended_domain}

-- Of each column of a matrix that extends columns on a domain of size 2^k, the polynomial in fs is the interpolant, and no
-- other is.
pub record AreColumnPolynomials {F : Type 0} (s : Scheme F) (m : Rows F) (k : ℕ) (fs : List (List F)) : Type 0 where
  pub count : length fs ≡ m.width
  pub each : (j : ℕ) → j < m.width → IsInterpolant s.field.ring (point s.field.ring s.field.root (extended_domain s k)) (column s.field.ring.zero m j) (get_or fs j [])
  pub only : (j : ℕ) (f : List F) → j < m.width → IsInterpolant s.field.ring (point s.field.ring s.field.root (extended_domain s k)) (column s.field.ring.zero m j) f
      → get_or fs j [] ≡ f
