-- Claims on one matrix at one point.
use Rattle.std.specs.Prelude.{◌≡◌, ℕ, ◌<◌, List, [], ◌∷◌, length, get_or}
use Rattle.p3_field.specs.Ring.{Ring}
use Rattle.p3_matrix.specs.Matrix.{Rows, column}
use Rattle.p3_matrix.specs.Interpolation.{IsInterpolatedAt}
use Rattle.commit_core.specs.Claims.{CommitmentClaim}

-- the claim that the one matrix of a commitment has these values at the point
abbrev pub claim_of : {E C D : Type 0} → C → D → E → List E → CommitmentClaim E C D
claim_of commitment d x values = record {
  commitment = commitment;
  matrices = record { domain = d; points = record { point = x; values = values } ∷ [] } ∷ [];
}

-- ys are the values at x of the interpolants of m's columns on the points p
pub record AreValues {F E : Type 0} (r : Ring F) (s : Ring E) (embed : F → E) (p : ℕ → F) (m : Rows F) (x : E) (ys : List E) : Type 0 where
  pub count : length ys ≡ m.width
  pub each : (j : ℕ) → j < m.width → IsInterpolatedAt r s embed p (column r.zero m j) x (get_or ys j s.zero)
