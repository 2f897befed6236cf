-- Rounds: matrices that are committed to together, and the claims on what is opened of them.
use Rattle.std.specs.Prelude.{◌≡◌, ℕ, List, length, map, zip, All}
use Rattle.p3_field.specs.Ring.{Ring}
use Rattle.p3_matrix.specs.Matrix.{Rows}
use Rattle.commit_core.specs.Claims.{PointClaim, MatrixClaim, CommitmentClaim, Request}
use Rattle.commit_core.specs.Commitments.{Committed, IsCommitment}
use Rattle.commit_core.specs.Periodic.{EachFrom}
use Rattle.example_commit.specs.Single.{AreValues}

-- matrices on their domains, and the points at which each is opened
pub record RoundData (D F E : Type 0) : Type 0 where
  pub evaluations : List (D × Rows F)
  pub points : List (List E)

-- the prover data of a round
pub record CommittedRoundData (D E C P : Type 0) : Type 0 where
  pub commitment : C
  pub prover_data : P
  pub domains : List D
  pub points : List (List E)

-- k is the prover data of a round whose matrices were committed to
pub record IsCommittedRound {D F E C P : Type 0} (r : Ring F) (points : D → ℕ) (point_at : D → ℕ → F) (commits : List (D × Rows F) → C → Type 0) (made : P → Type 0)
    (holds : P → C → List (Committed F) → Type 0) (round : RoundData D F E) (k : CommittedRoundData D E C P) : Type 0 where
  pub committed : IsCommitment r points point_at commits made holds round.evaluations (k.commitment, k.prover_data)
  pub domains_are : k.domains ≡ map (λ e. e.0) round.evaluations
  pub points_are : k.points ≡ round.points

-- the requests to open prover data at the rounds' points
abbrev pub request_of : {D E C P : Type 0} → CommittedRoundData D E C P → Request P E
request_of k = record { prover_data = k.prover_data; points = k.points }

abbrev pub requests_of : {D E C P : Type 0} → List (CommittedRoundData D E C P) → List (Request P E)
requests_of ks = map request_of ks

-- the claims of these values, point by point, matrix by matrix, and round by round
abbrev pub claim_at : {E : Type 0} → E × List E → PointClaim E
claim_at p = record { point = p.0; values = p.1 }

abbrev pub claims_at : {E : Type 0} → List E → List (List E) → List (PointClaim E)
claims_at xs ys = map claim_at (zip xs ys)

abbrev pub claim_of_matrix : {E D : Type 0} → D × (List E × List (List E)) → MatrixClaim E D
claim_of_matrix p = record { domain = p.0; points = claims_at p.1.0 p.1.1 }

abbrev pub matrix_claims : {E D : Type 0} → List D → List (List E) → List (List (List E)) → List (MatrixClaim E D)
matrix_claims ds xs ys = map claim_of_matrix (zip ds (zip xs ys))

abbrev pub round_claim : {D E C P : Type 0} → CommittedRoundData D E C P × List (List (List E)) → CommitmentClaim E C D
round_claim p = record { commitment = p.0.commitment; matrices = matrix_claims p.0.domains p.0.points p.1 }

abbrev pub round_claims : {D E C P : Type 0} → List (CommittedRoundData D E C P) → List (List (List (List E))) → List (CommitmentClaim E C D)
round_claims ks vs = map round_claim (zip ks vs)

-- there is a domain and a list of points for each list of values, and a point for each of these values
pub record HaveRoundShape {E D : Type 0} (ds : List D) (xs : List (List E)) (ys : List (List (List E))) : Type 0 where
  pub domains : length ds ≡ length ys
  pub each : EachFrom xs ys (λ x y. length y ≡ length x)

-- the claim m says what a matrix on a domain has at these points: the values of its columns' interpolants
pub record IsClaimed {D F E : Type 0} (r : Ring F) (s : Ring E) (embed : F → E) (point_at : D → ℕ → F) (e : D × Rows F) (xs : List E) (m : MatrixClaim E D) : Type 0 where
  pub domain_is : m.domain ≡ e.0
  pub points_are : EachFrom xs m.points (λ x y. (y.point ≡ x) × AreValues r s embed (point_at e.0) e.1 x y.values)

-- the claim c says so of each matrix of a round, of which it has a commitment
pub record IsRoundClaimed {D F E C : Type 0} (r : Ring F) (s : Ring E) (embed : F → E) (point_at : D → ℕ → F) (commits : List (D × Rows F) → C → Type 0) (round : RoundData D F E) (c : CommitmentClaim E C D) : Type 0 where
  pub commits_is : commits round.evaluations c.commitment
  pub lists_are : length round.points ≡ length round.evaluations
  pub matrices_are : EachFrom (zip round.evaluations round.points) c.matrices (λ p m. IsClaimed r s embed point_at p.0 p.1 m)

-- no point of the rounds is excluded
abbrev pub AreFree : {D F E : Type 0} → (E → Type 0) → List (RoundData D F E) → Type 0
AreFree excludes rounds = All (λ q. All (λ xs. All (λ x. excludes x → ⊥) xs) q.points) rounds
