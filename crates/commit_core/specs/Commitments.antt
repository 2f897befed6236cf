-- Commitments to polynomials and their openings. The rules are those of Plonky3's p3-commit (Pcs, UnivariateStarkPcs).
use Rattle.std.specs.Prelude.{◌≡◌, ℕ, ◌<◌, ◌^◌, List, [], length, map, get_or, zip, All, Vec}
use Rattle.p3_field.specs.Ring.{Ring, pow}
use Rattle.p3_field.specs.Poly.{eval_poly}
use Rattle.p3_field.specs.Domain.{IsInterpolant}
use Rattle.p3_matrix.specs.Matrix.{Rows, height, column}
use Rattle.p3_dft.specs.Transform.{values_at}
use Rattle.commit_core.specs.Space.{EachOf, IsSplit}
use Rattle.commit_core.specs.Periodic.{EachFrom}
use Rattle.commit_core.specs.Claims.{MatrixClaim, CommitmentClaim, Request}

-- the n points p are the subgroup of size n, where root k generates that of size 2^k
pub record IsSubgroup {F : Type 0} (r : Ring F) (root : ℕ → F) (n m : ℕ) (p : ℕ → F) : Type 0 where
  pub size_is : m ≡ n
  pub point_is : (k i : ℕ) → n ≡ 2 ^ k → p i ≡ pow r (root k) i

-- the polynomials of a committed matrix's columns, and the size of the domain on which the columns were given
pub record Committed (F : Type 0) : Type 0 where
  pub size : ℕ
  pub polynomials : List (List F)

-- c holds the interpolants of m's columns on the n points p
pub record IsCommitted {F : Type 0} (r : Ring F) (n : ℕ) (p : ℕ → F) (m : Rows F) (c : Committed F) : Type 0 where
  pub size_is : c.size ≡ n
  pub count : length c.polynomials ≡ m.width
  pub height_is : 0 < m.width → height m ≡ n
  pub each : (j : ℕ) → j < m.width → IsInterpolant r p (column r.zero m j) (get_or c.polynomials j [])

-- cs holds the interpolants of the matrices on their domains, in order
abbrev pub AreCommitted : {F D : Type 0} → Ring F → (D → ℕ) → (D → ℕ → F) → List (D × Rows F) → List (Committed F) → Type 0
AreCommitted r points point_at evaluations cs = EachFrom evaluations cs (λ e c. IsCommitted r (points e.0) (point_at e.0) e.1 c)

-- What committing to matrices on domains gives: w.0 is a commitment to them, and w.1 is prover data that the scheme made,
-- which belongs to this commitment and holds the interpolants.
pub record IsCommitment {F D C P : Type 0} (r : Ring F) (points : D → ℕ) (point_at : D → ℕ → F) (commits : List (D × Rows F) → C → Type 0) (made : P → Type 0) (holds : P → C → List (Committed F) → Type 0) (evaluations : List (D × Rows F)) (w : C × P) : Type 0 where
  pub commitment_is : commits evaluations w.0
  pub made_is : made w.1
  pub held : (cs : List (Committed F)) × AreCommitted r points point_at evaluations cs × holds w.1 w.0 cs

-- m holds the values of c's polynomials at the n points p
pub record IsEvaluated {F : Type 0} (r : Ring F) (n : ℕ) (p : ℕ → F) (c : Committed F) (m : Rows F) : Type 0 where
  pub width_is : m.width ≡ length c.polynomials
  pub column_is : (j : ℕ) → j < m.width → column r.zero m j ≡ values_at r p n (get_or c.polynomials j [])

-- a commitment that is opened, with what it holds of each matrix
pub record OpenedCommitment (C F : Type 0) : Type 0 where
  pub commitment : C
  pub matrices : List (Committed F)

-- each request's prover data belongs to the commitment that stands at its place and holds the polynomials there
abbrev pub AreOpenedCommitments : {P E C F : Type 0} → (P → C → List (Committed F) → Type 0) → List (Request P E) → List (OpenedCommitment C F) → Type 0
AreOpenedCommitments holds requests held = EachFrom requests held (λ r h. holds r.prover_data h.commitment h.matrices)

-- two requests ask for the same points, and their prover data belongs to one commitment
pub record IsAskedAlike {P E C F : Type 0} (holds : P → C → List (Committed F) → Type 0) (r q : Request P E) : Type 0 where
  pub points_are : r.points ≡ q.points
  pub commitment : C
  pub held : List (Committed F)
  pub kept : List (Committed F)
  pub held_is : holds r.prover_data commitment held
  pub kept_is : holds q.prover_data commitment kept

-- each request asks alike what the one at its place in the second list asks
abbrev pub AreAskedAlike : {P E C F : Type 0} → (P → C → List (Committed F) → Type 0) → List (Request P E) → List (Request P E) → Type 0
AreAskedAlike holds requests others = EachFrom requests others (λ r q. IsAskedAlike holds r q)

-- each request has one list of points per matrix
abbrev pub HavePoints : {P E C F : Type 0} → List (OpenedCommitment C F) → List (Request P E) → Type 0
HavePoints held requests = EachFrom held requests (λ h r. length r.points ≡ length h.matrices)

-- the values of the polynomials at a point above their field
abbrev pub values_of : {F E : Type 0} → Ring E → (F → E) → Committed F → E → List E
values_of s embed c x = map (λ f. eval_poly s (map embed f) x) c.polynomials

-- the values that are asked for, in the order of the requests, of their matrices, of their points, and of the columns
abbrev pub opened_round : {P E C F : Type 0} → Ring E → (F → E) → OpenedCommitment C F → Request P E → List (List (List E))
opened_round s embed h r = map (λ p. map (values_of s embed p.0) p.1) (zip h.matrices r.points)

abbrev pub opened : {P E C F : Type 0} → Ring E → (F → E) → List (OpenedCommitment C F) → List (Request P E) → List (List (List (List E)))
opened s embed held requests = map (λ p. opened_round s embed p.0 p.1) (zip held requests)

-- opened values as lists
abbrev pub nested : {E A : Type 0} → Vec (Vec (Vec (Vec E A) A) A) A → List (List (List (List E)))
nested v = map (λ round. map (λ matrix. map (λ values. values.items) matrix.items) round.items) v.items

-- the claim that a matrix has its polynomials' values at the points, on a domain of the committed size
pub record IsMatrixClaim {E F D : Type 0} (s : Ring E) (embed : F → E) (points : D → ℕ) (c : Committed F) (xs : List E) (m : MatrixClaim E D) : Type 0 where
  pub size_is : points m.domain ≡ c.size
  pub points_are : m.points ≡ map (λ x. record { point = x; values = values_of s embed c x }) xs

-- the claims that a commitment's matrices have these values at the points of a request
pub record IsRoundClaim {P E C F D : Type 0} (s : Ring E) (embed : F → E) (points : D → ℕ) (h : OpenedCommitment C F) (r : Request P E) (c : CommitmentClaim E C D) : Type 0 where
  pub commitment_is : c.commitment ≡ h.commitment
  pub matrices_are : EachFrom (zip h.matrices r.points) c.matrices (λ p m. IsMatrixClaim s embed points p.0 p.1 m)

-- the claims that hold of what was asked for, in its order
abbrev pub AreClaims : {P E C F D : Type 0} → Ring E → (F → E) → (D → ℕ) → List (OpenedCommitment C F) → List (Request P E) → List (CommitmentClaim E C D) → Type 0
AreClaims s embed points held requests claims = EachFrom (zip held requests) claims (λ p c. IsRoundClaim s embed points p.0 p.1 c)

-- none of the points that are asked for is excluded
abbrev pub AvoidAll : {P E : Type 0} → (E → Type 0) → List (Request P E) → Type 0
AvoidAll excludes requests = All (λ r. All (λ xs. All (λ x. excludes x → ⊥) xs) r.points) requests

-- What an opening of held polynomials gives: each request has one list of points per matrix, the values are the
-- polynomials', and the claims with these values are accepted, unless a point is excluded.
pub record IsOpening {P E C F D : Type 0} (s : Ring E) (embed : F → E) (points : D → ℕ) (excludes : E → Type 0) (accepts : List (CommitmentClaim E C D) → Type 0)
    (requests : List (Request P E)) (values : List (List (List (List E)))) (held : List (OpenedCommitment C F)) : Type 0 where
  pub lists_are : HavePoints held requests
  pub values_are : values ≡ opened s embed held requests
  pub accepted : (claims : List (CommitmentClaim E C D)) → AreClaims s embed points held requests claims → AvoidAll excludes requests → accepts claims

-- the parts of a domain split in c, each with its rows of the matrix m
abbrev pub AreParts : {F D : Type 0} → (ℕ → D → Type 0) → Rows F → ℕ → List (D × Rows F) → Type 0
AreParts part m c parts = EachOf c parts (λ i e. part i e.0 × IsSplit m c i e.1)

-- each matrix of the second list extends the one at its place in the first, with its domain
abbrev pub AreExtensions : {F D : Type 0} → (D → Rows F → Rows F → Type 0) → List (D × Rows F) → List (Rows F) → Type 0
AreExtensions extends evaluations ldes = EachFrom evaluations ldes (λ e l. extends e.0 e.1 l)
