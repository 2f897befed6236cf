-- The checks of claims against a commitment, in order. A claim is about polynomials: those that the commitment's columns
-- are the values of.
use Rattle.std.specs.Prelude.{◌≡◌, ℕ, ◌+◌, ◌^◌, ◌≤◌, List, [], ◌∷◌, ◌++◌, length, map, zip, get_or, All}
use Rattle.p3_field.specs.Ring.{Ring}
use Rattle.p3_field.specs.Poly.{eval_poly, DegreeBelow}
use Rattle.p3_field.specs.Checks.{Check, check, NoneFails, FirstFails, in_turn, of_items}
use Rattle.p3_field.specs.Domain.{CosetData, point, IsInterpolant}
use Rattle.p3_matrix.specs.Matrix.{Rows, height, column}
use Rattle.commit_core.specs.Claims.{PointClaim, MatrixClaim, CommitmentClaim}
use Rattle.plain_pcs.specs.Scheme.{Scheme, PlainCommitmentData}
use Rattle.plain_pcs.specs.Extension.{extended_domain}
use Rattle.plain_pcs.specs.declared.error.PlainError.{PlainError}
use Rattle.plain_pcs.specs.declared.error.PlainError.TheVariants.{RoundShape, Dimensions, Degree, Value}

module _ {F E : Type 0} (s : Scheme F) (ring : Ring E) (embed : F → E) where
  -- f is the interpolant of a column of a matrix that extends columns on a domain of size 2^k
  abbrev pub IsColumnPolynomial : Rows F → ℕ → ℕ → List F → Type 0
  IsColumnPolynomial m k j f = IsInterpolant s.field.ring (point s.field.ring s.field.root (extended_domain s k)) (column s.field.ring.zero m j) f

  -- The extension's domain is one of the field's, the matrix has a row for each of its points, and each point's claimed
  -- values are one per column.
  pub record HasDimensions (m : Rows F) (c : MatrixClaim E (CosetData F)) : Type 0 where
    pub fits : c.domain.log_size + s.log_blowup ≤ s.most
    pub height_is : height m ≡ 2 ^ (c.domain.log_size + s.log_blowup)
    pub widths_are : All (λ p. length p.values ≡ m.width) c.points

  -- the polynomial of a column has a degree below the size of the claim's domain, 2^k
  abbrev pub HasLowDegree : Rows F → (k column : ℕ) → Type 0
  HasLowDegree m k j = (f : List F) × IsColumnPolynomial m k j f × DegreeBelow s.field.ring (2 ^ k) f

  -- and it has this value at this point
  abbrev pub HasValue : Rows F → (k column : ℕ) → (point value : E) → Type 0
  HasValue m k j x y = (f : List F) × IsColumnPolynomial m k j f × (eval_poly ring (map embed f) x ≡ y)

  abbrev pub degree_check : (round matrix : ℕ) → Rows F → (k column : ℕ) → List (Check PlainError)
  degree_check round matrix m k j = check (Degree round matrix j) (HasLowDegree m k j) ∷ []

  abbrev pub value_check : (round matrix : ℕ) → Rows F → (k at : ℕ) → PointClaim E → (column : ℕ) → List (Check PlainError)
  value_check round matrix m k at p j = check (Value round matrix at j) (HasValue m k j p.point (get_or p.values j ring.zero)) ∷ []

  -- the checks of one point's claimed values, column by column
  abbrev pub point_checks : (round matrix : ℕ) → Rows F → (k at : ℕ) → PointClaim E → List (Check PlainError)
  point_checks round matrix m k at p = in_turn m.width (value_check round matrix m k at p)

  -- the checks of one matrix: its dimensions, its columns' degrees, their values point by point
  abbrev pub matrix_checks : (round matrix : ℕ) → Rows F × MatrixClaim E (CosetData F) → List (Check PlainError)
  matrix_checks round matrix c =
      check (Dimensions round matrix) (HasDimensions c.0 c.1)
      ∷ in_turn c.0.width (degree_check round matrix c.0 c.1.domain.log_size)
      ++ of_items (point_checks round matrix c.0 c.1.domain.log_size) c.1.points

  -- the checks of one commitment: the number of its matrices, then matrix by matrix
  abbrev pub round_checks : (round : ℕ) → CommitmentClaim E (PlainCommitmentData F) (CosetData F) → List (Check PlainError)
  round_checks round c =
      check (RoundShape round) (length c.commitment.matrices ≡ length c.matrices) ∷ of_items (matrix_checks round) (zip c.commitment.matrices c.matrices)

  -- the checks of all claims, round by round
  unfoldable pub opening_claim_checks : List (CommitmentClaim E (PlainCommitmentData F) (CosetData F)) → List (Check PlainError)
  opening_claim_checks claims = of_items round_checks claims

-- the commitments open the claims: no check fails
abbrev pub Opens : {F E : Type 0} → Scheme F → Ring E → (F → E) → List (CommitmentClaim E (PlainCommitmentData F) (CosetData F)) → Type 0
Opens s ring embed claims = NoneFails (opening_claim_checks s ring embed claims)

-- the first fault of claims that they don't
abbrev pub Fault : {F E : Type 0} → Scheme F → Ring E → (F → E) → List (CommitmentClaim E (PlainCommitmentData F) (CosetData F)) → PlainError → Type 0
Fault s ring embed claims e = FirstFails (opening_claim_checks s ring embed claims) e
