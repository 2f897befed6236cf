-- Checks that hold have no fault, and others have exactly one first fault.
use Rattle.std.proofs.Common.{◌≡◌, ℕ, List, [], zip}
use Rattle.p3_field.specs.Ring.{Ring}
use Rattle.p3_field.specs.Checks.{AreSingle, in_turn, of_items}
use Rattle.p3_field.specs.Laws.Checks.{none_first, some_first, same_first, none_single, check_single, single_append, single_in_turn, single_of_items}
use Rattle.p3_field.specs.Domain.{CosetData}
use Rattle.p3_matrix.specs.Matrix.{Rows}
use Rattle.commit_core.specs.Claims.{PointClaim, MatrixClaim, CommitmentClaim}
use Rattle.commit_core.specs.Failure.{NoneOf, FaultUnless}
use Rattle.plain_pcs.specs.Scheme.{Scheme, PlainCommitmentData}
use Rattle.plain_pcs.specs.Checks.{HasDimensions, degree_check, value_check, point_checks, matrix_checks, round_checks, opening_claim_checks, Opens, Fault}
use Rattle.plain_pcs.specs.declared.error.PlainError.{PlainError}
use Rattle.plain_pcs.specs.declared.error.PlainError.TheVariants.{RoundShape, Dimensions, Degree, Value}

module _ {F E : Type 0} (s : Scheme F) (ring : Ring E) (embed : F → E) where
  -- each check has one refusal
  point_single : (round matrix : ℕ) (m : Rows F) (k at : ℕ) (p : PointClaim E) → AreSingle (point_checks s ring embed round matrix m k at p)
  point_single round matrix m k at p =
      single_in_turn (value_check s ring embed round matrix m k at p) m.width (λ j. check_single (Value round matrix at j) _ [] (none_single PlainError))

  matrix_single : (round matrix : ℕ) (c : Rows F × MatrixClaim E (CosetData F)) → AreSingle (matrix_checks s ring embed round matrix c)
  matrix_single round matrix c =
      let k = c.1.domain.log_size in
      check_single (Dimensions round matrix) (HasDimensions s ring embed c.0 c.1) _ (
      single_append (in_turn c.0.width (degree_check s ring embed round matrix c.0 k)) (of_items (point_checks s ring embed round matrix c.0 k) c.1.points)
      (single_in_turn (degree_check s ring embed round matrix c.0 k) c.0.width (λ j. check_single (Degree round matrix j) _ [] (none_single PlainError)))
      (single_of_items (point_checks s ring embed round matrix c.0 k) c.1.points (point_single round matrix c.0 k))
      )

  round_single : (round : ℕ) (c : CommitmentClaim E (PlainCommitmentData F) (CosetData F)) → AreSingle (round_checks s ring embed round c)
  round_single round c =
      check_single (RoundShape round) _ _ (single_of_items (matrix_checks s ring embed round) (zip c.commitment.matrices c.matrices) (matrix_single round))

  pub checks_single : (claims : List (CommitmentClaim E (PlainCommitmentData F) (CosetData F))) → AreSingle (opening_claim_checks s ring embed claims)
  unfolding opening_claim_checks
  checks_single claims = single_of_items (round_checks s ring embed) claims round_single

  -- claims that the commitments open have no fault
  pub opens_faultless : (claims : List (CommitmentClaim E (PlainCommitmentData F) (CosetData F))) → Opens s ring embed claims → NoneOf (Fault s ring embed claims)
  opens_faultless claims n = λ e f. none_first (opening_claim_checks s ring embed claims) e n f

  -- others have a first fault
  pub some_fault : (claims : List (CommitmentClaim E (PlainCommitmentData F) (CosetData F))) → FaultUnless (Opens s ring embed claims) (Fault s ring embed claims)
  some_fault claims = λ n f. some_first (opening_claim_checks s ring embed claims) (checks_single claims) n f

  -- and the first fault is one
  pub one_fault : (claims : List (CommitmentClaim E (PlainCommitmentData F) (CosetData F))) (e g : PlainError) → Fault s ring embed claims e → Fault s ring embed claims g → e ≡ g
  one_fault claims e g a b = same_first (opening_claim_checks s ring embed claims) e g (checks_single claims) a b
