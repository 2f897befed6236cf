-- What opened claims say of the matrices of a commitment, by their places. It belongs into plain_pcs.
use Rattle.std.proofs.Common.{◌≡◌, ℕ, ◌<◌, List, Some, length, arith}
use Rattle.std.specs.Prelude.{slice_get}
use Rattle.std.proofs.lemmas.Option.{slice_get_within, slice_get-get_or}
use Rattle.p3_field.specs.Checks.{NoneFails}
use Rattle.p3_field.specs.Domain.{CosetData}
use Rattle.p3_field.specs.Laws.Checks.{none_at_item}
use Rattle.p3_field.specs.Ring.{Ring}
use Rattle.p3_matrix.specs.Matrix.{Rows}
use Rattle.commit_core.specs.Claims.{PointClaim, MatrixClaim, CommitmentClaim}
use Rattle.commit_core.specs.Commitments.{values_of}
use Rattle.plain_pcs.specs.Binding.{IsBound, committed_polynomials}
use Rattle.plain_pcs.specs.Checks.{Opens, opening_claim_checks, round_checks}
use Rattle.plain_pcs.specs.Laws.Listed.{item_has}
use Rattle.plain_pcs.specs.Scheme.{Scheme, PlainCommitmentData}
use Rattle.law_soundness.specs.Commitment.{matrix_at, no_matrix}

module _ {F E : Type 0} (s : Scheme F) (ring : Ring E) (embed : F → E) where
  abbrev pub Claims : Type 0
  Claims = List (CommitmentClaim E (PlainCommitmentData F) (CosetData F))

  -- what `opened_claims_bind` of plain_pcs says: each claim that is opened speaks of one polynomial for each column
  abbrev pub Binds : Type 0
  Binds =
      (claims : Claims) → Opens s ring embed claims → (round matrix : ℕ) (c : CommitmentClaim E (PlainCommitmentData F) (CosetData F)) (m : Rows F) (d : MatrixClaim E (CosetData F))
      → slice_get claims round ≡ Some c → slice_get c.commitment.matrices matrix ≡ Some m → slice_get c.matrices matrix ≡ Some d → IsBound s ring embed m d

  -- a claim speaks of the matrix at its place, which is there
  pub bound_at : Binds → (claims : Claims) → Opens s ring embed claims → (round place : ℕ) (c : CommitmentClaim E (PlainCommitmentData F) (CosetData F)) (d : MatrixClaim E (CosetData F))
      → slice_get claims round ≡ Some c → slice_get c.matrices place ≡ Some d → IsBound s ring embed (matrix_at c.commitment place) d
  unfolding NoneFails opening_claim_checks
  bound_at binds claims opens round place c d at_round at_place =
      let whole = none_at_item (round_checks s ring embed) claims round c at_round opens in
      let within : place < length c.commitment.matrices = omega (arith, whole.0, slice_get_within c.matrices place d at_place) in
      binds claims opens round place c (matrix_at c.commitment place) d at_round (slice_get-get_or c.commitment.matrices place no_matrix within) at_place

  -- so the values that it claims at a point are those of the matrix's polynomials
  pub bound_values : (m : Rows F) (d : MatrixClaim E (CosetData F)) → IsBound s ring embed m d → (at : ℕ) (p : PointClaim E) → slice_get d.points at ≡ Some p
      → p.values ≡ values_of ring embed (committed_polynomials s d.domain.log_size m) p.point
  bound_values m d B at p h = item_has (λ q. q.values ≡ values_of ring embed (committed_polynomials s d.domain.log_size m) q.point) d.points at p B.values_are h
