-- Claims that are opened bind the commitments: each claimed value is that of the one polynomial of its column.
use Rattle.std.proofs.Common.{◌≡◌, ℕ, ◌+◌, ◌^◌, ◌<◌, ◌≤◌, List, [], Some, length, get_or, map, sym, ◌∙◌, ap, subst, arith}
use Rattle.std.specs.Prelude.{slice_get, zip, All}
use Rattle.std.proofs.lemmas.List.{length-map, get_or-map, get_or_default, ext_get_or}
use Rattle.std.proofs.lemmas.Option.{slice_get-get_or}
use Rattle.p3_field.specs.Ring.{Ring, RingLaws}
use Rattle.p3_field.specs.Field.{FieldLaws, TwoAdicLaws}
use Rattle.p3_field.specs.Poly.{eval_poly, Apart, DegreeBelow}
use Rattle.p3_field.specs.Checks.{check, NoneFails, in_turn, of_items}
use Rattle.p3_field.specs.Domain.{CosetData, point}
use Rattle.p3_field.specs.Laws.Checks.{none_before, none_after, holds_alone, none_at, none_at_item}
use Rattle.p3_field.specs.Laws.Interpolants.{interpolant_unique, points_apart}
use Rattle.p3_matrix.specs.Matrix.{Rows, height, column}
use Rattle.p3_matrix.specs.Laws.Cells.{length-column}
use Rattle.commit_core.specs.Claims.{PointClaim, MatrixClaim, CommitmentClaim}
use Rattle.plain_pcs.specs.Scheme.{Scheme, PlainCommitmentData}
use Rattle.plain_pcs.specs.Extension.{extended_domain, interpolant}
use Rattle.plain_pcs.specs.Checks.{HasDimensions, IsColumnPolynomial, HasLowDegree, HasValue, Opens}
use Rattle.plain_pcs.specs.Checks.{degree_check, value_check, point_checks, matrix_checks, round_checks, opening_claim_checks}
use Rattle.plain_pcs.specs.Binding.{IsBound}
use Rattle.plain_pcs.specs.Laws.Extensions.{polynomials, length-polynomials, get_or-polynomials, is_interpolant}
use Rattle.plain_pcs.specs.Laws.Listed.{zip_item}
use Rattle.plain_pcs.specs.declared.error.PlainError.TheVariants.{Degree, Value}

module _ {F E : Type 0} (s : Scheme F) (ring : Ring E) (embed : F → E)
    (L : RingLaws s.field.ring) (W : FieldLaws s.field.ring s.field.inv) (T : TwoAdicLaws s.field.ring s.most s.field.root)
    (nz : s.field.generator ≡ s.field.ring.zero → ⊥) where
  -- a column has no other polynomial
  one_polynomial : (m : Rows F) (k j : ℕ) (f : List F) → j < m.width → k + s.log_blowup ≤ s.most → height m ≡ 2 ^ (k + s.log_blowup)
      → IsColumnPolynomial s ring embed m k j f
      → f ≡ get_or (polynomials s (extended_domain s k) m) j []
  one_polynomial m k j f b fits tall I =
      let r = s.field.ring in
      let d = extended_domain s k in
      let v = column r.zero m j in
      let long : length v ≡ 2 ^ (k + s.log_blowup) = length-column r.zero m j ∙ tall in
      let apart : Apart (length v) (point r s.field.root d) =
      subst (λ n. Apart n (point r s.field.root d)) (sym long) (points_apart r L s.field.inv W s.most s.field.root T d fits nz) in
      interpolant_unique r L s.field.inv W (point r s.field.root d) v f (interpolant s.field d v) apart I (is_interpolant s L W T d v fits nz long)
      ∙ sym (get_or-polynomials s d m j b)

  module _ (m : Rows F) (d : MatrixClaim E (CosetData F)) (dimensions : HasDimensions s ring embed m d) where
    abbrev fs : List (List F)
    fs = polynomials s (extended_domain s d.domain.log_size) m

    bounded : ((j : ℕ) → j < m.width → HasLowDegree s ring embed m d.domain.log_size j) → All (DegreeBelow s.field.ring (2 ^ d.domain.log_size)) fs
    bounded low = λ j e h.
        let k = d.domain.log_size in
        let b : j < m.width = omega (arith, h, length-polynomials s (extended_domain s k) m) in
        let (f, I, deg) = low j b in
        subst (DegreeBelow s.field.ring (2 ^ k)) (one_polynomial m k j f b dimensions.fits dimensions.height_is I ∙ get_or_default fs j [] e h) deg

    valued : (p : PointClaim E) → length p.values ≡ m.width
        → ((j : ℕ) → j < m.width → HasValue s ring embed m d.domain.log_size j p.point (get_or p.values j ring.zero))
        → p.values ≡ map (λ f. eval_poly ring (map embed f) p.point) fs
    valued p wide value =
        let k = d.domain.log_size in
        let at = λ (f : List F). eval_poly ring (map embed f) p.point in
        let long = length-polynomials s (extended_domain s k) m in
        ext_get_or ring.zero p.values (map at fs) (wide ∙ sym (length-map fs at ∙ long)) (λ j h.
        let b : j < m.width = omega (arith, h, wide) in
        let (f, I, is) = value j b in
        sym is ∙ (ap at (one_polynomial m k j f b dimensions.fits dimensions.height_is I) ∙ sym (get_or-map at fs j [] ring.zero (omega (arith, b, long)))))

  -- where the commitments open the claims, the claim on each matrix speaks of its one polynomial a column
  pub opened_bound : (claims : List (CommitmentClaim E (PlainCommitmentData F) (CosetData F))) → Opens s ring embed claims
      → (round i : ℕ) (c : CommitmentClaim E (PlainCommitmentData F) (CosetData F)) (m : Rows F) (d : MatrixClaim E (CosetData F))
      → slice_get claims round ≡ Some c → slice_get c.commitment.matrices i ≡ Some m → slice_get c.matrices i ≡ Some d → IsBound s ring embed m d
  unfolding NoneFails opening_claim_checks
  opened_bound claims opens round i c m d at_round at_matrix at_claim =
      let k = d.domain.log_size in
      let whole = none_at_item (round_checks s ring embed) claims round c at_round opens in
      let here =
      none_at_item (matrix_checks s ring embed round) (zip c.commitment.matrices c.matrices) i (m, d)
      (zip_item c.commitment.matrices c.matrices i m d at_matrix at_claim) whole.1 in
      let degrees = in_turn m.width (degree_check s ring embed round i m k) in
      let values = of_items (point_checks s ring embed round i m k) d.points in
      record {
        dimensions_are = here.0;
        degrees_are = bounded m d here.0 (λ j b. holds_alone (check (Degree round i j) (HasLowDegree s ring embed m k j))
            (none_at (degree_check s ring embed round i m k) m.width j b (none_before degrees values here.1)));
        values_are = λ a e h.
            let p = get_or d.points a e in
            let part = none_at_item (point_checks s ring embed round i m k) d.points a p (slice_get-get_or d.points a e h) (none_after degrees values here.1) in
            valued m d here.0 p (here.0.widths_are a e h) (λ j b. holds_alone (check (Value round i a j) (HasValue s ring embed m k j p.point (get_or p.values j ring.zero)))
            (none_at (value_check s ring embed round i m k a p) m.width j b part));
      }
