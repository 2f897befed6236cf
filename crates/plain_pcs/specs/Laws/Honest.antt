-- Claims with the values of held polynomials pass each check.
use Rattle.std.proofs.Common.{◌≡◌, ℕ, ◌+◌, ◌^◌, ◌≤◌, ◌<◌, List, [], ◌++◌, Some, None, length, get_or, map, refl, sym, ◌∙◌, ap, subst, arith}
use Rattle.std.specs.Prelude.{slice_get, zip, All}
use Rattle.std.proofs.lemmas.List.{length-map, get_or-map}
use Rattle.std.proofs.lemmas.List.Elements.{All-map, All-same}
use Rattle.std.proofs.lemmas.Option.{slice_get_within}
use Rattle.p3_field.specs.Ring.{Ring, RingLaws}
use Rattle.p3_field.specs.Field.{RingHom}
use Rattle.p3_field.specs.Poly.{eval_poly}
use Rattle.p3_field.specs.Domain.{CosetData, point, IsInterpolant}
use Rattle.p3_matrix.specs.Matrix.{Rows, height, column}
use Rattle.p3_matrix.specs.Laws.Powers.{power_cancel}
use Rattle.p3_dft.specs.Transform.{values_at}
use Rattle.commit_core.specs.Claims.{PointClaim, MatrixClaim, CommitmentClaim, Request}
use Rattle.commit_core.specs.Commitments.{Committed, OpenedCommitment, AreOpenedCommitments, AreClaims, IsMatrixClaim, IsRoundClaim, values_of}
use Rattle.commit_core.specs.Laws.Pairs.{length-zip, slice_get-zip}
use Rattle.plain_pcs.specs.Scheme.{Scheme, PlainCommitmentData}
use Rattle.plain_pcs.specs.Extension.{extended_domain}
use Rattle.p3_field.specs.Checks.{check, NoneFails, in_turn, of_items}
use Rattle.p3_field.specs.Laws.Checks.{refusal_later, none_append, none_alone, none_of_each, none_of_items}
use Rattle.plain_pcs.specs.Checks.{HasDimensions, HasLowDegree, HasValue, IsColumnPolynomial, degree_check, value_check, point_checks, matrix_checks, round_checks, opening_claim_checks, Opens}
use Rattle.plain_pcs.specs.Holding.{IsMade, IsHolding, AreHolding}
use Rattle.plain_pcs.specs.declared.error.PlainError.TheVariants.{RoundShape, Dimensions, Degree, Value}
use Rattle.plain_pcs.specs.Laws.Evaluations.{width-evaluations, height-evaluations, column-evaluations}
use Rattle.plain_pcs.specs.Laws.Listed.{item_at, item_has, zip_item}
use Rattle.plain_pcs.specs.Laws.OpenedCommitments.{power_within, holding_count}
use Rattle.plain_pcs.specs.Laws.Short.{filled, filled_interpolant, filled_degree, filled_value}

-- how many points a domain has
abbrev size : {F : Type 0} → CosetData F → ℕ
size d = 2 ^ d.log_size

module _ {F E : Type 0} (s : Scheme F) (ring : Ring E) (embed : F → E) (L : RingLaws s.field.ring) (M : RingLaws ring) (H : RingHom s.field.ring ring embed) where
  module _ (d : CosetData F × Rows F) (l : Rows F) (c : Committed F) (made : (0 < d.1.width) × (height d.1 ≡ 2 ^ d.0.log_size)) (I : IsHolding s d l c) where
    some : 0 < length c.polynomials
    some = omega (arith, made.0, I.count)

    width_is : l.width ≡ length c.polynomials
    width_is = ap (λ (m : Rows F). m.width) I.extension_is ∙ width-evaluations s.field (extended_domain s I.log_size) c.polynomials some

    height_is : height l ≡ 2 ^ (I.log_size + s.log_blowup)
    height_is = ap (λ (m : Rows F). height m) I.extension_is ∙ height-evaluations s.field (extended_domain s I.log_size) c.polynomials some

    polynomial : ℕ → List F
    polynomial j = filled s.field.ring (2 ^ (I.log_size + s.log_blowup)) (get_or c.polynomials j [])

    polynomial_length : (j : ℕ) → j < l.width → length (get_or c.polynomials j []) ≡ 2 ^ I.log_size
    polynomial_length j h =
        let k : j < length c.polynomials = omega (arith, width_is) in
        I.lengths j [] k ∙ I.size_is

    column_polynomial : (k j : ℕ) → k ≡ I.log_size → j < l.width → IsColumnPolynomial s ring embed l k j (polynomial j)
    unfolding polynomial
    column_polynomial k j e h =
        let f = get_or c.polynomials j [] in
        let b : j < length c.polynomials = omega (arith, width_is) in
        let column_is : column s.field.ring.zero l j ≡ values_at s.field.ring (point s.field.ring s.field.root (extended_domain s I.log_size)) (2 ^ (I.log_size + s.log_blowup)) f =
        ap (λ (m : Rows F). column s.field.ring.zero m j) I.extension_is ∙ column-evaluations s.field (extended_domain s I.log_size) c.polynomials some j b in
        let P : ℕ → Type 0 = λ n. IsInterpolant s.field.ring (point s.field.ring s.field.root (extended_domain s n)) (column s.field.ring.zero l j) (filled s.field.ring (2 ^ (I.log_size + s.log_blowup)) f) in
        subst P (sym e) (filled_interpolant s.field.ring L (2 ^ (I.log_size + s.log_blowup)) f (point s.field.ring s.field.root (extended_domain s I.log_size)) (column s.field.ring.zero l j)
        (let n = power_within I.log_size (I.log_size + s.log_blowup) (omega arith) in omega (arith, polynomial_length j h, n)) column_is)

    degree_holds : (k j : ℕ) → k ≡ I.log_size → j < l.width → HasLowDegree s ring embed l k j
    unfolding polynomial
    degree_holds k j e h =
        let f = get_or c.polynomials j [] in
        let n : length f ≤ 2 ^ k = omega (arith, polynomial_length j h, ap (λ i. 2 ^ i) e) in
        (polynomial j, column_polynomial k j e h, filled_degree s.field.ring L (2 ^ (I.log_size + s.log_blowup)) f (2 ^ k) n)

    value_holds : (k j : ℕ) (x : E) (ys : List E) → k ≡ I.log_size → j < l.width → ys ≡ values_of ring embed c x → HasValue s ring embed l k j x (get_or ys j ring.zero)
    unfolding polynomial
    value_holds k j x ys e h q =
        let f = get_or c.polynomials j [] in
        let b : j < length c.polynomials = omega (arith, width_is) in
        let value : eval_poly ring (map embed f) x ≡ get_or ys j ring.zero =
        sym (get_or-map (λ g. eval_poly ring (map embed g) x) c.polynomials j [] ring.zero b) ∙ ap (λ zs. get_or zs j ring.zero) (sym q) in
        (polynomial j, column_polynomial k j e h, filled_value s.field.ring L (2 ^ (I.log_size + s.log_blowup)) f ring M embed H x ∙ value)

    module _ (xs : List E) (m : MatrixClaim E (CosetData F)) (C : IsMatrixClaim ring embed size c xs m) where
      log_size_is : m.domain.log_size ≡ I.log_size
      log_size_is = power_cancel m.domain.log_size I.log_size (C.size_is ∙ I.size_is)

      points_have_values : All (λ p. p.values ≡ values_of ring embed c p.point) m.points
      points_have_values =
          let P : PointClaim E → Type 0 = λ p. p.values ≡ values_of ring embed c p.point in
          let g : E → PointClaim E = λ x. record { point = x; values = values_of ring embed c x } in
          All-same P m.points (map g xs) C.points_are (All-map P g xs (λ k x h. refl))

      dimensions_hold : HasDimensions s ring embed l m
      dimensions_hold = record {
        fits = let f = I.fits in omega (arith, log_size_is);
        height_is = height_is ∙ ap (λ k. 2 ^ (k + s.log_blowup)) (sym log_size_is);
        widths_are = λ k p h.
            ap length (points_have_values k p h) ∙ (length-map c.polynomials (λ f. eval_poly ring (map embed f) (get_or m.points k p).point) ∙ sym width_is);
      }

      -- a matrix of held polynomials passes its checks
      matrix_holds : (round n : ℕ) → NoneFails (matrix_checks s ring embed round n (l, m))
      matrix_holds round n =
          let k = m.domain.log_size in
          let degree = degree_check s ring embed round n l k in
          let values = point_checks s ring embed round n l k in
          refusal_later (check (Dimensions round n) (HasDimensions s ring embed l m)) (in_turn l.width degree ++ of_items values m.points) None dimensions_hold
          (none_append (in_turn l.width degree) (of_items values m.points)
          (none_of_each degree l.width (λ j b. none_alone (check (Degree round n j) (HasLowDegree s ring embed l k j)) (degree_holds k j log_size_is b)))
          (none_of_items values m.points
          (λ at p q.
          none_of_each (value_check s ring embed round n l k at p) l.width
          (λ j b.
          none_alone (check (Value round n at j) (HasValue s ring embed l k j p.point (get_or p.values j ring.zero)))
          (value_holds k j p.point p.values log_size_is b (item_has (λ p. p.values ≡ values_of ring embed c p.point) m.points at p points_have_values q))))))

  module _ (h : OpenedCommitment (PlainCommitmentData F) F) (q : Request (List (CosetData F × Rows F)) E) (c : CommitmentClaim E (PlainCommitmentData F) (CosetData F))
      (made : IsMade q.prover_data) (lists : length q.points ≡ length q.prover_data) (A : AreHolding s q.prover_data h.commitment h.matrices) (C : IsRoundClaim ring embed size h q c) where
    polynomials_count : length h.matrices ≡ length q.prover_data
    polynomials_count = holding_count s q.prover_data h.commitment h.matrices A

    claims_count : length c.matrices ≡ length q.prover_data
    claims_count =
        let le : length q.points ≤ length h.matrices = omega (arith, polynomials_count) in
        C.matrices_are.count ∙ (length-zip h.matrices q.points le ∙ lists)

    commitment_count : length c.commitment.matrices ≡ length c.matrices
    commitment_count = ap (λ (k : PlainCommitmentData F). length k.matrices) C.commitment_is ∙ (sym A.count ∙ sym claims_count)

    -- the matrix and the claim at a place pass their checks
    place_holds : (round k : ℕ) (e : Rows F × MatrixClaim E (CosetData F)) → slice_get (zip c.commitment.matrices c.matrices) k ≡ Some e → NoneFails (matrix_checks s ring embed round k e)
    place_holds round k e i =
        let (a, b) = slice_get-zip c.commitment.matrices c.matrices k e i in
        let a' : slice_get h.commitment.matrices k ≡ Some e.0 = ap (λ (w : PlainCommitmentData F). slice_get w.matrices k) (sym C.commitment_is) ∙ a in
        let inside : k < length c.matrices = slice_get_within c.matrices k e.1 b in
        let (d, d') = item_at q.prover_data k (omega (arith, claims_count)) in
        let (p, p') = item_at (zip h.matrices q.points) k (omega (arith, C.matrices_are.count)) in
        let held = slice_get-zip h.matrices q.points k p p' in
        let I : IsHolding s d e.0 p.0 = A.each.each k p.0 held.0 (d, e.0) (zip_item q.prover_data h.commitment.matrices k d e.0 d' a') in
        matrix_holds d e.0 p.0 (item_has (λ (w : CosetData F × Rows F). (0 < w.1.width) × (height w.1 ≡ 2 ^ w.0.log_size)) q.prover_data k d made d') I p.1 e.1 (C.matrices_are.each k e.1 b p p') round k

    -- the claims on a commitment pass their checks
    round_holds : (round : ℕ) → NoneFails (round_checks s ring embed round c)
    round_holds round =
        let parts = zip c.commitment.matrices c.matrices in
        refusal_later (check (RoundShape round) (length c.commitment.matrices ≡ length c.matrices)) (of_items (matrix_checks s ring embed round) parts) None commitment_count
        (none_of_items (matrix_checks s ring embed round) parts (place_holds round))

  -- the claims that hold of what was asked for are opened
  pub honest_opens : (requests : List (Request (List (CosetData F × Rows F)) E)) (held : List (OpenedCommitment (PlainCommitmentData F) F)) (claims : List (CommitmentClaim E (PlainCommitmentData F) (CosetData F)))
      → All (λ q. IsMade q.prover_data) requests → All (λ q. length q.points ≡ length q.prover_data) requests → AreOpenedCommitments (AreHolding s) requests held
      → AreClaims ring embed size held requests claims → Opens s ring embed claims
  unfolding opening_claim_checks
  honest_opens requests held claims made lists A C =
      none_of_items (round_checks s ring embed) claims
      (λ k e h.
      let inside : k < length claims = slice_get_within claims k e h in
      let (p, p') = item_at (zip held requests) k (omega (arith, C.count)) in
      let both = slice_get-zip held requests k p p' in
      round_holds p.0 p.1 e
      (item_has (λ (q : Request (List (CosetData F × Rows F)) E). IsMade q.prover_data) requests k p.1 made both.1)
      (item_has (λ (q : Request (List (CosetData F × Rows F)) E). length q.points ≡ length q.prover_data) requests k p.1 lists both.1)
      (A.each k p.0 both.0 p.1 both.1) (C.each k e h p p') k)
