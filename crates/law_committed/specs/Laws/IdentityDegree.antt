-- The degree of the identity polynomial: at most the larger of the trees' greatest degree and n (C + 1) - 1, for n rows and C chunks.
use Rattle.std.proofs.Common.{◌≡◌, ℕ, zero, suc, ◌+◌, ◌-◌, ◌*◌, ◌^◌, ◌<◌, ◌≤◌, inl, inr, List, [], ◌∷◌, length, get_or, map, sym, ◌∙◌, ap, subst, arith}
use Rattle.std.specs.Prelude.{max}
use Rattle.std.specs.List.{All}
use Rattle.std.proofs.Math.ListN.{get_or-eq_default}
use Rattle.std.proofs.lemmas.Bool.{cases_lt}
use Rattle.std.proofs.lemmas.Nat.{pow_pos}
use Rattle.p3_field.specs.Ring.{Ring, RingLaws}
use Rattle.p3_field.specs.Field.{TwoAdic, Extension}
use Rattle.p3_field.specs.Poly.{eval_poly, DegreeBelow, mul_poly}
use Rattle.p3_field.specs.Domain.{CosetData, point, vanishing_polynomial}
use Rattle.p3_field.specs.Laws.Coeffs.{degree_more, degree_sub, degree_mul, degree_scale, degree_length}
use Rattle.p3_field.specs.Laws.PolyLaws.{mul_poly_comm}
use Rattle.p3_field.specs.Laws.Extended.{degree_map}
use Rattle.p3_field.specs.Laws.Chunks.{degree_sum_polys}
use Rattle.air_core.specs.Degree.{full_polynomial_degree}
use Rattle.air_core.specs.Tree.{Tree}
use Rattle.commit_core.specs.Laws.Degrees.{degree_vanishing_polynomial}
use Rattle.p3_uni_stark.specs.FoldPolynomials.{fold_poly}
use Rattle.p3_uni_stark.specs.Laws.FoldPolynomials.{fold_degree}
use Rattle.p3_uni_stark.specs.Recombine.{domain_at}
use Rattle.law_committed.specs.Committed.{CommittedTable, IsBounded, table_periods_of, row_count_of, trace_domain}
use Rattle.law_committed.specs.Fields.{FieldsLaws}
use Rattle.law_committed.specs.Identity.{CommittedQuotient, IsBoundedQuotient, chunk_count_of, identity_poly, product_poly, product_poly_but, quotient_poly, rows_vanishing_polynomial, scaled_vanishing_polynomial, weight_poly}
use Rattle.law_committed.specs.Polynomials.{over, combined_poly, tree_poly}
use Rattle.law_committed.specs.Laws.Degrees.{all_images, committed_degree, degree_combined}

module _ {E : Type 0} (s : Ring E) (M : RingLaws s) where
  degree_product : (n m : ℕ) (t : ℕ → List E) → ((j : ℕ) → j < m → DegreeBelow s (suc n) (t j)) → DegreeBelow s (suc (m * n)) (product_poly s m t)
  degree_product n zero t h = degree_more s M 1 (suc (zero * n)) (s.one ∷ []) (omega arith) (degree_length s M (s.one ∷ []))
  degree_product n (suc m) t h =
      degree_more s M (suc (m * n) + n) (suc (suc m * n)) (product_poly s (suc m) t) (omega arith)
      (degree_mul s M (suc (m * n)) n (product_poly s m t) (t m) (degree_product n m t (λ j l. h j (omega (arith, l)))) (h m (omega arith)))

  degree_product_but : (n m i : ℕ) (t : ℕ → List E) → i < m → ((j : ℕ) → j < m → DegreeBelow s (suc n) (t j))
      → DegreeBelow s (suc (i * n + (m - suc i) * n)) (product_poly_but s m i t)
  degree_product_but n m i t l h =
      let k = m - suc i in
      degree_more s M (suc (i * n) + k * n) (suc (i * n + k * n)) (product_poly_but s m i t) (omega arith)
      (degree_mul s M (suc (i * n)) (k * n) (product_poly s i t) (product_poly s k (λ j. t (suc i + j)))
      (degree_product n i t (λ j b. h j (omega (arith, b, l)))) (degree_product n k (λ j. t (suc i + j)) (λ j b. h (suc i + j) (omega (arith, b, l)))))

module _ {F E : Type 0} (f : TwoAdic F) (e : Extension F E) (top : ℕ) (inverse : E → E) (L : FieldsLaws f e top inverse) (t : CommittedTable F E) where
  -- the degree of a domain's vanishing polynomial over the larger field
  degree_over_vanishing_polynomial : (d : CosetData F) → DegreeBelow e.ring (suc (2 ^ d.log_size)) (over e (vanishing_polynomial f.ring f.inv d))
  degree_over_vanishing_polynomial d = degree_map f.ring L.below e.ring L.above e.embed L.embeds (suc (2 ^ d.log_size)) (vanishing_polynomial f.ring f.inv d) (degree_vanishing_polynomial f.ring L.below f.inv d)

  module _ (q : CommittedQuotient F) (Q : IsBoundedQuotient f t q) where
    -- each chunk's polynomials, also past the end
    chunk_degrees : (i : ℕ) → All (DegreeBelow f.ring (row_count_of t)) (get_or q.chunks i [])
    chunk_degrees i = elim (cases_lt i (length q.chunks)) [
      | inl a ↦ Q.chunks i [] a
      | inr a ↦ subst (All (DegreeBelow f.ring (row_count_of t))) (sym (get_or-eq_default q.chunks [] a)) (λ k d l. absurd (omega (arith, l)))
    ]

    -- the quotient's degree is below n C
    pub degree_quotient : DegreeBelow e.ring (chunk_count_of q * row_count_of t) (quotient_poly f e q)
    unfolding quotient_poly weight_poly
    degree_quotient =
        let s = e.ring in let n = row_count_of t in let C = chunk_count_of q in let ds = q.domains in
        let g : ℕ → List E = λ i. combined_poly e 0 (get_or q.chunks i []) in
        degree_sum_polys s L.above C (C * n) (λ i. mul_poly s (weight_poly f e ds i) (g i)) (λ i h.
        let u : ℕ → List E = λ j. scaled_vanishing_polynomial f e (domain_at f.ring ds i) (domain_at f.ring ds j) in
        let w = λ (j : ℕ). e.embed (f.inv (eval_poly f.ring (vanishing_polynomial f.ring f.inv (domain_at f.ring ds j)) (point f.ring f.root (domain_at f.ring ds i) 0))) in
        let V : ℕ → List E = λ j. over e (vanishing_polynomial f.ring f.inv (domain_at f.ring ds j)) in
        let each : (j : ℕ) → j < C → DegreeBelow s (suc n) (u j) = λ j l.
        degree_scale s L.above (suc n) (w j) (V j)
        (subst (λ m. DegreeBelow s (suc (2 ^ m)) (V j)) (Q.domains j (record { shift = f.ring.one; log_size = 0 }) l) (degree_over_vanishing_polynomial (domain_at f.ring ds j))) in
        let m = i * n + (C - suc i) * n in
        let pos : 0 < n = pow_pos t.log_height in
        let chunk : DegreeBelow s (suc (n - 1)) (g i) =
        degree_more s L.above n (suc (n - 1)) (g i) (omega (arith, pos)) (degree_combined f e top inverse L n 0 (get_or q.chunks i []) (chunk_degrees i)) in
        degree_more s L.above (suc m + (n - 1)) (C * n) (mul_poly s (weight_poly f e ds i) (g i)) (counted i C n h pos)
        (degree_mul s L.above (suc m) (n - 1) (weight_poly f e ds i) (g i) (degree_product_but s L.above n C i u h each) chunk))
      where
        counted : (i C n : ℕ) → i < C → 0 < n → suc (i * n + (C - suc i) * n) + (n - 1) ≤ C * n
        counted i C n h pos =
            let a = C - suc i in
            let b : C ≡ i + suc a = omega (arith, h) in
            let c : (i + suc a) * n ≡ i * n + (n + a * n) = omega arith in
            omega (arith, ap (λ z. z * n) b, c, pos)

    -- The degree of the identity polynomial, where the trees' degrees are at most p.
    pub identity_degree : t.log_height ≤ top → IsBounded f t → (trees : List (Tree F)) (alpha : E) (p : ℕ)
        → All (λ tree. full_polynomial_degree (row_count_of t) (table_periods_of t) tree ≤ p) trees
        → DegreeBelow e.ring (suc (max p (row_count_of t * (chunk_count_of q + 1) - 1))) (identity_poly f e t trees q alpha)
    unfolding identity_poly
    identity_degree fits B trees alpha p most =
        let s = e.ring in let n = row_count_of t in let C = chunk_count_of q in
        let G = fold_poly s alpha (map (tree_poly f e t) trees) in
        let V = rows_vanishing_polynomial f e t in
        let R = quotient_poly f e q in
        let pos : 0 < n = pow_pos t.log_height in
        let each : All (DegreeBelow s (suc p)) (map (tree_poly f e t) trees) =
        all_images (λ tree. full_polynomial_degree n (table_periods_of t) tree ≤ p) (DegreeBelow s (suc p)) (tree_poly f e t)
        (λ tree less. degree_more s L.above (suc (full_polynomial_degree n (table_periods_of t) tree)) (suc p) (tree_poly f e t tree) (omega (arith, less))
        (committed_degree f e top inverse L t fits B tree)) trees most in
        let folded : DegreeBelow s (suc p) G = fold_degree s L.above alpha (suc p) (map (tree_poly f e t) trees) each in
        let turned : DegreeBelow s (C * n + n) (mul_poly s R V) = degree_mul s L.above (C * n) n R V degree_quotient (degree_over_vanishing_polynomial (trace_domain f e t)) in
        let times : DegreeBelow s (C * n + n) (mul_poly s V R) = λ i h. mul_poly_comm s L.above V R i ∙ turned i h in
        let bound = suc (max p (n * (C + 1) - 1)) in
        degree_sub s L.above bound G (mul_poly s V R)
        (degree_more s L.above (suc p) bound G (omega arith) folded)
        (degree_more s L.above (C * n + n) bound (mul_poly s V R) (counted C n p pos) times)
      where
        counted : (C n p : ℕ) → 0 < n → C * n + n ≤ suc (max p (n * (C + 1) - 1))
        counted C n p pos = let a : n * (C + 1) ≡ C * n + n = omega arith in omega (arith, a, pos)
