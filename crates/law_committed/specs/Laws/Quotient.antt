-- Where a table holds and its trees fit, the fold is the vanishing polynomial times one of degree below n C, which is recombined
-- at each point from the interpolated chunks of its values; so the identity holds at each point.
use Rattle.std.proofs.Common.{◌≡◌, ℕ, zero, suc, ◌+◌, ◌-◌, ◌*◌, ◌/◌, ◌%◌, ◌^◌, ◌<◌, ◌≤◌, List, [], ◌∷◌, length, get_or, map, refl, sym, ◌∙◌, ap, subst, arith}
use Rattle.std.specs.List.{All}
use Rattle.std.proofs.Math.ListN.{get_or-map}
use Rattle.std.proofs.Math.Nat.{div-lt_iff_lt-mul, div-add-mod}
use Rattle.std.proofs.lemmas.Nat.{pow-add, pow_pos, mod_below}
use Rattle.std.proofs.lemmas.List.{map-id}
use Rattle.std.proofs.lemmas.List.Elements.{All-map}
use Rattle.std.proofs.lemmas.Option.{get_or_from_slice_get, slice_get_within}
use Rattle.p3_field.specs.Ring.{Ring, RingLaws, pow, sub}
use Rattle.p3_field.specs.Field.{TwoAdic, Extension, combine}
use Rattle.p3_field.specs.Poly.{Apart, DegreeBelow, SamePoly, tabulate, eval_poly, eval_poly_in}
use Rattle.p3_field.specs.Domain.{CosetData, IsInterpolant, point, vanishing_polynomial}
use Rattle.p3_field.specs.Laws.Algebra.{mul_zero}
use Rattle.p3_field.specs.Laws.Values.{eval_same}
use Rattle.p3_field.specs.Laws.Coeffs.{degree_more, degree_length_le}
use Rattle.p3_field.specs.Laws.Roots.{NoZeroDivisors, field_no_zero_divisors, same_values}
use Rattle.p3_field.specs.Laws.Order.{one_pow}
use Rattle.p3_field.specs.Laws.Coset.{HasOrder, two_adic_order}
use Rattle.p3_field.specs.Laws.Binomials.{times_binomial, eval_times_binomial, coset_divides, degree_quotient_by_binomial}
use Rattle.p3_field.specs.Laws.Extended.{hom_order, hom_coset_point, hom_apart, map_eval}
use Rattle.p3_field.specs.Laws.Own.{own_hom}
use Rattle.p3_field.specs.Laws.Newton.{length_newton}
use Rattle.p3_field.specs.Laws.Interpolants.{interpolant_exists, interpolant_unique, points_apart}
use Rattle.p3_field.specs.Laws.Tabulate.{length-tabulate, get_or-tabulate}
use Rattle.p3_field.specs.Laws.Selectors.{vanishing_only_there}
use Rattle.p3_field.specs.Laws.SubgroupSelectors.{vanishing_value}
use Rattle.commit_core.specs.Space.{EachOf, IsPart}
use Rattle.commit_core.specs.Laws.Cosets.{points_of_part, point_not_zero}
use Rattle.air_core.specs.Degree.{full_polynomial_degree}
use Rattle.air_core.specs.Tree.{Tree, eval_tree}
use Rattle.p3_uni_stark.specs.Fold.{fold}
use Rattle.p3_uni_stark.specs.Laws.FoldPolynomials.{fold_degree}
use Rattle.p3_uni_stark.specs.Laws.Parts.{recombined_on_part}
use Rattle.law_committed.specs.Committed.{CommittedTable, Holds, IsBounded, table_periods_of, reading, row, row_point, row_count_of, trace_domain}
use Rattle.law_committed.specs.Fields.{FieldsLaws}
use Rattle.law_committed.specs.Identity.{CommittedIdentity, IsBoundedQuotient, chunk_values, quotient_poly, rows_vanishing_polynomial}
use Rattle.law_committed.specs.Polynomials.{tree_poly}
use Rattle.law_committed.specs.Quotient.{IsQuotientDomain, chunk_cell, chunk_domain, fold_quotient, quotient_value, folded_poly, honest_chunk, honest_quotient, quotient_domain}
use Rattle.law_committed.specs.Traces.{interpolant}
use Rattle.law_committed.specs.Unlucky.{constraint_values}
use Rattle.law_committed.specs.Laws.Degrees.{all_images, all_tabulate, committed_degree}
use Rattle.law_committed.specs.Laws.Identity.{quotient_poly_value, trees_fold_value}
use Rattle.law_committed.specs.Laws.IdentityDegree.{degree_quotient}
use Rattle.law_committed.specs.Laws.Rows.{combined_parts}

-- the fold of zeros is zero
fold_of_zeros : {E : Type 0} (s : Ring E) (M : RingLaws s) (a : E) (cs : List E) → All (λ v. v ≡ s.zero) cs → fold s a cs ≡ s.zero
unfolding fold
fold_of_zeros s M a [] h = refl
fold_of_zeros s M a (c ∷ cs) h =
    let P = pow s a (length cs) in
    cc (h zero c (omega arith), mul_zero s M P, fold_of_zeros s M a cs (λ k v l. h (suc k) v (omega (arith, l))), M.add_zero s.zero)

module _ {F E : Type 0} (f : TwoAdic F) (e : Extension F E) (top : ℕ) (inverse : E → E) (L : FieldsLaws f e top inverse)
    (t : CommittedTable F E) (trees : List (Tree F)) (alpha : E) (fits : t.log_height ≤ top) where
  divisors : NoZeroDivisors e.ring
  divisors = field_no_zero_divisors e.ring L.above inverse L.above_field

  -- where the table holds the fold is the vanishing polynomial times its quotient
  pub fold_divided : Holds f e t trees → (x : E) → eval_poly e.ring (folded_poly f e t trees alpha) x ≡ e.ring.mul (eval_poly e.ring (rows_vanishing_polynomial f e t) x) (eval_poly e.ring (fold_quotient f e t trees alpha) x)
  fold_divided holds x =
      let s = e.ring in let M = L.above in let k = t.log_height in let n = row_count_of t in
      let one = e.embed f.ring.one in let h = e.embed (f.root k) in
      let G = folded_poly f e t trees alpha in
      let q = fold_quotient f e t trees alpha in
      let O : HasOrder s n h = hom_order f.ring L.below s M e.embed L.embeds f.inv L.below_field L.above_field.one_differs n (f.root k) (two_adic_order f.ring L.below top f.root L.roots k fits) in
      let shift : one ≡ s.zero → ⊥ = λ z. L.above_field.one_differs (sym L.embeds.keeps_one ∙ z) in
      let divides : SamePoly s G (times_binomial s n (pow s one n) q) =
      coset_divides s M divisors n one h G (pow_pos k) O shift (λ i l.
      ap (eval_poly s G) (sym (hom_coset_point f.ring L.below s M e.embed L.embeds f.ring.one (f.root k) i))
      ∙ (trees_fold_value e M f t trees alpha (row_point f e t i)
      ∙ fold_of_zeros s M alpha (constraint_values f e t trees i) (All-map (λ v. v ≡ s.zero) (eval_tree (row f e t i)) trees (holds i l)))) in
      let full : pow s one n ≡ s.one = ap (λ v. pow s v n) L.embeds.keeps_one ∙ one_pow s M n in
      let V : eval_poly s (rows_vanishing_polynomial f e t) x ≡ sub s (pow s x n) (pow s one n) =
      vanishing_value f.ring L.below f.inv L.below_field s M e.embed L.embeds k x ∙ ap (sub s (pow s x n)) (sym full) in
      eval_same s M G (times_binomial s n (pow s one n) q) x divides
      ∙ (eval_times_binomial s M n (pow s one n) q x ∙ ap (λ v. s.mul v (eval_poly s q x)) (sym V))

module _ {F E : Type 0} (f : TwoAdic F) (e : Extension F E) (top : ℕ) (inverse : E → E) (L : FieldsLaws f e top inverse)
    (t : CommittedTable F E) (trees : List (Tree F)) (alpha : E) (shift : F) (log_chunks : ℕ) (Q : IsQuotientDomain f e t shift log_chunks top) where
  abbrev whole : CosetData F
  whole = quotient_domain f e t shift log_chunks

  abbrev size : ℕ
  size = 2 ^ (t.log_height + log_chunks)

  abbrev parts : List (CosetData F)
  parts = tabulate (2 ^ log_chunks) (chunk_domain f e t shift log_chunks)

  low : t.log_height ≤ top
  low = let h = Q.fits in omega (arith, h)

  size_is : size ≡ row_count_of t * 2 ^ log_chunks
  size_is = pow-add 2 t.log_height log_chunks

  -- the quotient's value at a point of its domain is that of the fold's quotient
  pub value_there : Holds f e t trees → (m : ℕ) → m < size
      → quotient_value f e t shift log_chunks trees alpha (point f.ring f.root whole m) ≡ eval_poly e.ring (fold_quotient f e t trees alpha) (e.embed (point f.ring f.root whole m))
  unfolding quotient_value
  value_there holds m h =
      let s = e.ring in let M = L.above in
      let u = point f.ring f.root whole m in let x = e.embed u in
      let v = eval_poly f.ring (vanishing_polynomial f.ring f.inv (trace_domain f e t)) u in
      let V = eval_poly s (rows_vanishing_polynomial f e t) x in
      let q = eval_poly s (fold_quotient f e t trees alpha) x in
      let w = e.embed (f.inv v) in
      let folded : fold s alpha (map (eval_tree (reading f e t x)) trees) ≡ s.mul V q =
      sym (trees_fold_value e M f t trees alpha x) ∙ fold_divided f e top inverse L t trees alpha low holds x in
      let nonzero : v ≡ f.ring.zero → ⊥ = λ z.
      let found = vanishing_only_there f.ring L.below f.ring L.below (λ y. y) (own_hom f.ring) f.inv L.below_field top f.root L.roots L.below_decided L.below_field.one_differs
      (field_no_zero_divisors f.ring L.below f.inv L.below_field)
      (trace_domain f e t) u L.below_field.one_differs low (ap (λ g. eval_poly f.ring g u) (map-id (vanishing_polynomial f.ring f.inv (trace_domain f e t))) ∙ z) in
      Q.apart found.0 m found.1 h (sym found.2) in
      let there : V ≡ e.embed v = map_eval f.ring L.below s M e.embed L.embeds (vanishing_polynomial f.ring f.inv (trace_domain f e t)) u in
      let unit : s.mul V w ≡ s.one = ap (λ z. s.mul z w) there ∙ (sym (L.embeds.keeps_mul v (f.inv v)) ∙ (ap e.embed (L.below_field.mul_inv v nonzero) ∙ L.embeds.keeps_one)) in
      ap (λ z. s.mul z w) folded ∙ cc (M.mul_comm V q, M.mul_assoc q V w, unit, M.mul_one q)

  chunk_is_part : (i : ℕ) → IsPart f.ring f.root whole (2 ^ log_chunks) i (chunk_domain f e t shift log_chunks i)
  chunk_is_part i = record { shift_is = refl; size_is = sym size_is }

  -- the chunks' domains are the parts of the quotient's
  are_parts : EachOf (2 ^ log_chunks) parts (IsPart f.ring f.root whole (2 ^ log_chunks))
  are_parts = record {
    count = length-tabulate (2 ^ log_chunks) (chunk_domain f e t shift log_chunks);
    each = λ i d there.
        let inside : i < 2 ^ log_chunks = let h = slice_get_within parts i d there in omega (arith, h, length-tabulate (2 ^ log_chunks) (chunk_domain f e t shift log_chunks)) in
        subst (IsPart f.ring f.root whole (2 ^ log_chunks) i)
        (sym (get_or-tabulate (2 ^ log_chunks) (chunk_domain f e t shift log_chunks) i d inside) ∙ get_or_from_slice_get parts i d d there) (chunk_is_part i);
  }

  -- the points of a chunk's domain differ
  chunk_apart : (i : ℕ) → Apart (row_count_of t) (point f.ring f.root (chunk_domain f e t shift log_chunks i))
  chunk_apart i =
      points_apart f.ring L.below f.inv L.below_field top f.root L.roots (chunk_domain f e t shift log_chunks i) low
      (point_not_zero f.ring L.below f.inv L.below_field top f.root L.roots whole i Q.shift_not_zero Q.fits)

  abbrev cells : ℕ → ℕ → List F
  cells i k = tabulate (row_count_of t) (chunk_cell f e t shift log_chunks trees alpha i k)

  cells_long : (i k : ℕ) → length (cells i k) ≡ row_count_of t
  cells_long i k = length-tabulate (row_count_of t) (chunk_cell f e t shift log_chunks trees alpha i k)

  cells_apart : (i k : ℕ) → Apart (length (cells i k)) (point f.ring f.root (chunk_domain f e t shift log_chunks i))
  cells_apart i k = subst (λ n. Apart n (point f.ring f.root (chunk_domain f e t shift log_chunks i))) (sym (cells_long i k)) (chunk_apart i)

  -- a chunk's polynomial interpolates its cells
  chunk_interpolates : (i k : ℕ) → IsInterpolant f.ring (point f.ring f.root (chunk_domain f e t shift log_chunks i)) (cells i k) (interpolant f (chunk_domain f e t shift log_chunks i) (cells i k))
  chunk_interpolates i k = interpolant_exists f.ring L.below f.inv L.below_field (point f.ring f.root (chunk_domain f e t shift log_chunks i)) (cells i k) (cells_apart i k)

  -- and is the only list that does
  pub one_chunk_polynomial : (i k : ℕ) (g : List F) → k < e.dimension
      → IsInterpolant f.ring (point f.ring f.root (chunk_domain f e t shift log_chunks i)) (cells i k) g → g ≡ get_or (honest_chunk f e t shift log_chunks trees alpha i) k []
  unfolding honest_chunk
  one_chunk_polynomial i k g below I =
      interpolant_unique f.ring L.below f.inv L.below_field (point f.ring f.root (chunk_domain f e t shift log_chunks i)) (cells i k) g
      (interpolant f (chunk_domain f e t shift log_chunks i) (cells i k)) (cells_apart i k) I (chunk_interpolates i k)
      ∙ sym (get_or-tabulate e.dimension (λ c. interpolant f (chunk_domain f e t shift log_chunks i) (cells i c)) k [] below)

  -- a chunk's values are the quotient's at its rows
  values_of_chunk : (i j : ℕ) → j < row_count_of t
      → combine e.ring e.basis 0 (map (λ g. eval_poly_in e g (e.embed (point f.ring f.root whole (i + 2 ^ log_chunks * j)))) (honest_chunk f e t shift log_chunks trees alpha i))
      ≡ quotient_value f e t shift log_chunks trees alpha (point f.ring f.root whole (i + 2 ^ log_chunks * j))
  unfolding honest_chunk
  values_of_chunk i j h =
      let d = chunk_domain f e t shift log_chunks i in
      let m = i + 2 ^ log_chunks * j in
      let p = point f.ring f.root d j in
      let v = quotient_value f e t shift log_chunks trees alpha (point f.ring f.root whole m) in
      let g : ℕ → List F = λ k. interpolant f d (cells i k) in
      let there : p ≡ point f.ring f.root whole m = points_of_part f.ring L.below top f.root L.roots whole d (2 ^ log_chunks) i j Q.fits (chunk_is_part i) in
      combined_parts f e top inverse L v g (e.embed (point f.ring f.root whole m)) (λ k l.
      ap (λ y. eval_poly_in e (g k) (e.embed y)) (sym there)
      ∙ (map_eval f.ring L.below e.ring L.above e.embed L.embeds (g k) p
      ∙ ap e.embed ((chunk_interpolates i k).value_is j (omega (arith, h, cells_long i k))
      ∙ get_or-tabulate (row_count_of t) (chunk_cell f e t shift log_chunks trees alpha i k) j f.ring.zero h)))

  -- the honest quotient is bounded
  pub honest_bounded : IsBoundedQuotient f t (honest_quotient f e t shift log_chunks trees alpha)
  unfolding honest_chunk
  honest_bounded = record {
    domains = all_tabulate (λ d. d.log_size ≡ t.log_height) (2 ^ log_chunks) (chunk_domain f e t shift log_chunks) (λ i. refl);
    chunks = all_tabulate (All (DegreeBelow f.ring (row_count_of t))) (2 ^ log_chunks) (honest_chunk f e t shift log_chunks trees alpha) (λ i.
        all_tabulate (DegreeBelow f.ring (row_count_of t)) e.dimension (λ k. interpolant f (chunk_domain f e t shift log_chunks i) (cells i k)) (λ k.
        let long = length_newton f.ring L.below f.inv L.below_field (length (cells i k)) (point f.ring f.root (chunk_domain f e t shift log_chunks i)) (λ j. get_or (cells i k) j f.ring.zero) in
        degree_length_le f.ring L.below (row_count_of t) (interpolant f (chunk_domain f e t shift log_chunks i) (cells i k)) (omega (arith, long, cells_long i k))));
  }

  -- at each point of the quotient domain the quotient of the honest chunks has the value of the fold's
  recombined_there : Holds f e t trees → (m : ℕ) → m < size
      → eval_poly e.ring (quotient_poly f e (honest_quotient f e t shift log_chunks trees alpha)) (e.embed (point f.ring f.root whole m))
      ≡ eval_poly e.ring (fold_quotient f e t trees alpha) (e.embed (point f.ring f.root whole m))
  recombined_there holds m h =
      let s = e.ring in let C = 2 ^ log_chunks in let n = row_count_of t in
      let q = honest_quotient f e t shift log_chunks trees alpha in
      let pos : 0 < C = pow_pos log_chunks in
      let i = m % C in let j = m / C in
      let li : i < C = mod_below m C pos in
      let lj : j < n = (div-lt_iff_lt-mul pos).1 (subst (λ z. m < z) size_is h) in
      let split : C * j + i ≡ m = div-add-mod m C in
      let back : i + C * j ≡ m = omega (arith, split) in
      let x = e.embed (point f.ring f.root whole m) in
      let y = e.embed (point f.ring f.root whole (i + C * j)) in
      let here : x ≡ y = ap (λ k. e.embed (point f.ring f.root whole k)) (sym back) in
      let at = λ (z : E) (gs : List (List F)). map (λ (g : List F). eval_poly_in e g z) gs in
      ap (eval_poly s (quotient_poly f e q)) here
      ∙ (quotient_poly_value e L.above f q y
      ∙ (recombined_on_part f L.below L.below_field top L.roots whole Q.shift_not_zero Q.fits C parts are_parts e L.above L.embeds L.below_decided (chunk_values f e q y) i j li
      ∙ (ap (combine s e.basis 0) (get_or-map (at y) q.chunks i [] ∙ ap (at y) (get_or-tabulate C (honest_chunk f e t shift log_chunks trees alpha) i [] li))
      ∙ (values_of_chunk i j lj
      ∙ (ap (λ k. quotient_value f e t shift log_chunks trees alpha (point f.ring f.root whole k)) back
      ∙ value_there holds m h)))))

  module _ (B : IsBounded f t) (holds : Holds f e t trees) (fit : All (λ tree. full_polynomial_degree (row_count_of t) (table_periods_of t) tree < row_count_of t * (2 ^ log_chunks + 1)) trees) where
    -- The quotient of the honest chunks is the fold's at every point.
    pub honest_recombined : (x : E) → eval_poly e.ring (quotient_poly f e (honest_quotient f e t shift log_chunks trees alpha)) x ≡ eval_poly e.ring (fold_quotient f e t trees alpha) x
    honest_recombined x =
        let s = e.ring in let C = 2 ^ log_chunks in let n = row_count_of t in
        let q = honest_quotient f e t shift log_chunks trees alpha in
        let P = quotient_poly f e q in
        let R = fold_quotient f e t trees alpha in
        let most = n * (C + 1) in
        let count : length parts * n ≡ size =
        ap (λ z. z * n) (length-tabulate C (chunk_domain f e t shift log_chunks)) ∙ (let c : C * n ≡ n * C = omega arith in c ∙ sym size_is) in
        let left : most - n ≡ size = let d : n * (C + 1) ≡ n * C + n = omega arith in omega (arith, d, size_is) in
        let dP : DegreeBelow s size P = subst (λ z. DegreeBelow s z P) count (degree_quotient f e top inverse L t q honest_bounded) in
        let each : All (DegreeBelow s most) (map (tree_poly f e t) trees) =
        all_images (λ tree. full_polynomial_degree n (table_periods_of t) tree < most) (DegreeBelow s most) (tree_poly f e t)
        (λ tree less. degree_more s L.above (suc (full_polynomial_degree n (table_periods_of t) tree)) most (tree_poly f e t tree) less
        (committed_degree f e top inverse L t low B tree)) trees fit in
        let dG : DegreeBelow s most (folded_poly f e t trees alpha) = fold_degree s L.above alpha most (map (tree_poly f e t) trees) each in
        let dR : DegreeBelow s size R =
        subst (λ z. DegreeBelow s z R) left (degree_quotient_by_binomial s L.above n most (pow s (e.embed f.ring.one) n) (folded_poly f e t trees alpha) dG) in
        let points : Apart size (λ m. e.embed (point f.ring f.root whole m)) =
        hom_apart f.ring L.below s L.above e.embed L.embeds f.inv L.below_field L.above_field.one_differs size (point f.ring f.root whole)
        (points_apart f.ring L.below f.inv L.below_field top f.root L.roots whole Q.fits Q.shift_not_zero) in
        eval_same s L.above P R x
        (same_values s L.above (field_no_zero_divisors s L.above inverse L.above_field) size (λ m. e.embed (point f.ring f.root whole m)) P R points dP dR (recombined_there holds))

    -- So the identity holds at every point.
    pub honest_identity : (x : E) → CommittedIdentity f e t trees (honest_quotient f e t shift log_chunks trees alpha) alpha x
    honest_identity x =
        let q = honest_quotient f e t shift log_chunks trees alpha in
        sym (trees_fold_value e L.above f t trees alpha x)
        ∙ (fold_divided f e top inverse L t trees alpha low holds x
        ∙ ap (e.ring.mul (eval_poly e.ring (rows_vanishing_polynomial f e t) x)) (sym (honest_recombined x) ∙ quotient_poly_value e L.above f q x))
