-- The degrees of a bounded table's polynomials.
use Rattle.std.proofs.Common.{◌≡◌, ℕ, zero, suc, ◌+◌, ◌*◌, ◌/◌, ◌%◌, ◌^◌, ◌<◌, ◌≤◌, inl, inr, List, [], ◌∷◌, length, get_or, map, refl, sym, subst, arith}
use Rattle.std.specs.Prelude.{slice_index}
use Rattle.std.specs.List.{All}
use Rattle.std.proofs.Math.ListN.{get_or-map, get_or-eq_default}
use Rattle.std.proofs.Math.Nat.{mul_comm}
use Rattle.std.proofs.lemmas.Bool.{cases_lt}
use Rattle.std.proofs.lemmas.List.{length-map, get_or-map as get_or-map-within}
use Rattle.std.proofs.lemmas.Nat.{pow_pos}
use Rattle.std.proofs.lemmas.Nat.Gcd.{mod-eq-zero_of_dvd}
use Rattle.p3_field.specs.Ring.{Ring}
use Rattle.p3_field.specs.Field.{TwoAdic, Extension}
use Rattle.p3_field.specs.Poly.{Apart, DegreeBelow, scale_poly, tabulate}
use Rattle.p3_field.specs.Newton.{newton}
use Rattle.p3_field.specs.Domain.{IsInterpolant, point, first_selector, last_selector, transition_selector}
use Rattle.p3_field.specs.Laws.Coeffs.{degree_add, degree_scale, degree_shift_arg, degree_length_le}
use Rattle.p3_field.specs.Laws.Extended.{degree_map}
use Rattle.p3_field.specs.Laws.Interpolants.{interpolant_exists, points_apart}
use Rattle.p3_field.specs.Laws.Tabulate.{length-tabulate, get_or-tabulate}
use Rattle.air_core.specs.CellValues.{HaveDegrees, cell_in, ext_cell_in}
use Rattle.air_core.specs.Degree.{full_polynomial_degree, cell_degree, ext_degree, periodic_degree}
use Rattle.air_core.specs.Laws.Degrees.{tree_degree, cell_polynomial, ext_cell_polynomial}
use Rattle.air_core.specs.Laws.Maps.{reads_all}
use Rattle.air_core.specs.Tree.{Tree}
use Rattle.commit_core.specs.Periodic.{IsPeriod, over_rows}
use Rattle.commit_core.specs.Laws.Degrees.{degree_first, degree_last, degree_transition, repeated_degree}
use Rattle.commit_core.specs.Laws.Repeated.{length_over_rows}
use Rattle.law_committed.specs.Committed.{CommittedTable, IsBounded, row_count_of, table_periods_of, trace_domain, periodic_poly, flattened_width, flattened}
use Rattle.law_committed.specs.Fields.{FieldsLaws}
use Rattle.law_committed.specs.Polynomials.{over, combined_poly, next_poly, permutation_poly, cell_polys, tree_poly}

-- what each item gives its image holds of all images
pub all_images : {X Y : Type 0} (Q : X → Type 0) (P : Y → Type 0) (g : X → Y) → ((x : X) → Q x → P (g x)) → (xs : List X) → All Q xs → All P (map g xs)
all_images Q P g h [] a k d l = absurd (omega (arith, l))
all_images Q P g h (x ∷ xs) a zero d l = h x (a zero x (omega arith))
all_images Q P g h (x ∷ xs) a (suc k) d l = all_images Q P g h xs (λ i u b. a (suc i) u (omega (arith, b))) k d (omega (arith, l))

-- what holds of each image holds of all
pub all_values : {X Y : Type 0} (P : Y → Type 0) (g : X → Y) → ((x : X) → P (g x)) → (xs : List X) → All P (map g xs)
all_values P g h [] k d l = absurd (omega (arith, l))
all_values P g h (x ∷ xs) zero d l = h x
all_values P g h (x ∷ xs) (suc k) d l = all_values P g h xs k d (omega (arith, l))

-- what holds of each value of a table
pub all_tabulate : {X : Type 0} (P : X → Type 0) (n : ℕ) (t : ℕ → X) → ((j : ℕ) → P (t j)) → All P (tabulate n t)
all_tabulate P n t h k d l = subst P (sym (get_or-tabulate n t k d (omega (arith, l, length-tabulate n t)))) (h k)

-- an item of a list all of whose items have degree below n, also past the end
degree_item : {A : Type 0} (r : Ring A) (n : ℕ) (gs : List (List A)) (i : ℕ) → All (DegreeBelow r n) gs → DegreeBelow r n (get_or gs i [])
degree_item r n gs i h = elim (cases_lt i (length gs)) [
  | inl a ↦ h i [] a
  | inr a ↦ subst (DegreeBelow r n) (sym (get_or-eq_default gs [] a)) (λ k l. refl)
]

-- a period that fits n rows isn't empty, and whole copies of it fill them
pub period_positive : (n q : ℕ) → IsPeriod n q → 0 < q
period_positive n q P = let (k, size) = P.0 in let pos : 0 < 2 ^ k = pow_pos k in omega (arith, size, pos)

pub whole_periods : (n q : ℕ) → IsPeriod n q → n ≡ n / q * q
whole_periods n q P = let rest : n % q ≡ 0 = mod-eq-zero_of_dvd q P.1 in let pos = period_positive n q P in omega (arith, rest, pos, mul_comm (n / q) q)

module _ {F E : Type 0} (f : TwoAdic F) (e : Extension F E) (top : ℕ) (inverse : E → E) (L : FieldsLaws f e top inverse) where
  degree_over : (n : ℕ) (g : List F) → DegreeBelow f.ring n g → DegreeBelow e.ring n (over e g)
  degree_over n g d = degree_map f.ring L.below e.ring L.above e.embed L.embeds n g d

  -- the degree of a sum of polynomials times basis elements
  pub degree_combined : (n k : ℕ) (gs : List (List F)) → All (DegreeBelow f.ring n) gs → DegreeBelow e.ring n (combined_poly e k gs)
  degree_combined n k [] h = λ i l. refl
  degree_combined n k (g ∷ gs) h =
      degree_add e.ring L.above n (scale_poly e.ring (e.basis k) (over e g)) (combined_poly e (k + 1) gs)
      (degree_scale e.ring L.above n (e.basis k) (over e g) (degree_over n g (h zero g (omega arith))))
      (degree_combined n (k + 1) gs (λ i u l. h (suc i) u (omega (arith, l))))

  module _ (t : CommittedTable F E) (fits : t.log_height ≤ top) where
    -- the polynomial of a periodic column that fits is the interpolant of the column over the rows
    pub periodic_interpolates : (column : List F) → IsPeriod (row_count_of t) (length column)
        → IsInterpolant f.ring (point f.ring f.root (trace_domain f e t)) (over_rows (row_count_of t) column) (periodic_poly f e t column)
    unfolding periodic_poly
    periodic_interpolates column P =
        let n = row_count_of t in
        let p = point f.ring f.root (trace_domain f e t) in
        let w = over_rows n column in
        let q = length column in
        let long : length w ≡ n = length_over_rows n (n / q) column (whole_periods n q P) (period_positive n q P) in
        let apart : Apart n p = points_apart f.ring L.below f.inv L.below_field top f.root L.roots (trace_domain f e t) fits L.below_field.one_differs in
        subst (λ m. IsInterpolant f.ring p w (newton f.ring f.inv m p (λ i. get_or w i f.ring.zero))) long
        (interpolant_exists f.ring L.below f.inv L.below_field p w (subst (λ m. Apart m p) (sym long) apart))

    degree_periodic : (column : List F) → IsPeriod (row_count_of t) (length column)
        → DegreeBelow f.ring (suc (periodic_degree (row_count_of t) (length column))) (periodic_poly f e t column)
    degree_periodic column P =
        repeated_degree f.ring L.below f.inv L.below_field top f.root L.roots (trace_domain f e t) column (periodic_poly f e t column) fits
        L.below_field.one_differs P (periodic_interpolates column P)

    module _ (B : IsBounded f t) where
      degree_permutation : (j : ℕ) → DegreeBelow e.ring (row_count_of t) (permutation_poly f e t j)
      degree_permutation j =
          degree_combined (row_count_of t) 0 (flattened f e t j)
          (all_tabulate (DegreeBelow f.ring (row_count_of t)) e.dimension (λ k. get_or t.permutation (j * e.dimension + k) [])
          (λ k. degree_item f.ring (row_count_of t) t.permutation (j * e.dimension + k) B.permutation))

      degree_next : (n : ℕ) (g : List E) → DegreeBelow e.ring n g → DegreeBelow e.ring n (next_poly f e t g)
      degree_next n g d = degree_shift_arg e.ring L.above n (e.embed (f.root t.log_height)) g d

      columns_degree : (columns : List (List F)) → All (DegreeBelow f.ring (row_count_of t)) columns → All (DegreeBelow e.ring (row_count_of t)) (map (over e) columns)
      columns_degree columns h = all_images (DegreeBelow f.ring (row_count_of t)) (DegreeBelow e.ring (row_count_of t)) (over e) (degree_over (row_count_of t)) columns h

      next_columns_degree : (columns : List (List F)) → All (DegreeBelow f.ring (row_count_of t)) columns
          → All (DegreeBelow e.ring (row_count_of t)) (map (λ g. next_poly f e t (over e g)) columns)
      next_columns_degree columns h =
          all_images (DegreeBelow f.ring (row_count_of t)) (DegreeBelow e.ring (row_count_of t)) (λ g. next_poly f e t (over e g))
          (λ g d. degree_next (row_count_of t) (over e g) (degree_over (row_count_of t) g d)) columns h

      constant_degree : (c : E) → DegreeBelow e.ring 1 (c ∷ [])
      constant_degree c = degree_length_le e.ring L.above 1 (c ∷ []) (omega arith)

      periodic_degrees : (i : ℕ) → i < length (cell_polys f e t).periodic
          → DegreeBelow e.ring (suc (periodic_degree (row_count_of t) (slice_index (table_periods_of t) i))) (get_or (cell_polys f e t).periodic i [])
      periodic_degrees i h =
          let g : List F → List E = λ c. over e (periodic_poly f e t c) in
          let column = get_or t.periodic i [] in
          let inside : i < length t.periodic = omega (arith, h, length-map t.periodic g) in
          let d : DegreeBelow e.ring (suc (periodic_degree (row_count_of t) (length column))) (g column) =
          degree_over (suc (periodic_degree (row_count_of t) (length column))) (periodic_poly f e t column) (degree_periodic column (B.periodic i [] inside)) in
          subst (λ m. DegreeBelow e.ring (suc (periodic_degree (row_count_of t) m)) (get_or (map g t.periodic) i [])) (sym (get_or-map (λ (c : List F). length c) t.periodic i []))
          (subst (DegreeBelow e.ring (suc (periodic_degree (row_count_of t) (length column)))) (sym (get_or-map-within g t.periodic i [] [] inside)) d)

      -- the cells' polynomials have the cells' degrees
      pub cells_have_degrees : HaveDegrees e.ring (row_count_of t) (table_periods_of t) (cell_polys f e t)
      cells_have_degrees = record {
        main_local = columns_degree t.main B.main;
        main_next = next_columns_degree t.main B.main;
        preprocessed_local = columns_degree t.preprocessed B.preprocessed;
        preprocessed_next = next_columns_degree t.preprocessed B.preprocessed;
        periodic = periodic_degrees;
        public_values = all_values (DegreeBelow e.ring 1) (λ c. e.embed c ∷ []) (λ c. constant_degree (e.embed c)) t.public_values;
        first_row = degree_over (row_count_of t) (first_selector f.ring f.inv (trace_domain f e t)) (degree_first f.ring L.below f.inv (trace_domain f e t));
        last_row = degree_over (row_count_of t) (last_selector f.ring f.inv f.root (trace_domain f e t)) (degree_last f.ring L.below f.inv f.root (trace_domain f e t));
        transition = degree_over 2 (transition_selector f.ring f.inv f.root (trace_domain f e t)) (degree_transition f.ring L.below f.inv f.root (trace_domain f e t));
        permutation_local = all_tabulate (DegreeBelow e.ring (row_count_of t)) (flattened_width f e t) (permutation_poly f e t) degree_permutation;
        permutation_next = all_tabulate (DegreeBelow e.ring (row_count_of t)) (flattened_width f e t) (λ j. next_poly f e t (permutation_poly f e t j))
            (λ j. degree_next (row_count_of t) (permutation_poly f e t j) (degree_permutation j));
        challenges = all_values (DegreeBelow e.ring 1) (λ c. c ∷ []) constant_degree t.challenges;
        terminals = all_values (DegreeBelow e.ring 1) (λ c. c ∷ []) constant_degree t.terminals;
      }

      -- and a tree's polynomial has at most the tree's degree over the rows
      pub committed_degree : (tree : Tree F) → DegreeBelow e.ring (suc (full_polynomial_degree (row_count_of t) (table_periods_of t) tree)) (tree_poly f e t tree)
      committed_degree tree =
          let n = row_count_of t in
          let ps = table_periods_of t in
          let v = cell_polys f e t in
          tree_degree e.ring L.above e.embed v (cell_degree n ps) (ext_degree n) tree
          (reads_all (λ c. DegreeBelow e.ring (suc (cell_degree n ps c)) (cell_in [] v c)) (λ c. DegreeBelow e.ring (suc (ext_degree n c)) (ext_cell_in [] v c))
          (cell_polynomial e.ring L.above n ps v cells_have_degrees) (ext_cell_polynomial e.ring L.above n ps v cells_have_degrees) tree)
