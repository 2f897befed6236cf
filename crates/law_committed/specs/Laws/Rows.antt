-- A table that commits to traces reads on a row what a check of rows reads there.
use Rattle.std.proofs.Common.{◌≡◌, ◌↔◌, ℕ, zero, suc, ◌+◌, ◌-◌, ◌*◌, ◌/◌, ◌%◌, ◌<◌, ◌≤◌, inl, inr, true, false, Option, None, Some, List, [], ◌∷◌, length, get_or, map, take, drop, refl, sym, ◌∙◌, ap, subst, arith}
use Rattle.std.specs.List.{flat_map, All}
use Rattle.std.specs.Prelude.{nat_eq}
use Rattle.std.proofs.Math.ListN.{get_or-map}
use Rattle.std.proofs.Math.Nat.{mul-div_cancel, mul-le-mul_right}
use Rattle.std.proofs.lemmas.Bool.{cases_eq, cases_lt, eq-eqb, eqb-false, eqb-true, ne_eqb}
use Rattle.std.proofs.lemmas.List.{ext_get_or, length-drop, length-map, length-take-le, get_or-map as get_or-map-within}
use Rattle.std.proofs.lemmas.List.Concat.{get_or-flat_map}
use Rattle.std.proofs.lemmas.Nat.{pow_pos}
use Rattle.p3_field.specs.Ring.{RingLaws}
use Rattle.p3_field.specs.Field.{TwoAdic, Extension, combine}
use Rattle.p3_field.specs.Poly.{DegreeBelow, eval_poly_in, tabulate}
use Rattle.p3_field.specs.Domain.{IsInterpolant, point}
use Rattle.p3_field.specs.Laws.Coeffs.{degree_length_le}
use Rattle.p3_field.specs.Laws.Extended.{map_eval}
use Rattle.p3_field.specs.Laws.SubgroupSelectors.{map_tabulate}
use Rattle.p3_field.specs.Laws.Tabulate.{length-tabulate, get_or-tabulate, tabulate_same, tabulate_items}
use Rattle.p3_matrix.specs.Matrix.{Rows, FillsRows, column, height, row_at}
use Rattle.p3_matrix.specs.Laws.Cells.{length-column, get_or-column}
use Rattle.p3_matrix.specs.Laws.Flattened.{height-pieces, length-pieces, row_at-pieces}
use Rattle.p3_matrix.specs.Laws.Transposed.{get_or-row_at, range_width}
use Rattle.air_core.specs.Check.{TableTraces, preprocessed_row, periodic_row}
use Rattle.commit_core.specs.Periodic.{IsPeriod, over_rows}
use Rattle.commit_core.specs.Laws.Repeated.{get_or_over_rows, length_over_rows}
use Rattle.law_committed.specs.Committed.{CommittedTable, IsBounded, columns_at, flattened, next_point, periodic_poly, permutation_at, flattened_width, row_point, row_count_of, trace_domain, committed_values_at}
use Rattle.law_committed.specs.Fields.{FieldsLaws}
use Rattle.law_committed.specs.Rows.{AreOfRow, CommitsTo, InterpolateColumns, InterpolateSome, flattened_matrix, row_of_traces}
use Rattle.law_committed.specs.Laws.Degrees.{period_positive, whole_periods, periodic_interpolates}
use Rattle.law_committed.specs.Laws.Selectors.{point_after, first_elsewhere, first_here, last_elsewhere, last_here, transition_last, transition_before}

-- a row of a matrix whose rows are whole has a value for each column; so has any row without columns
row_long : {F : Type 0} (m : Rows F) (n i : ℕ) → FillsRows m.values m.width → (0 < m.width → height m ≡ n) → i < n → length (row_at m i) ≡ m.width
row_long m n i fills tall h =
    let w = m.width in
    let at = i * w in
    let enough : (at + w) - at ≤ length (drop at m.values) = elim (cases_lt 0 w) [
      | inl pos ↦
          let rows : (i + 1) * w ≤ height m * w = mul-le-mul_right w (omega (arith, h, tall pos)) in
          omega (arith, rows, fills, length-drop at m.values)
      | inr none ↦ omega (arith, none)
    ] in
    length-take-le ((at + w) - at) (drop at m.values) enough ∙ range_width at w

-- an item of pieces of one length, one after another
piece_item : {X Y : Type 0} (g : X → List Y) (n : ℕ) → ((x : X) → length (g x) ≡ n) → (xs : List X) (j k : ℕ) (z : X) (d : Y) → j < length xs → k < n
    → get_or (flat_map g xs) (j * n + k) d ≡ get_or (g (get_or xs j z)) k d
piece_item g n long xs j k z d h l =
    let before : length (flat_map g (take j xs)) ≡ j * n =
    length-pieces g n long (take j xs) ∙ ap (λ m. m * n) (length-take-le j xs (omega (arith, h))) in
    ap (λ m. get_or (flat_map g xs) (m + k) d) (sym before) ∙ get_or-flat_map g xs j k z d h (omega (arith, long (get_or xs j z), l))

module _ {F E : Type 0} (f : TwoAdic F) (e : Extension F E) (top : ℕ) (inverse : E → E) (L : FieldsLaws f e top inverse) where
  -- polynomials whose values at x are the coefficients of a value make it
  pub combined_parts : (cell : E) (g : ℕ → List F) (x : E) → ((k : ℕ) → k < e.dimension → eval_poly_in e (g k) x ≡ e.embed (get_or (e.coefficients cell) k f.ring.zero))
      → combine e.ring e.basis 0 (map (λ p. eval_poly_in e p x) (tabulate e.dimension g)) ≡ cell
  combined_parts cell g x same =
      let part : ℕ → F = λ k. get_or (e.coefficients cell) k f.ring.zero in
      let whole : map (λ p. eval_poly_in e p x) (tabulate e.dimension g) ≡ map e.embed (e.coefficients cell) =
      map_tabulate (λ p. eval_poly_in e p x) e.dimension g
      ∙ (tabulate_same e.dimension (λ k. eval_poly_in e (g k) x) (λ k. e.embed (part k)) same
      ∙ (sym (map_tabulate e.embed e.dimension part) ∙ ap (map e.embed) (sym (tabulate_items f.ring.zero (e.coefficients cell) e.dimension (L.vector.coefficients_length cell))))) in
      ap (combine e.ring e.basis 0) whole ∙ L.spans cell

module _ {F E : Type 0} (f : TwoAdic F) (e : Extension F E) (top : ℕ) (inverse : E → E) (L : FieldsLaws f e top inverse) (t : CommittedTable F E) (fits : t.log_height ≤ top) where
  -- the value of a column's interpolant at row i
  cell_on_row : (values g : List F) (i : ℕ) → IsInterpolant f.ring (point f.ring f.root (trace_domain f e t)) values g → i < length values
      → eval_poly_in e g (row_point f e t i) ≡ e.embed (get_or values i f.ring.zero)
  cell_on_row values g i I h = map_eval f.ring L.below e.ring L.above e.embed L.embeds g (point f.ring f.root (trace_domain f e t) i) ∙ ap e.embed (I.value_is i h)

  -- the interpolants of a matrix's columns have its row i at the point of row i
  columns_on_row : (m : Rows F) (polys : List (List F)) → InterpolateColumns f (trace_domain f e t) m polys → (i : ℕ) → i < row_count_of t
      → columns_at f e t polys (row_point f e t i) ≡ map e.embed (row_at m i)
  columns_on_row m polys I i h =
      let x = row_point f e t i in
      let A = columns_at f e t polys x in
      let B = map e.embed (row_at m i) in
      let z = e.embed f.ring.zero in
      let long : length (row_at m i) ≡ m.width = row_long m (row_count_of t) i I.fills I.tall h in
      let wide : length A ≡ m.width = length-map polys (λ (g : List F). eval_poly_in e g x) ∙ I.count in
      ext_get_or z A B (wide ∙ (sym long ∙ sym (length-map (row_at m i) e.embed)))
      (λ j b.
      let inside : j < m.width = omega (arith, b, wide) in
      let tall : height m ≡ row_count_of t = I.tall (omega (arith, inside)) in
      let low : i < height m = omega (arith, h, tall) in
      let values = column f.ring.zero m j in
      get_or-map-within (λ (g : List F). eval_poly_in e g x) polys j [] z (omega (arith, inside, I.count))
      ∙ (cell_on_row values (get_or polys j []) i (I.each j inside) (omega (arith, low, length-column f.ring.zero m j))
      ∙ (ap e.embed (get_or-column f.ring.zero m j i low ∙ sym (get_or-row_at m i j f.ring.zero inside))
      ∙ sym (get_or-map e.embed (row_at m i) j f.ring.zero))))

  some_on_row : (m : Option (Rows F)) (polys : List (List F)) → InterpolateSome f (trace_domain f e t) m polys → (i : ℕ) → i < row_count_of t
      → columns_at f e t polys (row_point f e t i) ≡ map e.embed (preprocessed_row m i)
  some_on_row None polys none i h = ap (λ ps. columns_at f e t ps (row_point f e t i)) none
  some_on_row (Some m) polys I i h = columns_on_row m polys I i h

  -- the permutation columns that are recombined have row i too
  permutation_on_row : (m : Rows E) → FillsRows m.values m.width → InterpolateColumns f (trace_domain f e t) (flattened_matrix e m) t.permutation
      → (i : ℕ) → i < row_count_of t → permutation_at f e t (row_point f e t i) ≡ row_at m i
  permutation_on_row m fills I i h =
      let D = e.dimension in
      let W = m.width in
      let v = flattened_matrix e m in
      let pos : 0 < D = L.vector.positive in
      let parts_long = L.vector.coefficients_length in
      let x = row_point f e t i in
      let z = f.ring.zero in
      let width : flattened_width f e t ≡ W = ap (λ n. n / D) I.count ∙ mul-div_cancel W pos in
      let tall : 0 < W → height m ≡ row_count_of t = λ p.
      sym (height-pieces e.coefficients D parts_long pos m v refl refl) ∙ I.tall (product_pos W D p pos) in
      let long : length (row_at m i) ≡ W = row_long m (row_count_of t) i fills tall h in
      let item = λ (j : ℕ). combine e.ring e.basis 0 (columns_at f e t (flattened f e t j) x) in
      let flat : columns_at f e t t.permutation x ≡ map e.embed (flat_map e.coefficients (row_at m i)) =
      columns_on_row v t.permutation I i h ∙ ap (map e.embed) (row_at-pieces e.coefficients D parts_long m v i refl refl) in
      ext_get_or e.ring.zero (permutation_at f e t x) (row_at m i) (length-tabulate (flattened_width f e t) item ∙ (width ∙ sym long))
      (λ j b.
      let inside : j < W = omega (arith, b, length-tabulate (flattened_width f e t) item, width) in
      let cell = get_or (row_at m i) j e.ring.zero in
      let within : j * D + D ≤ W * D = let q : suc j * D ≤ W * D = mul-le-mul_right D inside in omega (arith, q) in
      get_or-tabulate (flattened_width f e t) item j e.ring.zero (omega (arith, inside, width))
      ∙ combined_parts f e top inverse L cell (λ k. get_or t.permutation (j * D + k) []) x (λ k l.
      sym (get_or-map-within (λ (g : List F). eval_poly_in e g x) t.permutation (j * D + k) [] (e.embed z) (omega (arith, within, l, I.count)))
      ∙ (ap (λ ys. get_or ys (j * D + k) (e.embed z)) flat
      ∙ (get_or-map e.embed (flat_map e.coefficients (row_at m i)) (j * D + k) z
      ∙ ap e.embed (piece_item e.coefficients D parts_long (row_at m i) j k e.ring.zero z (omega (arith, inside, long)) l)))))
    where
      product_pos : (a b : ℕ) → 0 < a → 0 < b → 0 < a * b
      product_pos a b p q = let r : 1 * b ≤ a * b = mul-le-mul_right b p in omega (arith, r, q)

  -- and a periodic column its value at i modulo its length
  periodic_on_row : (values : List F) → IsPeriod (row_count_of t) (length values) → (i : ℕ) → i < row_count_of t
      → eval_poly_in e (periodic_poly f e t values) (row_point f e t i) ≡ e.embed (get_or values (i % length values) f.ring.zero)
  periodic_on_row values P i h =
      let n = row_count_of t in
      let q = length values in
      let whole = whole_periods n q P in
      let pos = period_positive n q P in
      cell_on_row (over_rows n values) (periodic_poly f e t values) i (periodic_interpolates f e top inverse L t fits values P)
      (omega (arith, h, length_over_rows n (n / q) values whole pos))
      ∙ ap e.embed (get_or_over_rows n (n / q) values i f.ring.zero whole pos h)

  periodics_on_row : (columns : List (List F)) → All (λ values. IsPeriod (row_count_of t) (length values)) columns → (i : ℕ) → i < row_count_of t
      → map (λ values. eval_poly_in e (periodic_poly f e t values) (row_point f e t i)) columns ≡ map e.embed (periodic_row f.ring.zero columns i)
  periodics_on_row [] P i h = refl
  periodics_on_row (values ∷ columns) P i h =
      λ k. periodic_on_row values (P zero values (omega arith)) i h k ∷ periodics_on_row columns (λ j d l. P (suc j) d (omega (arith, l))) i h k

  -- the selectors are zero where those of a check of rows are
  first_selected : (i : ℕ) → i < row_count_of t → ((committed_values_at f e t (row_point f e t i)).first_row ≡ e.ring.zero) ↔ (nat_eq i 0 ≡ false)
  first_selected i h = elim (cases_eq i 0) [
    | inl here ↦ (
      λ z. absurd (first_here f e top inverse L t fits (ap (λ j. (committed_values_at f e t (row_point f e t j)).first_row) (sym here) ∙ z)),
      λ d. absurd (eqb-false i 0 d here),
    )
    | inr away ↦ (λ z. ne_eqb i 0 away, λ d. first_elsewhere f e top inverse L t fits i (omega (arith, away)) h)
  ]

  last_selected : (n i : ℕ) → n ≡ row_count_of t → i < row_count_of t → ((committed_values_at f e t (row_point f e t i)).last_row ≡ e.ring.zero) ↔ (nat_eq (i + 1) n ≡ false)
  last_selected n i tall h = elim (cases_eq (i + 1) n) [
    | inl here ↦ (λ z. absurd (last_here f e top inverse L t fits i (here ∙ tall) z), λ d. absurd (eqb-false (i + 1) n d here))
    | inr away ↦ (λ z. ne_eqb (i + 1) n away, λ d. last_elsewhere f e top inverse L t fits i (omega (arith, away, tall, h)))
  ]

  transition_selected : (n i : ℕ) → n ≡ row_count_of t → i < row_count_of t → ((committed_values_at f e t (row_point f e t i)).transition ≡ e.ring.zero) ↔ (nat_eq (i + 1) n ≡ true)
  transition_selected n i tall h = elim (cases_eq (i + 1) n) [
    | inl here ↦ (λ z. eq-eqb (i + 1) n here, λ d. transition_last f e top inverse L t fits i (here ∙ tall))
    | inr away ↦ (
      λ z. absurd (transition_before f e top inverse L t fits i (omega (arith, away, tall, h)) z),
      λ d. absurd (away (eqb-true (i + 1) n d)),
    )
  ]

  module _ (traces : TableTraces F) (columns : Rows E) (C : CommitsTo f e t traces columns) where
    -- what a table that commits to traces reads on a row
    pub reads_rows : (i : ℕ) → i < row_count_of t → AreOfRow e (row_of_traces f.ring.zero traces columns t.challenges t.terminals i) (committed_values_at f e t (row_point f e t i))
    reads_rows i h =
        let n = row_count_of t in
        let x = row_point f e t i in
        let j = (i + 1) % height traces.main in
        let after : (i + 1) % n ≡ j = ap (λ m. (i + 1) % m) (sym C.tall) in
        let low : j < n = let q : 0 < n = pow_pos t.log_height in let r : (i + 1) % n < n = omega (arith, q) in omega (arith, r, after) in
        let y : next_point f e t x ≡ row_point f e t j = point_after f e top inverse L t fits i h ∙ ap (row_point f e t) after in
        record {
          main_local = columns_on_row traces.main t.main C.main i h;
          main_next = ap (columns_at f e t t.main) y ∙ columns_on_row traces.main t.main C.main j low;
          preprocessed_local = some_on_row traces.preprocessed t.preprocessed C.preprocessed i h;
          preprocessed_next = ap (columns_at f e t t.preprocessed) y ∙ some_on_row traces.preprocessed t.preprocessed C.preprocessed j low;
          periodic = ap (map (λ values. eval_poly_in e (periodic_poly f e t values) x)) C.periodic ∙ periodics_on_row traces.periodic C.periods i h;
          public_values = ap (map e.embed) C.public_values;
          first_row = first_selected i h;
          last_row = last_selected (height traces.main) i C.tall h;
          transition = transition_selected (height traces.main) i C.tall h;
          permutation_local = permutation_on_row columns C.fills C.permutation i h;
          permutation_next = ap (permutation_at f e t) y ∙ permutation_on_row columns C.fills C.permutation j low;
          challenges = refl;
          terminals = refl;
        }

-- A table that commits to traces is bounded: the interpolants have degrees below the height.
pub traces_bounded : {F E : Type 0} (f : TwoAdic F) (e : Extension F E) → RingLaws f.ring → (t : CommittedTable F E) (traces : TableTraces F) (columns : Rows E)
    → CommitsTo f e t traces columns → IsBounded f t
traces_bounded {F = F} {E = E} f e L t traces columns C = record {
  main = bounded f e L t traces.main t.main C.main;
  preprocessed = some_bounded traces.preprocessed C.preprocessed;
  permutation = bounded f e L t (flattened_matrix e columns) t.permutation C.permutation;
  periodic = subst (All (λ values. IsPeriod (row_count_of t) (length values))) (sym C.periodic) C.periods;
}
  where
    bounded : {F E : Type 0} (f : TwoAdic F) (e : Extension F E) → RingLaws f.ring → (t : CommittedTable F E) (m : Rows F) (polys : List (List F))
        → InterpolateColumns f (trace_domain f e t) m polys → All (DegreeBelow f.ring (row_count_of t)) polys
    bounded f e L t m polys I j d l =
        let inside : j < m.width = omega (arith, l, I.count) in
        let g = get_or polys j [] in
        let same : g ≡ get_or polys j d = any_default polys j [] d l in
        let size : length g ≡ height m = (I.each j inside).length_is ∙ length-column f.ring.zero m j in
        let tall = I.tall (omega (arith, inside)) in
        subst (DegreeBelow f.ring (row_count_of t)) same (degree_length_le f.ring L (row_count_of t) g (omega (arith, size, tall)))
      where
        any_default : {X : Type 0} (xs : List X) (i : ℕ) (d c : X) → i < length xs → get_or xs i d ≡ get_or xs i c
        any_default [] i d c h = absurd (omega (arith, h))
        any_default (x ∷ xs) zero d c h = refl
        any_default (x ∷ xs) (suc i) d c h = any_default xs i d c (omega (arith, h))

    some_bounded : (m : Option (Rows F)) → InterpolateSome f (trace_domain f e t) m t.preprocessed → All (DegreeBelow f.ring (row_count_of t)) t.preprocessed
    some_bounded None none = subst (All (DegreeBelow f.ring (row_count_of t))) (sym none) (λ j d l. absurd (omega (arith, l)))
    some_bounded (Some m) I = bounded f e L t m t.preprocessed I
