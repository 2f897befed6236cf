-- What is read of evaluations on a domain is what the committed table has there.
use Rattle.std.proofs.Common.{◌≡◌, ℕ, zero, suc, ◌+◌, ◌-◌, ◌*◌, ◌/◌, ◌%◌, ◌<◌, ◌≤◌, List, [], Option, Some, None, length, get_or, map, take, drop, refl, sym, ◌∙◌, ap, arith}
use Rattle.std.specs.Prelude.{IfSome}
use Rattle.std.specs.List.{All, flat_map}
use Rattle.std.specs.Option.{option_map}
use Rattle.std.proofs.Math.ListN.{get_or-map}
use Rattle.std.proofs.Math.Nat.{mul-div_cancel, mul-le-mul_right}
use Rattle.std.proofs.lemmas.List.{ext_get_or, length-drop, length-map, length-take-le, map-id, get_or-map as get_or-map-within}
use Rattle.std.proofs.lemmas.List.Concat.{get_or-flat_map}
use Rattle.std.proofs.lemmas.Option.{slice_get-get_or}
use Rattle.p3_field.specs.Field.{TwoAdic, Extension, combine}
use Rattle.p3_field.specs.Poly.{eval_poly, eval_poly_in, tabulate}
use Rattle.p3_field.specs.Domain.{point}
use Rattle.p3_field.specs.Laws.Extended.{map_eval}
use Rattle.p3_field.specs.Laws.SubgroupSelectors.{map_tabulate}
use Rattle.p3_field.specs.Laws.Tabulate.{length-tabulate, get_or-tabulate, tabulate_same, tabulate_items}
use Rattle.p3_matrix.specs.Matrix.{Rows, cell_at, height, row_at}
use Rattle.p3_matrix.specs.Laws.Cells.{get_or-column}
use Rattle.p3_matrix.specs.Laws.Flattened.{height-pieces, length-pieces, row_at-pieces}
use Rattle.p3_matrix.specs.Laws.Transposed.{get_or-row_at, range_width}
use Rattle.p3_dft.specs.Transform.{values_at}
use Rattle.air_core.specs.Check.{preprocessed_row}
use Rattle.commit_core.specs.Commitments.{IsEvaluated}
use Rattle.commit_core.specs.Periodic.{IsPeriod, IsPeriodicAt, IsPeriodicTable}
use Rattle.law_committed.specs.Committed.{CommittedTable, columns_at, flattened, periodic_poly, permutation_at, flattened_width, row_count_of, trace_domain}
use Rattle.law_committed.specs.Fields.{FieldsLaws}
use Rattle.law_committed.specs.Rows.{flattened_matrix}
use Rattle.law_committed.specs.Laws.Opened.{periodic_is}
use Rattle.law_committed.specs.Laws.Rows.{combined_parts}
use Rattle.prover_values.specs.Evaluations.{EvaluatedSome}
use Rattle.prover_values.specs.QuotientRows.{periodic_at}

-- whole rows are no more than the values
rows_within : (n w h : ℕ) → n / w ≡ h → h * w ≤ n
rows_within n zero h e = let z : h * zero ≡ zero = omega arith in omega (arith, z)
rows_within n (suc w) h e = let p : 0 < suc w = omega arith in let q : suc w * (n / suc w) + n % suc w ≡ n = omega arith in let c : h * suc w ≡ suc w * (n / suc w) = omega (arith, ap (λ k. k * suc w) e) in omega (arith, q, c)

-- a row has a value for each column
pub row_long : {F : Type 0} (m : Rows F) (i : ℕ) → i < height m → length (row_at m i) ≡ m.width
row_long m i h =
    let w = m.width in
    let at = i * w in
    let all : height m * w ≤ length m.values = rows_within (length m.values) w (height m) refl in
    let rows : (i + 1) * w ≤ height m * w = mul-le-mul_right w (omega (arith, h)) in
    let enough : (at + w) - at ≤ length (drop at m.values) = omega (arith, rows, all, length-drop at m.values) in
    length-take-le ((at + w) - at) (drop at m.values) enough ∙ range_width at w

-- an item of pieces of one length, one after another
piece_item : {X Y : Type 0} (g : X → List Y) (n : ℕ) → ((x : X) → length (g x) ≡ n) → (xs : List X) (j k : ℕ) (z : X) (d : Y) → j < length xs → k < n
    → get_or (flat_map g xs) (j * n + k) d ≡ get_or (g (get_or xs j z)) k d
piece_item g n long xs j k z d h l =
    let before : length (flat_map g (take j xs)) ≡ j * n =
    length-pieces g n long (take j xs) ∙ ap (λ m. m * n) (length-take-le j xs (omega (arith, h))) in
    ap (λ m. get_or (flat_map g xs) (m + k) d) (sym before) ∙ get_or-flat_map g xs j k z d h (omega (arith, long (get_or xs j z), l))

module _ {F E : Type 0} (f : TwoAdic F) (e : Extension F E) (top : ℕ) (inverse : E → E) (L : FieldsLaws f e top inverse) (n : ℕ) (p : ℕ → F) where
  -- a value over the field, read over the larger one
  above : (g : List F) (i : ℕ) → e.embed (eval_poly f.ring g (p i)) ≡ eval_poly_in e g (e.embed (p i))
  above g i = sym (map_eval f.ring L.below e.ring L.above e.embed L.embeds g (p i))

  module _ (t : CommittedTable F E) where
    -- a row of a matrix of polynomials' values has their values at the point
    pub columns_read : (m : Rows F) (size : ℕ) (polys : List (List F)) → IsEvaluated f.ring n p (record { size = size; polynomials = polys }) m → height m ≡ n
        → (i : ℕ) → i < n → map e.embed (row_at m i) ≡ columns_at f e t polys (e.embed (p i))
    unfolding values_at
    columns_read m size polys I tall i h =
        let x = e.embed (p i) in
        let A = map e.embed (row_at m i) in
        let B = columns_at f e t polys x in
        let z = e.embed f.ring.zero in
        let low : i < height m = omega (arith, h, tall) in
        let long : length A ≡ m.width = length-map (row_at m i) e.embed ∙ row_long m i low in
        let wide : length B ≡ m.width = length-map polys (λ (g : List F). eval_poly_in e g x) ∙ sym I.width_is in
        ext_get_or z A B (long ∙ sym wide)
        (λ j b.
        let inside : j < m.width = omega (arith, b, long) in
        let g = get_or polys j [] in
        let there : get_or (row_at m i) j f.ring.zero ≡ eval_poly f.ring g (p i) =
        get_or-row_at m i j f.ring.zero inside
        ∙ (sym (get_or-column f.ring.zero m j i low)
        ∙ (ap (λ l. get_or l i f.ring.zero) (I.column_is j inside) ∙ get_or-tabulate n (λ k. eval_poly f.ring g (p k)) i f.ring.zero h)) in
        get_or-map e.embed (row_at m i) j f.ring.zero
        ∙ (ap e.embed there
        ∙ (above g i ∙ sym (get_or-map-within (λ (g : List F). eval_poly_in e g x) polys j [] z (omega (arith, inside, I.width_is))))))

    pub some_read : (m : Option (Rows F)) (size : ℕ) (polys : List (List F)) → EvaluatedSome f n p (record { size = size; polynomials = polys }) m → IfSome m (λ r. height r ≡ n)
        → (i : ℕ) → i < n → map e.embed (preprocessed_row m i) ≡ columns_at f e t polys (e.embed (p i))
    some_read None size polys none tall i h = ap (λ ps. columns_at f e t ps (e.embed (p i))) (sym none)
    some_read (Some m) size polys I tall i h = columns_read m size polys I tall i h

    -- a row of the permutation columns that are put together has these columns' values
    pub permutation_read : (m : Rows E) (size : ℕ) → IsEvaluated f.ring n p (record { size = size; polynomials = t.permutation }) (flattened_matrix e m) → height (flattened_matrix e m) ≡ n
        → (i : ℕ) → i < n → row_at m i ≡ permutation_at f e t (e.embed (p i))
    permutation_read m size I tall i h =
        let D = e.dimension in
        let W = m.width in
        let v = flattened_matrix e m in
        let pos : 0 < D = L.vector.positive in
        let parts_long = L.vector.coefficients_length in
        let x = e.embed (p i) in
        let z = f.ring.zero in
        let width : flattened_width f e t ≡ W = ap (λ k. k / D) (sym I.width_is) ∙ mul-div_cancel W pos in
        let low : i < height m = omega (arith, h, tall, height-pieces e.coefficients D parts_long pos m v refl refl) in
        let long : length (row_at m i) ≡ W = row_long m i low in
        let item = λ (j : ℕ). combine e.ring e.basis 0 (columns_at f e t (flattened f e t j) x) in
        let flat : columns_at f e t t.permutation x ≡ map e.embed (flat_map e.coefficients (row_at m i)) =
        sym (columns_read v size t.permutation I tall i h) ∙ ap (map e.embed) (row_at-pieces e.coefficients D parts_long m v i refl refl) in
        sym (ext_get_or e.ring.zero (permutation_at f e t x) (row_at m i) (length-tabulate (flattened_width f e t) item ∙ (width ∙ sym long))
        (λ j b.
        let inside : j < W = omega (arith, b, length-tabulate (flattened_width f e t) item, width) in
        let cell = get_or (row_at m i) j e.ring.zero in
        let within : j * D + D ≤ W * D = let q : suc j * D ≤ W * D = mul-le-mul_right D inside in omega (arith, q) in
        get_or-tabulate (flattened_width f e t) item j e.ring.zero (omega (arith, inside, width))
        ∙ combined_parts f e top inverse L cell (λ k. get_or t.permutation (j * D + k) []) x (λ k l.
        sym (get_or-map-within (λ (g : List F). eval_poly_in e g x) t.permutation (j * D + k) [] (e.embed z) (omega (arith, within, l, I.width_is)))
        ∙ (ap (λ ys. get_or ys (j * D + k) (e.embed z)) flat
        ∙ (get_or-map e.embed (flat_map e.coefficients (row_at m i)) (j * D + k) z
        ∙ ap e.embed (piece_item e.coefficients D parts_long (row_at m i) j k e.ring.zero z (omega (arith, inside, long)) l))))))

    pub some_permutation_read : (m : Option (Rows E)) (size : ℕ) → EvaluatedSome f n p (record { size = size; polynomials = t.permutation }) (option_map (flattened_matrix e) m)
        → IfSome (option_map (flattened_matrix e) m) (λ r. height r ≡ n) → (i : ℕ) → i < n → preprocessed_row m i ≡ permutation_at f e t (e.embed (p i))
    some_permutation_read None size none tall i h =
        let empty : flattened_width f e t ≡ 0 = ap (λ (ps : List (List F)). length ps / e.dimension) none ∙ no_columns e.dimension L.vector.positive in
        ap (λ k. tabulate k (λ j. combine e.ring e.basis 0 (columns_at f e t (flattened f e t j) (e.embed (p i))))) (sym empty)
      where
        no_columns : (D : ℕ) → 0 < D → 0 / D ≡ 0
        no_columns D pos = omega (arith, pos)
    some_permutation_read (Some m) size I tall i h = permutation_read m size I tall i h

    -- a row of the periodic columns has their polynomials' values
    pub periodic_read : t.log_height ≤ top → (columns : List (List F)) (T : Rows F) → IsPeriodicTable f.ring (row_count_of t) (point f.ring f.root (trace_domain f e t)) n p columns T
        → All (λ c. IsPeriod (row_count_of t) (length c)) columns → (i : ℕ) → i < n
        → map e.embed (periodic_at f.ring.zero T i) ≡ map (λ c. eval_poly_in e (periodic_poly f e t c) (e.embed (p i))) columns
    periodic_read low columns T I fit i h =
        let x = e.embed (p i) in
        let q = point f.ring f.root (trace_domain f e t) in
        let cell : ℕ → F = λ j. cell_at f.ring.zero T (i % height T) j in
        let g : List F → E = λ c. eval_poly_in e (periodic_poly f e t c) x in
        let each : (j : ℕ) → j < length columns → e.embed (cell j) ≡ g (get_or columns j []) = λ j b.
        let c = get_or columns j [] in
        let J = I.cell_is j c i (slice_get-get_or columns j [] b) h in
        let K : IsPeriodicAt f.ring e.ring e.embed (row_count_of t) q x c (e.embed (cell j)) = record {
          interpolant = J.interpolant;
          interpolates = J.interpolates;
          value_is = ap e.embed (J.value_is ∙ ap (λ l. eval_poly f.ring l (p i)) (map-id J.interpolant)) ∙ above J.interpolant i;
        } in
        periodic_is f e top inverse L t low c x (e.embed (cell j)) (fit j [] b) K in
        map_tabulate e.embed T.width cell
        ∙ (ap (λ w. tabulate w (λ j. e.embed (cell j))) I.width_is
        ∙ (tabulate_same (length columns) (λ j. e.embed (cell j)) (λ j. g (get_or columns j [])) each
        ∙ (sym (map_tabulate g (length columns) (λ j. get_or columns j [])) ∙ ap (map g) (sym (tabulate_items [] columns (length columns) refl)))))

  -- an item of a list of values
  pub selector_read : (g xs : List F) → xs ≡ tabulate n (λ i. eval_poly f.ring g (p i)) → (i : ℕ) → i < n → e.embed (get_or xs i f.ring.zero) ≡ eval_poly_in e g (e.embed (p i))
  selector_read g xs is i h =
      ap e.embed (ap (λ l. get_or l i f.ring.zero) is ∙ get_or-tabulate n (λ k. eval_poly f.ring g (p k)) i f.ring.zero h) ∙ above g i
