-- The parts of the quotient's values are its chunks, of which the honest polynomials are the interpolants.
use Rattle.std.proofs.Common.{◌≡◌, ℕ, zero, suc, ◌+◌, ◌-◌, ◌*◌, ◌/◌, ◌^◌, ◌<◌, ◌≤◌, List, [], ◌∷◌, ◌++◌, length, get_or, map, take, drop, refl, sym, ◌∙◌, ap, subst, arith}
use Rattle.std.specs.Prelude.{slice_get, Some}
use Rattle.std.specs.List.{flat_map}
use Rattle.std.proofs.Math.ListN.{get_or-map}
use Rattle.std.proofs.Math.Nat.{mul-div_cancel, mul-le-mul_right}
use Rattle.std.proofs.lemmas.Nat.{pow_pos, pow-add}
use Rattle.std.proofs.lemmas.List.{ext_get_or, length-map}
use Rattle.std.proofs.lemmas.Option.{slice_get-get_or, slice_get_within}
use Rattle.p3_field.specs.Ring.{Ring}
use Rattle.p3_field.specs.Field.{TwoAdic, Extension}
use Rattle.p3_field.specs.Poly.{tabulate}
use Rattle.p3_field.specs.Domain.{CosetData, IsInterpolant, point}
use Rattle.p3_field.specs.Laws.Tabulate.{length-tabulate, get_or-tabulate}
use Rattle.p3_matrix.specs.Matrix.{Rows, column, height, row_at}
use Rattle.p3_matrix.specs.Laws.Cells.{get_or-column, length-column}
use Rattle.p3_matrix.specs.Laws.Flattened.{height-pieces, row_at-pieces}
use Rattle.p3_matrix.specs.Laws.Powers.{power_cancel}
use Rattle.p3_matrix.specs.Laws.Transposed.{get_or-row_at}
use Rattle.commit_core.specs.Commitments.{AreCommitted, AreParts, Committed, IsCommitted}
use Rattle.commit_core.specs.Space.{EachOf, IsPart, IsSplit}
use Rattle.air_core.specs.Tree.{Tree}
use Rattle.law_committed.specs.Committed.{CommittedTable, row_count_of}
use Rattle.law_committed.specs.Fields.{FieldsLaws}
use Rattle.law_committed.specs.Quotient.{IsQuotientDomain, chunk_cell, chunk_domain, honest_chunk, honest_quotient, quotient_domain, quotient_value}
use Rattle.law_committed.specs.Laws.Quotient.{one_chunk_polynomial}
use Rattle.prover_values.specs.Chunks.{IsChunk}
use Rattle.prover_values.specs.Evaluations.{quotient_values_on}

-- equal products of one factor that isn't zero have equal other factors
product_cancel : (a b c : ℕ) → 0 < c → a * c ≡ b * c → a ≡ b
product_cancel a b c pos e = sym (mul-div_cancel a pos) ∙ (ap (λ n. n / c) e ∙ mul-div_cancel b pos)

-- row i of each C rows
row_within : (C n i a : ℕ) → i < C → a < n → i + C * a < n * C
row_within C n i a h l = let q : suc a * C ≤ n * C = mul-le-mul_right C l in let c : suc a * C ≡ C + C * a = omega arith in omega (arith, q, c, h)

nothing_after : {X : Type 0} (xs : List X) → xs ++ [] ≡ xs
nothing_after [] = refl
nothing_after (x ∷ xs) = ap (λ l. x ∷ l) (nothing_after xs)

-- an item as a list of one
one_item : {X : Type 0} (z : X) (xs : List X) (m : ℕ) → m < length xs → take 1 (drop m xs) ≡ get_or xs m z ∷ []
one_item z [] m h = absurd (omega (arith, h))
one_item z (x ∷ xs) zero h = refl
one_item z (x ∷ xs) (suc m) h = one_item z xs m (omega (arith, h))

-- row m of a matrix whose rows are the pieces of a list's items
pub row_of_pieces : {X Y : Type 0} (f : X → List Y) (d : ℕ) → ((x : X) → length (f x) ≡ d) → (xs : List X) (m : ℕ) (z : X) → m < length xs
    → row_at (record { values = flat_map f xs; width = d }) m ≡ f (get_or xs m z)
row_of_pieces f d len xs m z h =
    let one : d ≡ 1 * d = omega arith in
    let place : m * 1 ≡ m = omega arith in
    let wide : (m * 1 + 1) - m * 1 ≡ 1 = omega arith in
    row_at-pieces f d len (record { values = xs; width = 1 }) (record { values = flat_map f xs; width = d }) m refl one
    ∙ (ap (flat_map f) (ap (λ k. take k (drop (m * 1) xs)) wide ∙ (ap (λ k. take 1 (drop k xs)) place ∙ one_item z xs m h)) ∙ nothing_after (f (get_or xs m z)))

-- and how many rows it has
pub height_of_pieces : {X Y : Type 0} (f : X → List Y) (d : ℕ) → ((x : X) → length (f x) ≡ d) → 0 < d → (xs : List X) → height (record { values = flat_map f xs; width = d }) ≡ length xs
height_of_pieces f d len pos xs =
    let one : d ≡ 1 * d = omega arith in
    let single : length xs / 1 ≡ length xs = omega arith in
    height-pieces f d len pos (record { values = xs; width = 1 }) (record { values = flat_map f xs; width = d }) refl one ∙ single

-- what is held of matrices on domains, where these are said to have the same points
committed_along : {F : Type 0} (r : Ring F) (points points2 : CosetData F → ℕ) (at at2 : CosetData F → ℕ → F) (parts : List (CosetData F × Rows F)) (cs : List (Committed F)) → ((d : CosetData F) → points d ≡ points2 d)
    → ((d : CosetData F) (i : ℕ) → at d i ≡ at2 d i) → AreCommitted r points at parts cs → AreCommitted r points2 at2 parts cs
committed_along {F} r points points2 at at2 parts cs e h H =
    let ep : points ≡ points2 = (λ j d. e d j) in
    let ea : at ≡ at2 = (λ j d i. h d i j) in
    subst (λ (z : CosetData F → ℕ → F). AreCommitted r points2 z parts cs) ea (subst (λ (z : CosetData F → ℕ). AreCommitted r z at parts cs) ep H)

-- a column by its cells
column_is : {F : Type 0} (d : F) (m : Rows F) (k n : ℕ) (t : ℕ → F) → height m ≡ n → ((j : ℕ) → j < n → get_or (column d m k) j d ≡ t j) → column d m k ≡ tabulate n t
column_is d m k n t tall each =
    ext_get_or d (column d m k) (tabulate n t) (length-column d m k ∙ (tall ∙ sym (length-tabulate n t)))
    (λ j b. let inside : j < n = omega (arith, b, length-column d m k, tall) in each j inside ∙ sym (get_or-tabulate n t j d inside))

module _ {F E : Type 0} (f : TwoAdic F) (e : Extension F E) (top : ℕ) (inverse : E → E) (L : FieldsLaws f e top inverse) (t : CommittedTable F E) (trees : List (Tree F)) (alpha : E) (log_chunks : ℕ) where
  module _ (D : CosetData F) (size : D.log_size ≡ t.log_height + log_chunks) (values : List E) (are : values ≡ quotient_values_on f e t trees alpha D) where
    abbrev quotient_at : ℕ → E
    quotient_at m = quotient_value f e t D.shift log_chunks trees alpha (point f.ring f.root D m)

    -- the values by their coefficients, a row for each
    abbrev flat : Rows F
    flat = record { values = flat_map e.coefficients values; width = e.dimension }

    sizes : 2 ^ D.log_size ≡ row_count_of t * 2 ^ log_chunks
    sizes = ap (λ k. 2 ^ k) size ∙ pow-add 2 t.log_height log_chunks

    item : (m : ℕ) → m < 2 ^ D.log_size → get_or values m e.ring.zero ≡ quotient_at m
    unfolding quotient_value
    item m h = ap (λ l. get_or l m e.ring.zero) are ∙ get_or-tabulate (2 ^ D.log_size) (λ i. quotient_value f e t D.shift (D.log_size - t.log_height) trees alpha (point f.ring f.root D i)) m e.ring.zero h

    count : length values ≡ 2 ^ D.log_size
    count = ap length are ∙ length-tabulate (2 ^ D.log_size) (λ i. quotient_value f e t D.shift (D.log_size - t.log_height) trees alpha (point f.ring f.root D i))

    flat_height : height flat ≡ 2 ^ D.log_size
    flat_height = height_of_pieces e.coefficients e.dimension L.vector.coefficients_length L.vector.positive values ∙ count

    flat_row : (m : ℕ) → m < 2 ^ D.log_size → row_at flat m ≡ e.coefficients (quotient_at m)
    flat_row m h = row_of_pieces e.coefficients e.dimension L.vector.coefficients_length values m e.ring.zero (omega (arith, h, count)) ∙ ap e.coefficients (item m h)

    -- a part is the chunk of its number
    pub part_is_chunk : (i : ℕ) → i < 2 ^ log_chunks → (p : CosetData F × Rows F) → IsPart f.ring f.root D (2 ^ log_chunks) i p.0 → IsSplit flat (2 ^ log_chunks) i p.1
        → IsChunk f e t D.shift log_chunks trees alpha i p
    part_is_chunk i h p P Q =
        let n = row_count_of t in
        let C = 2 ^ log_chunks in
        let z = f.ring.zero in
        let m = p.1 in
        let pos : 0 < C = pow_pos log_chunks in
        let logs : p.0.log_size ≡ t.log_height = power_cancel p.0.log_size t.log_height (product_cancel (2 ^ p.0.log_size) n C pos (P.size_is ∙ sizes)) in
        let whole : D ≡ quotient_domain f e t D.shift log_chunks = (λ j. record { shift = D.shift; log_size = size j }) in
        let start : p.0.shift ≡ point f.ring f.root (quotient_domain f e t D.shift log_chunks) i = P.shift_is ∙ ap (λ (d : CosetData F). point f.ring f.root d i) whole in
        let tall : height m ≡ n = product_cancel (height m) n C pos (Q.height_is ∙ (flat_height ∙ sizes)) in
        let cell : (k j : ℕ) → k < e.dimension → j < n → get_or (column z m k) j z ≡ chunk_cell f e t D.shift log_chunks trees alpha i k j = λ k j a b.
        let inside : j < height m = omega (arith, b, tall) in
        let below : i + C * j < 2 ^ D.log_size = subst (λ s. i + C * j < s) (sym sizes) (row_within C n i j h b) in
        get_or-column z m k j inside
        ∙ (sym (get_or-row_at m j k z (omega (arith, a, Q.width_is)))
        ∙ (ap (λ l. get_or l k z) (Q.row_is j inside ∙ flat_row (i + C * j) below)
        ∙ ap (λ (d : CosetData F). get_or (e.coefficients (quotient_value f e t D.shift log_chunks trees alpha (point f.ring f.root d (i + C * j)))) k z) whole)) in
        record {
          domain = λ j. record { shift = start j; log_size = logs j };
          width = Q.width_is;
          height = tall;
          cells = λ k a. column_is z m k n (chunk_cell f e t D.shift log_chunks trees alpha i k) tall (λ j b. cell k j a b);
        }

    -- so the parts are the chunks
    pub parts_are_chunks : (n : ℕ) (m : Rows F) → n ≡ 2 ^ log_chunks → m ≡ record { values = flat_map e.coefficients values; width = e.dimension }
        → (parts : List (CosetData F × Rows F)) → AreParts (IsPart f.ring f.root D n) m n parts → EachOf (2 ^ log_chunks) parts (IsChunk f e t D.shift log_chunks trees alpha)
    parts_are_chunks n m count_is is parts P =
        let C = 2 ^ log_chunks in
        let R : AreParts (IsPart f.ring f.root D C) flat C parts =
        subst (λ (k : ℕ). AreParts (IsPart f.ring f.root D k) flat k parts) count_is (subst (λ (z : Rows F). AreParts (IsPart f.ring f.root D n) z n parts) is P) in
        record { count = R.count; each = λ i p at. let h = slice_get_within parts i p at in let r = R.each i p at in part_is_chunk i (omega (arith, h, R.count)) p r.0 r.1 }

  module _ (shift : F) (Q : IsQuotientDomain f e t shift log_chunks top) where
    length_chunk : (i : ℕ) → length (honest_chunk f e t shift log_chunks trees alpha i) ≡ e.dimension
    unfolding honest_chunk
    length_chunk i = length-tabulate e.dimension _

    -- what is held of a chunk are its honest polynomials
    pub held_is_honest : (i : ℕ) (p : CosetData F × Rows F) → IsChunk f e t shift log_chunks trees alpha i p → (c : Committed F) → IsCommitted f.ring (2 ^ p.0.log_size) (point f.ring f.root p.0) p.1 c
        → c.polynomials ≡ honest_chunk f e t shift log_chunks trees alpha i
    held_is_honest i p K c I =
        let one : (k : ℕ) → k < e.dimension → get_or c.polynomials k [] ≡ get_or (honest_chunk f e t shift log_chunks trees alpha i) k [] = λ k a.
        let J : IsInterpolant f.ring (point f.ring f.root (chunk_domain f e t shift log_chunks i)) (column f.ring.zero p.1 k) (get_or c.polynomials k []) =
        subst (λ (s : CosetData F). IsInterpolant f.ring (point f.ring f.root s) (column f.ring.zero p.1 k) (get_or c.polynomials k [])) K.domain (I.each k (omega (arith, a, K.width))) in
        one_chunk_polynomial f e top inverse L t trees alpha shift log_chunks Q i k (get_or c.polynomials k []) a
        (subst (λ (l : List F). IsInterpolant f.ring (point f.ring f.root (chunk_domain f e t shift log_chunks i)) l (get_or c.polynomials k [])) (K.cells k a) J) in
        ext_get_or [] c.polynomials (honest_chunk f e t shift log_chunks trees alpha i) (I.count ∙ (K.width ∙ sym (length_chunk i))) (λ k a. one k (omega (arith, a, I.count, K.width)))

    -- so what is held of all chunks is the honest quotient
    pub held_are_honest : (parts : List (CosetData F × Rows F)) → EachOf (2 ^ log_chunks) parts (IsChunk f e t shift log_chunks trees alpha)
        → (points : CosetData F → ℕ) (point_at : CosetData F → ℕ → F) → ((d : CosetData F) → points d ≡ 2 ^ d.log_size) → ((d : CosetData F) (i : ℕ) → point_at d i ≡ point f.ring f.root d i)
        → (cs : List (Committed F)) → AreCommitted f.ring points point_at parts cs
        → map (λ c. c.polynomials) cs ≡ (honest_quotient f e t shift log_chunks trees alpha).chunks
    held_are_honest parts P points point_at counts places cs given =
        let C = 2 ^ log_chunks in
        let chunk = honest_chunk f e t shift log_chunks trees alpha in
        let held : Committed F → List (List F) = λ c. c.polynomials in
        let none : Committed F = record { size = 0; polynomials = [] } in
        let nowhere : CosetData F × Rows F = (chunk_domain f e t shift log_chunks 0, record { values = []; width = 0 }) in
        let H = committed_along f.ring points (λ d. 2 ^ d.log_size) point_at (point f.ring f.root) parts cs counts places given in
        let many : length cs ≡ C = H.count ∙ P.count in
        ext_get_or [] (map held cs) (tabulate C chunk) (length-map cs held ∙ (many ∙ sym (length-tabulate C chunk)))
        (λ i b.
        let h : i < C = omega (arith, b, length-map cs held, many) in
        let c = get_or cs i none in
        let x = get_or parts i nowhere in
        let at_c : slice_get cs i ≡ Some c = slice_get-get_or cs i none (omega (arith, h, many)) in
        let at_x : slice_get parts i ≡ Some x = slice_get-get_or parts i nowhere (omega (arith, h, P.count)) in
        get_or-map held cs i none ∙ (held_is_honest i x (P.each i x at_x) c (H.each i c at_c x at_x) ∙ sym (get_or-tabulate C chunk i [] h)))
