-- From the quotients of all terms to the fractions of each row.
use Rattle.std.proofs.Common.{◌≡◌, ℕ, zero, suc, ◌+◌, ◌-◌, ◌*◌, ◌<◌, ◌≤◌, inl, inr, List, [], ◌∷◌, ◌++◌, length, get_or, map, take, drop, refl, sym, ◌∙◌, ap, arith, append-nil, append_assoc}
use Rattle.std.specs.Prelude.{slice_range}
use Rattle.std.proofs.Math.ListN.{set}
use Rattle.std.proofs.lemmas.List.{length-append, length-map, map-append, take_at, drop_at, set_at, get_or_at, drop_more, map_more, drop-drop, length-take-le, length-drop, get_or-map, drop_all, take_all}
use Rattle.std.proofs.lemmas.Nat.{row_fits}
use Rattle.std.proofs.lemmas.Bool.{cases_lt}
use Rattle.p3_field.specs.Ring.{Ring, RingLaws}
use Rattle.p3_field.specs.Poly.{total}
use Rattle.p3_field.specs.Laws.Sums.{total_same}
use Rattle.p3_field.specs.Laws.Tabulate.{total_more}
use Rattle.p3_matrix.specs.Matrix.{Rows, height}
use Rattle.p3_matrix.specs.Laws.Grids.{next_row, product_height}
use Rattle.p3_lookup.specs.Term.{Term, sum_of, term_value, fraction, HasInverses}
use Rattle.p3_lookup.specs.Honest.{Argument, row_terms, row_fractions, running_sum, honest_cell, RowHasInverses}
use Rattle.p3_lookup.specs.RowTerms.{flat_terms, table_terms, row_size, group_sums, IsRowAdded, column_cell, AreColumns}

-- each inverse with its count, in place

module _ {E : Type 0} (r : Ring E) (inv : E → E) (ts : List (Term E)) where
  abbrev inverses : List E
  inverses = map inv (map (λ t. t.denominator) ts)

  -- the first i inverses have become quotients
  abbrev pub AreScaled : List E → ℕ → Type 0
  AreScaled xs i = xs ≡ map (term_value r inv) (take i ts) ++ drop i inverses

  length_front : (i : ℕ) → i < length ts → length (map (term_value r inv) (take i ts)) ≡ i
  length_front i h = length-map (take i ts) (term_value r inv) ∙ length-take-le i ts (omega (arith, h))

  module _ (i : ℕ) (t : Term E) (h : i < length ts) (at : t ≡ get_or ts i t) where
    rest : drop i inverses ≡ inv t.denominator ∷ drop (i + 1) inverses
    rest =
        let long : i < length (map (λ (u : Term E). u.denominator) ts) = omega (arith, h, length-map ts (λ (u : Term E). u.denominator)) in
        let longer : i < length inverses = omega (arith, long, length-map (map (λ (u : Term E). u.denominator) ts) inv) in
        drop_more inverses i (inv t.denominator) longer
        ∙ ap (λ x. x ∷ drop (i + 1) inverses)
        (get_or-map inv (map (λ (u : Term E). u.denominator) ts) i t.denominator (inv t.denominator) long
        ∙ ap inv (get_or-map (λ (u : Term E). u.denominator) ts i t t.denominator h ∙ ap (λ (u : Term E). u.denominator) (sym at)))

    pub scaled_read : (xs : List E) (d : E) → AreScaled xs i → get_or xs i d ≡ inv t.denominator
    scaled_read xs d s =
        let front = map (term_value r inv) (take i ts) in
        ap (λ l. get_or l i d) (s ∙ ap (λ l. front ++ l) rest) ∙ get_or_at front (inv t.denominator) (drop (i + 1) inverses) d i (length_front i h)

    pub scaled_more : (xs : List E) (y : E) → y ≡ term_value r inv t → AreScaled xs i → AreScaled (set xs i y) (i + 1)
    scaled_more xs y e s =
        let front = map (term_value r inv) (take i ts) in
        ap (λ l. set l i y) (s ∙ ap (λ l. front ++ l) rest)
        ∙ set_at front (inv t.denominator) (drop (i + 1) inverses) y i (length_front i h)
        ∙ ap (λ z. front ++ z ∷ drop (i + 1) inverses) (e ∙ ap (term_value r inv) at)
        ∙ sym (append_assoc front (term_value r inv (get_or ts i t) ∷ []) (drop (i + 1) inverses))
        ∙ ap (λ l. l ++ drop (i + 1) inverses) (sym (map_more (term_value r inv) ts i t h))

  pub scaled_end : (xs : List E) (i : ℕ) → length ts ≤ i → AreScaled xs i → xs ≡ map (term_value r inv) ts
  scaled_end xs i h s =
      let long : length inverses ≤ i = omega (arith, h, length-map ts (λ (u : Term E). u.denominator), length-map (map (λ (u : Term E). u.denominator) ts) inv) in
      s ∙ ap (λ l. map (term_value r inv) (take i ts) ++ l) (drop_all i inverses long)
      ∙ append-nil (map (term_value r inv) (take i ts)) ∙ ap (map (term_value r inv)) (take_all i ts h)

  pub scaled_start : (xs : List E) → xs ≡ inverses → AreScaled xs 0
  scaled_start xs e = e

  pub scaled_length : (xs : List E) (i : ℕ) → i ≤ length ts → AreScaled xs i → length xs ≡ length ts
  scaled_length xs i h s = omega (
    arith,
    ap length s,
    length-append (map (term_value r inv) (take i ts)) (drop i inverses),
    length-map (take i ts) (term_value r inv),
    length-take-le i ts h,
    length-drop i inverses,
    length-map ts (λ (u : Term E). u.denominator),
    length-map (map (λ (u : Term E). u.denominator) ts) inv,
  )

  -- the denominators may be inverted
  pub ready : (xs : List E) → xs ≡ map (λ t. t.denominator) ts → HasInverses r ts → (i : ℕ) → i < length xs → get_or xs i r.zero ≡ r.zero → ⊥
  ready xs e h i lt z =
      let d : Term E = record { count = r.zero; denominator = r.zero } in
      let within : i < length ts = omega (arith, lt, ap length e, length-map ts (λ (u : Term E). u.denominator)) in
      h i d within (sym (get_or-map (λ (u : Term E). u.denominator) ts i d r.zero within) ∙ ap (λ l. get_or l i r.zero) (sym e) ∙ z)

-- one row: what is after the values now, and what is to come, are together the whole row

pub record IsRowAt {E : Type 0} (r : Ring E) (ns : List ℕ) (xs : List E) (running : E) (old now : List E) (i start place : ℕ) (sum : E) : Type 0 where
  pub values : now ++ group_sums r (drop i ns) (drop place xs) ≡ old ++ running ∷ group_sums r ns (drop start xs)
  pub next_is : r.add sum (sum_of r (group_sums r (drop i ns) (drop place xs))) ≡ r.add running (sum_of r (group_sums r ns (drop start xs)))
  pub places : place + row_size (drop i ns) ≡ start + row_size ns

module _ {E : Type 0} (r : Ring E) (L : RingLaws r) (ns : List ℕ) (xs : List E) (running : E) (old : List E) (start : ℕ) where
  pub row_at_start : (now : List E) → now ≡ old ++ running ∷ [] → IsRowAt r ns xs running old now 0 start start running
  row_at_start now e = record {
    values = ap (λ l. l ++ group_sums r ns (drop start xs)) e ∙ append_assoc old (running ∷ []) (group_sums r ns (drop start xs));
    next_is = refl;
    places = refl;
  }

  module _ (i place n : ℕ) (now : List E) (sum : E) (h : i < length ns) (at : n ≡ get_or ns i n) (s : IsRowAt r ns xs running old now i start place sum) where
    here : drop i ns ≡ n ∷ drop (i + 1) ns
    here = drop_more ns i n h ∙ ap (λ k. k ∷ drop (i + 1) ns) (sym at)

    pub row_place : place + n ≤ start + row_size ns
    row_place = omega (arith, s.places, ap row_size here)

    pub row_at_more : (newer : List E) (fraction next : E) (end : ℕ) → end ≡ place + n → fraction ≡ sum_of r (slice_range xs place end) → newer ≡ now ++ fraction ∷ [] → next ≡ r.add sum fraction
        → IsRowAt r ns xs running old newer (i + 1) start end next
    row_at_more newer fraction next end e f v a =
        let rest = group_sums r (drop (i + 1) ns) (drop end xs) in
        let turned : group_sums r (drop i ns) (drop place xs) ≡ fraction ∷ rest =
        ap (λ l. group_sums r l (drop place xs)) here
        ∙ ap (λ l. sum_of r (take n (drop place xs)) ∷ group_sums r (drop (i + 1) ns) l) (drop-drop n place xs ∙ ap (λ k. drop k xs) (sym e))
        ∙ ap (λ x. x ∷ rest) (ap (λ k. sum_of r (take k (drop place xs))) wide ∙ sym f) in
        record {
          values = ap (λ l. l ++ rest) v ∙ append_assoc now (fraction ∷ []) rest ∙ ap (λ l. now ++ l) (sym turned) ∙ s.values;
          next_is = ap (λ x. r.add x (sum_of r rest)) a ∙ L.add_assoc sum fraction (sum_of r rest) ∙ ap (λ l. r.add sum (sum_of r l)) (sym turned) ∙ s.next_is;
          places = omega (arith, e, s.places, ap row_size here);
        }
      where
        wide : n ≡ end - place
        wide = omega (arith, e)

  pub row_at_end : (i place : ℕ) (now : List E) (sum : E) → length ns ≤ i → IsRowAt r ns xs running old now i start place sum
      → IsRowAdded r (group_sums r ns (drop start xs)) running old now sum × (place ≡ start + row_size ns)
  row_at_end i place now sum h s =
      let none : drop i ns ≡ [] = drop_all i ns h in
      let empty : group_sums r (drop i ns) (drop place xs) ≡ [] = ap (λ l. group_sums r l (drop place xs)) none in (
        record {
          values = sym (append-nil now) ∙ ap (λ l. now ++ l) (sym empty) ∙ s.values;
          next_is = sym (L.add_zero sum) ∙ ap (λ l. r.add sum (sum_of r l)) (sym empty) ∙ s.next_is;
        },
        omega (arith, s.places, ap row_size none),
      )

-- rows of columns

length_groups : {E : Type 0} (r : Ring E) (ns : List ℕ) (xs : List E) → length (group_sums r ns xs) ≡ length ns
length_groups r [] xs = refl
length_groups r (n ∷ ns) xs = ap suc (length_groups r ns (drop n xs))

-- the first rows are there, and the place after their quotients
pub record AreRowsAt {E : Type 0} (r : Ring E) (ns : List ℕ) (xs : List E) (values : List E) (row place : ℕ) (running : E) : Type 0 where
  pub columns : AreColumns r (λ i. group_sums r ns (drop (i * row_size ns) xs)) (length ns) values row running
  pub at : place ≡ row * row_size ns

module _ {E : Type 0} (r : Ring E) (ns : List ℕ) (xs : List E) where
  pub rows_start : (running : E) → running ≡ r.zero → AreRowsAt r ns xs [] 0 0 running
  rows_start running z = record {
    columns = record { grid = record { length_is = omega arith; cell_is = λ i j h k. absurd (omega (arith, h)) }; sum = z };
    at = omega arith;
  }

  module _ (values : List E) (row place : ℕ) (running : E) (s : AreRowsAt r ns xs values row place running) where
    pub rows_place : (n : ℕ) → row < n → n * row_size ns ≤ length xs → place + row_size ns ≤ length xs
    rows_place n h fits = omega (arith, s.at, fits, row_fits row (row_size ns) n (row_size ns) h (omega arith))

    pub rows_more : RingLaws r → (newer : List E) (end : ℕ) (next : E) → IsRowAdded r (group_sums r ns (drop place xs)) running values newer next → end ≡ place + row_size ns → AreRowsAt r ns xs newer (row + 1) end next
    rows_more L newer end next a e =
        let fs = group_sums r ns (drop (row * row_size ns) xs) in
        let same : group_sums r ns (drop place xs) ≡ fs = ap (λ k. group_sums r ns (drop k xs)) s.at in
        let long : length (running ∷ fs) ≡ length ns + 1 = omega (arith, length_groups r ns (drop (row * row_size ns) xs)) in
        record {
          columns = record {
            grid = next_row r.zero values (running ∷ fs) newer row (length ns + 1) (column_cell r (λ i. group_sums r ns (drop (i * row_size ns) xs))) s.columns.grid long cells (a.values ∙ ap (λ l. values ++ running ∷ l) same);
            sum = a.next_is ∙ ap (λ l. r.add running (sum_of r l)) same ∙ ap (λ x. r.add x (sum_of r fs)) s.columns.sum ∙ total_more r L row (λ k. sum_of r (group_sums r ns (drop (k * row_size ns) xs)));
          };
          at = e ∙ omega (arith, s.at);
        }
      where
        cells : (j : ℕ) → j < length ns + 1 → get_or (running ∷ group_sums r ns (drop (row * row_size ns) xs)) j r.zero ≡ column_cell r (λ i. group_sums r ns (drop (i * row_size ns) xs)) row j
        cells zero h = s.columns.sum
        cells (suc j) h = refl

-- the fractions of the rows are those of the argument

-- groups of the sizes of lists that stand one after another are these lists
groups_are : {E : Type 0} (r : Ring E) (inv : E → E) (tss : List (List (Term E))) (more : List E) → group_sums r (map length tss) (map (term_value r inv) (flat_terms tss) ++ more) ≡ map (fraction r inv) tss
groups_are r inv [] more = refl
groups_are r inv (ts ∷ tss) more =
    let q = map (term_value r inv) ts in
    let rest = map (term_value r inv) (flat_terms tss) ++ more in
    let split : map (term_value r inv) (ts ++ flat_terms tss) ++ more ≡ q ++ rest =
    ap (λ l. l ++ more) (map-append (term_value r inv) ts (flat_terms tss)) ∙ append_assoc q (map (term_value r inv) (flat_terms tss)) more in
    let long : length q ≡ length ts = length-map ts (term_value r inv) in
    ap (λ l. sum_of r (take (length ts) l) ∷ group_sums r (map length tss) (drop (length ts) l)) split
    ∙ ap (λ l. sum_of r l ∷ group_sums r (map length tss) (drop (length ts) (q ++ rest))) (take_at q rest (length ts) long)
    ∙ ap (λ l. sum_of r q ∷ group_sums r (map length tss) l) (drop_at q rest (length ts) long)
    ∙ ap (λ l. sum_of r q ∷ l) (groups_are r inv tss more)

length_flat : {E : Type 0} (tss : List (List (Term E))) → length (flat_terms tss) ≡ row_size (map length tss)
length_flat [] = refl
length_flat (ts ∷ tss) = length-append ts (flat_terms tss) ∙ ap (λ k. length ts + k) (length_flat tss)

module _ {F E : Type 0} (p : Argument F E) (ns : List ℕ) (same : (i : ℕ) → map length (row_terms p i) ≡ ns) where
  pub length_table : (n : ℕ) → length (table_terms p n) ≡ n * row_size ns
  length_table zero = omega arith
  length_table (suc n) =
      omega (arith, length-append (table_terms p n) (flat_terms (row_terms p n)), length_table n, length_flat (row_terms p n), ap row_size (same n))

  -- a row's terms stand after those of the rows before
  row_after : (n i : ℕ) → i < n → (more : List (Term E)) × (table_terms p n ≡ table_terms p i ++ (flat_terms (row_terms p i) ++ more))
  row_after zero i h = absurd (omega (arith, h))
  row_after (suc n) i h = elim (cases_lt i n) [
    | inl less ↦
        let past = row_after n i less in
        let own = flat_terms (row_terms p n) in (
          past.0 ++ own,
          ap (λ l. l ++ own) past.1 ∙ append_assoc (table_terms p i) (flat_terms (row_terms p i) ++ past.0) own
              ∙ ap (λ l. table_terms p i ++ l) (append_assoc (flat_terms (row_terms p i)) past.0 own),
        )
    | inr ge ↦
        let e : n ≡ i = omega (arith, h, ge) in (
          [],
          ap (λ k. table_terms p k ++ flat_terms (row_terms p k)) e ∙ ap (λ l. table_terms p i ++ l) (sym (append-nil (flat_terms (row_terms p i)))),
        )
  ]

  pub fractions_are : (n i : ℕ) (xs : List E) → i < n → xs ≡ map (term_value p.ring p.inv) (table_terms p n) → group_sums p.ring ns (drop (i * row_size ns) xs) ≡ row_fractions p i
  fractions_are n i xs h e =
      let q = term_value p.ring p.inv in
      let past = row_after n i h in
      let front = map q (table_terms p i) in
      let own = map q (flat_terms (row_terms p i)) in
      let more = map q past.0 in
      let split : xs ≡ front ++ (own ++ more) =
      e ∙ ap (map q) past.1 ∙ map-append q (table_terms p i) (flat_terms (row_terms p i) ++ past.0) ∙ ap (λ l. front ++ l) (map-append q (flat_terms (row_terms p i)) past.0) in
      let long : length front ≡ i * row_size ns = length-map (table_terms p i) q ∙ length_table i in
      ap (λ l. group_sums p.ring ns (drop (i * row_size ns) l)) split
      ∙ ap (group_sums p.ring ns) (drop_at front (own ++ more) (i * row_size ns) long)
      ∙ ap (λ l. group_sums p.ring l (own ++ more)) (sym (same i))
      ∙ groups_are p.ring p.inv (row_terms p i) more

-- the whole answer

module _ {F E : Type 0} (p : Argument F E) (L : RingLaws p.ring) (ns : List ℕ) (same : (i : ℕ) → map length (row_terms p i) ≡ ns) (lookups : length ns ≡ length p.lookups) where
  pub generated : (n : ℕ) (xs values : List E) (running : E) (m : Rows E) → xs ≡ map (term_value p.ring p.inv) (table_terms p n) → ((i : ℕ) → i < n → RowHasInverses p i)
      → AreColumns p.ring (λ i. group_sums p.ring ns (drop (i * row_size ns) xs)) (length p.lookups) values n running → m ≡ record { values = values; width = length p.lookups + 1 }
      → (m.width ≡ length p.lookups + 1)
      × (height m ≡ n)
      × ((i j : ℕ) → i < n → j < length p.lookups + 1 → get_or m.values (i * m.width + j) p.ring.zero ≡ honest_cell p i j)
      × (running ≡ running_sum p n)
      × ((i : ℕ) → i < n → RowHasInverses p i)
  generated n xs values running m e inverses a q = (
    ap (λ (r : Rows E). r.width) q,
    ap (λ (r : Rows E). height r) q ∙ product_height values n (length p.lookups + 1) a.grid.length_is (omega arith),
    λ i j h k. ap (λ (r : Rows E). get_or r.values (i * r.width + j) p.ring.zero) q ∙ a.grid.cell_is i j h k ∙ cells i j (omega (arith, h)),
    a.sum ∙ sums n (omega arith),
    inverses,
  )
    where
      fs : ℕ → List E
      fs i = group_sums p.ring ns (drop (i * row_size ns) xs)

      sums : (i : ℕ) → i ≤ n → total p.ring i (λ k. sum_of p.ring (group_sums p.ring ns (drop (k * row_size ns) xs))) ≡ running_sum p i
      sums i h = total_same p.ring L i (λ k. sum_of p.ring (group_sums p.ring ns (drop (k * row_size ns) xs))) (λ k. sum_of p.ring (row_fractions p k))
          (λ k lt. ap (sum_of p.ring) (fractions_are p ns same n k xs (omega (arith, lt, h)) e))

      cells : (i j : ℕ) → i < n → column_cell p.ring (λ k. group_sums p.ring ns (drop (k * row_size ns) xs)) i j ≡ honest_cell p i j
      cells i zero h = sums i (omega (arith, h))
      cells i (suc j) h = ap (λ l. get_or l j p.ring.zero) (fractions_are p ns same n i xs h e)
