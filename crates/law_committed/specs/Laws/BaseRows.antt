-- What a table reads at its rows over the base field. Where a committed table holds, constraints that read this row's main cells alone
-- are zero there.
use Rattle.std.proofs.Common.{◌≡◌, ℕ, suc, ◌+◌, ◌<◌, ◌≤◌, inl, inr, Bool, true, false, cond, List, [], length, get_or, map, refl, sym, ◌∙◌, ap, arith}
use Rattle.std.specs.Prelude.{All, nat_eq}
use Rattle.std.proofs.Math.ListN.{get_or-map}
use Rattle.std.proofs.Math.Nat.{mod-eq_of_lt}
use Rattle.std.proofs.lemmas.Bool.{eq-eqb, ne_eqb}
use Rattle.std.proofs.lemmas.List.{length-map}
use Rattle.p3_field.specs.Ring.{Ring}
use Rattle.p3_matrix.specs.Matrix.{height, row_at}
use Rattle.air_core.specs.Check.{TableTraces, table_row}
use Rattle.air_core.specs.declared.cells.Cell.{Cell}
use Rattle.air_core.specs.declared.cells.Cell.TheVariants.{Main, Preprocessed, Periodic, Public, FirstRow, LastRow, Transition}
use Rattle.air_core.specs.CellValues.{cell_in, ext_cell_in}
use Rattle.air_core.specs.Laws.Maps.{hom_keeps, reads_more, value_along}
use Rattle.air_core.specs.Maps.{reading_over}
use Rattle.air_core.specs.RowCheck.{Row, cell_value, ext_cell_value, tree_value_at_row}
use Rattle.air_core.specs.Tree.{Tree, eval_tree}
use Rattle.p3_field.specs.Domain.{point, subgroup}
use Rattle.p3_field.specs.Field.{TwoAdic, Extension}
use Rattle.p3_field.specs.Laws.Extended.{hom_differs, map_eval}
use Rattle.p3_field.specs.Poly.{eval_poly, eval_poly_in}
use Rattle.law_committed.specs.BaseRows.{IsMainHere, ReadRows, ReadsMainHere, main_row, row_here}
use Rattle.law_committed.specs.Committed.{CommittedTable, Holds, reading, row_point, row_count_of, trace_domain, committed_values_at}
use Rattle.law_committed.specs.Fields.{FieldsLaws}
use Rattle.law_committed.specs.Laws.Selectors.{first_elsewhere, first_here, last_elsewhere, last_here, point_after, transition_before, transition_last}

module _ {F E : Type 0} (f : TwoAdic F) (e : Extension F E) (top : ℕ) (inverse : E → E) (L : FieldsLaws f e top inverse) (t : CommittedTable F E) where
  -- values that are one above the field are one in it
  pub known : (y z : F) → e.embed y ≡ e.embed z → y ≡ z
  known y z w = elim (L.below_decided y z) [
    | inl s ↦ s
    | inr d ↦ absurd (hom_differs f.ring L.below e.ring L.above e.embed L.embeds f.inv L.below_field L.above_field.one_differs y z d w)
  ]

  module _ (i : ℕ) (row : Row F F) (is : row.main_local ≡ main_row f t i) where
    abbrev x : E
    x = row_point f e t i

    abbrev p : F
    p = point f.ring f.root (trace_domain f e t) i

    -- a main cell's value goes into the larger field
    pub main_cell : (column : ℕ) → e.embed (get_or row.main_local column f.ring.zero) ≡ get_or (committed_values_at f e t x).main_local column e.ring.zero
    main_cell column =
        ap (λ l. e.embed (get_or l column f.ring.zero)) is
        ∙ (ap e.embed (get_or-map (λ (g : List F). eval_poly f.ring g p) t.main column [])
        ∙ (sym (map_eval f.ring L.below e.ring L.above e.embed L.embeds (get_or t.main column []) p) ∙ sym (get_or-map (λ (g : List F). eval_poly_in e g x) t.main column [])))

    cell_agrees : (c : Cell) → IsMainHere c → e.embed (cell_value f.ring row c) ≡ cell_in e.ring.zero (committed_values_at f e t x) c
    cell_agrees (Main true column) h = absurd h
    cell_agrees (Main false column) h = main_cell column
    cell_agrees (Preprocessed next column) h = absurd h
    cell_agrees (Periodic n) h = absurd h
    cell_agrees (Public n) h = absurd h
    cell_agrees FirstRow h = absurd h
    cell_agrees LastRow h = absurd h
    cell_agrees Transition h = absurd h

    value_below : (tree : Tree F) → ReadsMainHere tree → e.embed (tree_value_at_row f.ring f.ring (λ y. y) row tree) ≡ eval_tree (reading f e t x) tree
    value_below tree reads =
        let at = cell_value f.ring row in
        let at' = cell_in e.ring.zero (committed_values_at f e t x) in
        let at_ext = ext_cell_value f.ring.zero row in
        let at_ext' = ext_cell_in e.ring.zero (committed_values_at f e t x) in
        value_along (reading_over f.ring (λ y. y) at at_ext) (reading_over e.ring e.embed at' at_ext') e.embed
        (hom_keeps f.ring L.below e.ring L.above e.embed L.embeds (λ y. y) at at' at_ext at_ext') tree
        (reads_more IsMainHere (λ c. e.embed (at c) ≡ at' c) (λ _. ⊥) (λ c. e.embed (at_ext c) ≡ at_ext' c) cell_agrees (λ c h. absurd h) tree reads)

    pub zero_below : (trees : List (Tree F)) → Holds f e t trees → i < row_count_of t → All ReadsMainHere trees → All (λ tree. tree_value_at_row f.ring f.ring (λ y. y) row tree ≡ f.ring.zero) trees
    zero_below trees holds below reads k d l =
        let tree = get_or trees k d in
        known (tree_value_at_row f.ring f.ring (λ y. y) row tree) f.ring.zero (value_below tree (reads k d l) ∙ (holds i below k d l ∙ sym L.embeds.keeps_zero))

  -- where it is known what they mean of a row of so many cells, each row of the table means that
  pub rows_mean : (trees : List (Tree F)) (Means : List F → Type 0) (width : ℕ)
      → ((row : Row F F) → length row.main_local ≡ width → All (λ tree. tree_value_at_row f.ring f.ring (λ y. y) row tree ≡ f.ring.zero) trees → Means row.main_local)
      → All ReadsMainHere trees → length t.main ≡ width → Holds f e t trees → (i : ℕ) → i < row_count_of t → Means (main_row f t i)
  rows_mean trees Means width meant reads wide holds i below =
      meant (row_here f t i) (length-map t.main (λ (g : List F). eval_poly f.ring g (point f.ring f.root (subgroup f.ring t.log_height) i)) ∙ wide) (zero_below i (row_here f t i) refl trees holds below reads)

module _ {F E : Type 0} (f : TwoAdic F) (e : Extension F E) (top : ℕ) (inverse : E → E) (L : FieldsLaws f e top inverse) (t : CommittedTable F E) (fits : t.log_height ≤ top) where
  abbrev at : ℕ → Cell → E
  at i c = cell_in e.ring.zero (committed_values_at f e t (row_point f e t i)) c

  -- a main cell of this row, and of the next one
  here_is : (i column : ℕ) → at i (Main false column) ≡ e.embed (get_or (main_row f t i) column f.ring.zero)
  here_is i column = sym (main_cell f e top inverse L t i (row_here f t i) refl column)

  pub next_cell : (i column : ℕ) → i + 1 < row_count_of t → at i (Main true column) ≡ at (i + 1) (Main false column)
  next_cell i column l =
      ap (λ y. get_or (map (λ (g : List F). eval_poly_in e g y) t.main) column e.ring.zero) (point_after f e top inverse L t fits i (omega (arith, l)) ∙ ap (row_point f e t) (mod-eq_of_lt l))

  next_is : (i column : ℕ) → suc i < row_count_of t → at i (Main true column) ≡ e.embed (get_or (main_row f t (suc i)) column f.ring.zero)
  next_is i column l =
      let same : i + 1 ≡ suc i = omega arith in
      next_cell i column (omega (arith, l)) ∙ (ap (λ j. at j (Main false column)) same ∙ here_is (suc i) column)

  -- a public value
  pub public_is : (i n : ℕ) → at i (Public n) ≡ e.embed (get_or t.public_values n f.ring.zero)
  public_is i n = ap (get_or (map e.embed t.public_values) n) (sym L.embeds.keeps_zero) ∙ get_or-map e.embed t.public_values n f.ring.zero

  -- what a committed table reads at its rows
  pub table_reads : ReadRows f.ring e.ring e.embed (row_count_of t) (main_row f t) t.public_values at
  table_reads = record {
    here = λ j column l. here_is j column;
    next = next_is;
    public = λ j n l. public_is j n;
    first = first_here f e top inverse L t fits;
    first_elsewhere = λ j l. first_elsewhere f e top inverse L t fits (suc j) (omega arith) l;
    last = λ j w. last_here f e top inverse L t fits j (omega (arith, w));
    last_elsewhere = λ j l. last_elsewhere f e top inverse L t fits j (omega (arith, l));
    transition = λ j l. transition_before f e top inverse L t fits j (omega (arith, l));
    transition_elsewhere = λ j w. transition_last f e top inverse L t fits j (omega (arith, w));
  }

module _ {F : Type 0} (r : Ring F) (t : TableTraces F) (differs : r.one ≡ r.zero → ⊥) where
  abbrev n : ℕ
  n = height t.main

  -- a selector of a check of rows
  selected : (p : Bool) (x y : F) → p ≡ true → cond p x y ≡ x
  selected p x y w = ap (λ q. cond q x y) w

  other : (p : Bool) (x y : F) → p ≡ false → cond p x y ≡ y
  other p x y w = ap (λ q. cond q x y) w

  ends : (j : ℕ) → suc j ≡ n → nat_eq (j + 1) n ≡ true
  ends j w = eq-eqb (j + 1) n (omega (arith, w))

  goes_on : (j : ℕ) → suc j < n → nat_eq (j + 1) n ≡ false
  goes_on j l = ne_eqb (j + 1) n (λ w. absurd (omega (arith, l, w)))

  -- what a check of rows reads of traces
  pub traces_read : ReadRows r r (λ x. x) n (row_at t.main) t.public_values (λ i. cell_value r (table_row r.zero t i))
  traces_read = record {
    here = λ j column l. refl;
    next = λ j column l.
        let same : j + 1 ≡ suc j = omega arith in
        ap (λ m. get_or (row_at t.main m) column r.zero) (mod-eq_of_lt (omega (arith, l)) ∙ same);
    public = λ j m l. refl;
    first = λ z. differs z;
    first_elsewhere = λ j l. other (nat_eq (suc j) 0) r.one r.zero (ne_eqb (suc j) 0 (λ z. absurd (omega (arith, z))));
    last = λ j w z. differs (sym (selected (nat_eq (j + 1) n) r.one r.zero (ends j w)) ∙ z);
    last_elsewhere = λ j l. other (nat_eq (j + 1) n) r.one r.zero (goes_on j l);
    transition = λ j l z. differs (sym (other (nat_eq (j + 1) n) r.zero r.one (goes_on j l)) ∙ z);
    transition_elsewhere = λ j w. selected (nat_eq (j + 1) n) r.zero r.one (ends j w);
  }
