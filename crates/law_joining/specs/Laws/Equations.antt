-- A committed table holds with the constraints of equations exactly where its rows meet the equations; and such constraints fit their chunks.
use Rattle.std.proofs.Common.{◌≡◌, ◌↔◌, ℕ, zero, suc, ◌+◌, ◌%◌, ◌^◌, ◌<◌, ◌≤◌, ◌⊎◌, inl, inr, true, false, cond, max, List, [], ◌∷◌, ◌++◌, length, get_or, map, refl, sym, ◌∙◌, ap, subst, arith}
use Rattle.std.specs.Prelude.{All}
use Rattle.std.proofs.Math.ListN.{get_or-map}
use Rattle.std.proofs.Math.Nat.{mod-eq_of_lt}
use Rattle.std.proofs.lemmas.Bool.{cases_eq}
use Rattle.std.proofs.lemmas.List.{length-map, get_or-map as get_or-map-within}
use Rattle.std.proofs.lemmas.List.Elements.{All-nil}
use Rattle.std.proofs.lemmas.Nat.{pow_pos}
use Rattle.p3_field.specs.Domain.{point}
use Rattle.p3_field.specs.Field.{TwoAdic, Extension}
use Rattle.p3_field.specs.Laws.Algebra.{mul_zero, zero_mul}
use Rattle.p3_field.specs.Laws.Extended.{hom_differs, map_eval}
use Rattle.p3_field.specs.Laws.Roots.{sub_zero, sub_self, field_no_zero_divisors}
use Rattle.p3_field.specs.Poly.{eval_poly, eval_poly_in}
use Rattle.p3_field.specs.Ring.{sub}
use Rattle.p3_matrix.specs.Matrix.{row_at}
use Rattle.air_core.specs.CellValues.{cell_in, ext_cell_in}
use Rattle.p3_lookup.specs.Lookup.{IsLookup}
use Rattle.air_core.specs.declared.cells.Cell.{Cell}
use Rattle.air_core.specs.declared.cells.Cell.TheVariants.{Main, Preprocessed, Periodic, Public, FirstRow, LastRow, Transition}
use Rattle.air_core.specs.Laws.Maps.{hom_keeps, reads_more, value_along}
use Rattle.air_core.specs.Maps.{reading_over}
use Rattle.air_core.specs.Shape.{ReadsIn, declared_shape}
use Rattle.air_core.specs.Tree.{Tree, constant, cell, ext_cell, sum, difference, product, eval_tree}
use Rattle.air_equations.specs.Equation.{Equation, equal_when, equation_trees}
use Rattle.air_equations.specs.Meets.{IsOn, IsOwn, IsPlainEquation, IsSelector, Meets, own_value, value_here}
use Rattle.batch_config.specs.Setting.{Setting}
use Rattle.batch_constraints.specs.Fitting.{cell_transitions, transition_factors}
use Rattle.batch_constraints.specs.BatchTrees.{AreLookupsOf}
use Rattle.law_committed.specs.Committed.{CommittedTable, Holds, columns_at, next_point, reading, row_point, row_count_of, trace_domain, committed_values_at}
use Rattle.law_committed.specs.Fields.{FieldsLaws}
use Rattle.law_committed.specs.Laws.Rows.{reads_rows}
use Rattle.law_committed.specs.Laws.Selectors.{first_elsewhere, first_here, last_elsewhere, last_here, point_after, transition_before, transition_last}
use Rattle.law_committed.specs.Laws.Traces.{traces_committed}
use Rattle.law_committed.specs.BaseRows.{main_row}
use Rattle.law_valid.specs.Traced.{TracedTable, committed_alone, declared, log_rows, no_rows, traces_of}
use Rattle.law_valid.specs.Valid.{AllFit, HasQuotientDomain, IsTraced, OwnHold}
use Rattle.law_joining.specs.Laws.Fits.{HasFewFactors, few_factors_fit, no_factors}

module _ {F E : Type 0} (f : TwoAdic F) (e : Extension F E) (top : ℕ) (inverse : E → E) (L : FieldsLaws f e top inverse) (t : CommittedTable F E) (fits : t.log_height ≤ top) where
  abbrev n : ℕ
  n = row_count_of t

  abbrev at : ℕ → Cell → E
  at i c = cell_in e.ring.zero (committed_values_at f e t (row_point f e t i)) c

  known : (y z : F) → e.embed y ≡ e.embed z → y ≡ z
  known y z w = elim (L.below_decided y z) [
    | inl s ↦ s
    | inr d ↦ absurd (hom_differs f.ring L.below e.ring L.above e.embed L.embeds f.inv L.below_field L.above_field.one_differs y z d w)
  ]

  -- the rows over the base field
  pub main_rows_are : (i : ℕ) → columns_at f e t t.main (row_point f e t i) ≡ map e.embed (main_row f t i)
  main_rows_are i = go t.main
    where
      go : (gs : List (List F)) → map (λ (g : List F). eval_poly_in e g (row_point f e t i)) gs ≡ map e.embed (map (λ (g : List F). eval_poly f.ring g (point f.ring f.root (trace_domain f e t) i)) gs)
      go [] = refl
      go (g ∷ gs) = λ k. map_eval f.ring L.below e.ring L.above e.embed L.embeds g (point f.ring f.root (trace_domain f e t) i) k ∷ go gs k

  module _ (rows : ℕ → List F) (are : (i : ℕ) → i < n → columns_at f e t t.main (row_point f e t i) ≡ map e.embed (rows i)) where
    item_in : (xs : List F) (k : ℕ) → e.embed (get_or xs k f.ring.zero) ≡ get_or (map e.embed xs) k e.ring.zero
    item_in xs k = sym (get_or-map e.embed xs k f.ring.zero) ∙ ap (get_or (map e.embed xs) k) L.embeds.keeps_zero

    abbrev own : ℕ → Cell → F
    own i c = own_value f.ring rows t.public_values n i c

    -- the values of cells go into the larger field
    own_agrees : (i : ℕ) → i < n → (c : Cell) → IsOwn c → e.embed (own i c) ≡ at i c
    own_agrees i h (Main true column) w =
        let j = (i + 1) % n in
        let low : j < n = let q : 0 < n = pow_pos t.log_height in let m : (i + 1) % n < n = omega (arith, q) in m in
        item_in (rows j) column
        ∙ (ap (λ l. get_or l column e.ring.zero) (sym (are j low))
        ∙ ap (λ y. get_or (columns_at f e t t.main y) column e.ring.zero) (sym (point_after f e top inverse L t fits i h)))
    own_agrees i h (Main false column) w = item_in (rows i) column ∙ ap (λ l. get_or l column e.ring.zero) (sym (are i h))
    own_agrees i h (Public k) w = item_in t.public_values k
    own_agrees i h (Preprocessed next column) w = absurd w
    own_agrees i h (Periodic k) w = absurd w
    own_agrees i h FirstRow w = absurd w
    own_agrees i h LastRow w = absurd w
    own_agrees i h Transition w = absurd w

    abbrev here : ℕ → Tree F → F
    here i tree = value_here f.ring rows t.public_values n i tree

    value_agrees : (i : ℕ) → i < n → (tree : Tree F) → ReadsIn IsOwn (λ _. ⊥) tree → e.embed (here i tree) ≡ eval_tree (reading f e t (row_point f e t i)) tree
    value_agrees i h tree reads =
        let at_ext = ext_cell_in e.ring.zero (committed_values_at f e t (row_point f e t i)) in
        value_along (reading_over f.ring (λ y. y) (own i) (λ _. f.ring.zero)) (reading_over e.ring e.embed (at i) at_ext) e.embed
        (hom_keeps f.ring L.below e.ring L.above e.embed L.embeds (λ y. y) (own i) (at i) (λ _. f.ring.zero) at_ext) tree
        (reads_more IsOwn (λ c. e.embed (own i c) ≡ at i c) (λ _. ⊥) (λ c. e.embed f.ring.zero ≡ at_ext c) (own_agrees i h) (λ c w. absurd w) tree reads)

    -- a selector isn't zero on its rows, and is elsewhere
    on_there : (i : ℕ) (c : Cell) → IsSelector c → IsOn n i c → at i c ≡ e.ring.zero → ⊥
    on_there i FirstRow s on z = first_here f e top inverse L t fits (ap (λ j. (committed_values_at f e t (row_point f e t j)).first_row) (sym on) ∙ z)
    on_there i LastRow s on z = last_here f e top inverse L t fits i on z
    on_there i Transition s on z = transition_before f e top inverse L t fits i on z
    on_there i (Main next column) s on z = s
    on_there i (Preprocessed next column) s on z = s
    on_there i (Periodic k) s on z = s
    on_there i (Public k) s on z = s

    on_or_off : (i : ℕ) → i < n → (c : Cell) → IsSelector c → IsOn n i c ⊎ (at i c ≡ e.ring.zero)
    on_or_off i h FirstRow s = elim (cases_eq i 0) [ inl first ↦ inl first | inr other ↦ inr (first_elsewhere f e top inverse L t fits i (omega (arith, other)) h) ]
    on_or_off i h LastRow s = elim (cases_eq (i + 1) n) [ inl last ↦ inl last | inr other ↦ inr (last_elsewhere f e top inverse L t fits i (omega (arith, other, h))) ]
    on_or_off i h Transition s = elim (cases_eq (i + 1) n) [ inl last ↦ inr (transition_last f e top inverse L t fits i last) | inr other ↦ inl (omega (arith, other, h)) ]
    on_or_off i h (Main next column) s = absurd s
    on_or_off i h (Preprocessed next column) s = absurd s
    on_or_off i h (Periodic k) s = absurd s
    on_or_off i h (Public k) s = absurd s

    abbrev tree_of : Equation F → Tree F
    tree_of q = equal_when q.selector q.left q.right

    -- one equation at one row
    met_here : (i : ℕ) → i < n → (q : Equation F) → IsPlainEquation q → eval_tree (reading f e t (row_point f e t i)) (tree_of q) ≡ e.ring.zero → IsOn n i q.selector → here i q.left ≡ here i q.right
    met_here i h q plain z on =
        let x = eval_tree (reading f e t (row_point f e t i)) q.left in
        let y = eval_tree (reading f e t (row_point f e t i)) q.right in
        known (here i q.left) (here i q.right)
        (value_agrees i h q.left plain.1.0
        ∙ (sub_zero e.ring L.above x y (field_no_zero_divisors e.ring L.above inverse L.above_field (at i q.selector) (sub e.ring x y) (on_there i q.selector plain.0 on) z)
        ∙ sym (value_agrees i h q.right plain.1.1)))

    zero_here : (i : ℕ) → i < n → (q : Equation F) → IsPlainEquation q → (IsOn n i q.selector → here i q.left ≡ here i q.right) → eval_tree (reading f e t (row_point f e t i)) (tree_of q) ≡ e.ring.zero
    zero_here i h q plain meets =
        let x = eval_tree (reading f e t (row_point f e t i)) q.left in
        let y = eval_tree (reading f e t (row_point f e t i)) q.right in
        elim (on_or_off i h q.selector plain.0) [
          | inl on ↦
              let same : x ≡ y = sym (value_agrees i h q.left plain.1.0) ∙ (ap e.embed (meets on) ∙ value_agrees i h q.right plain.1.1) in
              ap (e.ring.mul (at i q.selector)) (sub_self e.ring L.above x y same) ∙ mul_zero e.ring L.above (at i q.selector)
          | inr off ↦ ap (λ u. e.ring.mul u (sub e.ring x y)) off ∙ zero_mul e.ring L.above (sub e.ring x y)
        ]

    -- so the rows of a table that holds meet the equations, and the other way round
    pub holds_meets : (qs : List (Equation F)) → All IsPlainEquation qs → Holds f e t (equation_trees qs) → Meets f.ring rows t.public_values n qs
    holds_meets qs plain holds i h k q l =
        let tree = tree_of q in
        let room : k < length (equation_trees qs) = let m = length-map qs tree_of in omega (arith, l, m) in
        let is : get_or (equation_trees qs) k tree ≡ tree_of (get_or qs k q) = get_or-map-within tree_of qs k q tree l in
        met_here i h (get_or qs k q) (plain k q l) (sym (ap (eval_tree (reading f e t (row_point f e t i))) is) ∙ holds i h k tree room)

    pub meets_holds : (qs : List (Equation F)) → All IsPlainEquation qs → Meets f.ring rows t.public_values n qs → Holds f e t (equation_trees qs)
    meets_holds [] plain meets i h k tree l = absurd (omega (arith, l))
    meets_holds (d ∷ qs) plain meets i h k tree l =
        let all : List (Equation F) = d ∷ qs in
        let room : k < length all = let m = length-map all tree_of in omega (arith, l, m) in
        ap (eval_tree (reading f e t (row_point f e t i))) (get_or-map-within tree_of all k d tree room) ∙ zero_here i h (get_or all k d) (plain k d room) (meets i h k d room)

-- an own cell is no selector
own_none : (c : Cell) → IsOwn c → cell_transitions c ≡ 0
own_none (Main next column) h = omega arith
own_none (Public k) h = omega arith
own_none (Preprocessed next column) h = absurd h
own_none (Periodic k) h = absurd h
own_none FirstRow h = absurd h
own_none LastRow h = absurd h
own_none Transition h = absurd h

own_factors : {F : Type 0} (tree : Tree F) → ReadsIn IsOwn (λ _. ⊥) tree → transition_factors tree ≡ 0
own_factors tree h = no_factors tree (reads_more IsOwn (λ x. cell_transitions x ≡ 0) (λ _. ⊥) (λ _. Unit {0}) own_none (λ x w. tt) tree h)

one_factor : (c : Cell) → cell_transitions c ≤ 1
one_factor (Main next column) = omega arith
one_factor (Preprocessed next column) = omega arith
one_factor (Periodic k) = omega arith
one_factor (Public k) = omega arith
one_factor FirstRow = omega arith
one_factor LastRow = omega arith
one_factor Transition = omega arith

few_factors : {F : Type 0} (q : Equation F) → IsPlainEquation q → HasFewFactors (equal_when q.selector q.left q.right)
few_factors q plain =
    let a = own_factors q.left plain.1.0 in
    let b = own_factors q.right plain.1.1 in
    let s = one_factor q.selector in
    omega (arith, a, b, s)

module _ {S F E C : Type 0} (c : Setting S F E C) (inverse : E → E) (L : FieldsLaws c.field c.extension c.two_adicity inverse) (plain : c.zk ≡ false) (t : TracedTable F) (qs : List (Equation F)) (are : t.table.trees ≡ equation_trees qs)
    (simple : All IsPlainEquation qs) (T : IsTraced c t) (Q : HasQuotientDomain c t) where
  abbrev committed : CommittedTable F E
  committed = committed_alone c t

  low : log_rows c t ≤ c.two_adicity
  low = let q = Q.fits in omega (arith, q)

  -- rows of the trace that meet the equations meet the constraints
  pub equations_hold : Meets c.field.ring (row_at t.trace) t.publics (2 ^ log_rows c t) qs → OwnHold c t
  equations_hold meets =
      let commits = traces_committed c.field c.extension c.two_adicity inverse L (log_rows c t) low (traces_of t) no_rows [] [] T.rows in
      subst (Holds c.field c.extension committed) (sym are)
      (meets_holds c.field c.extension c.two_adicity inverse L committed low (row_at t.trace)
      (λ i h. (reads_rows c.field c.extension c.two_adicity inverse L committed low (traces_of t) no_rows commits i h).main_local) qs simple meets)

  -- and without lookups and periodic columns all constraints fit
  pub equations_fit : t.lookups ≡ [] → (declared t).periodic ≡ [] → AllFit c t
  equations_fit none whole =
      few_factors_fit c plain t (subst (λ ts. All HasFewFactors ts) (sym are) (of_equations qs simple))
      (subst (AreLookupsOf (declared t)) (sym none) (All-nil (IsLookup (declared_shape (declared t))))) whole
    where
      of_equations : (xs : List (Equation F)) → All IsPlainEquation xs → All HasFewFactors (equation_trees xs)
      of_equations [] own i tree l = absurd (omega (arith, l))
      of_equations (q ∷ xs) own zero tree l = few_factors q (own zero q (omega arith))
      of_equations (q ∷ xs) own (suc i) tree l = of_equations xs (λ k d h. own (suc k) d (omega (arith, h))) i tree (omega (arith, l))
