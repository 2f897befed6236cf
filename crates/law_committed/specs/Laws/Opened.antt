-- Opened values and the committed polynomials' values: trees of declared cells have one value by both, so the identity over opened
-- values is that of the committed polynomials.
use Rattle.std.proofs.Common.{◌≡◌, ◌↔◌, ℕ, zero, suc, ◌+◌, ◌-◌, ◌*◌, ◌/◌, ◌≤◌, true, false, List, [], ◌∷◌, length, get_or, map, take, drop, refl, sym, ◌∙◌, ap, subst, arith}
use Rattle.std.specs.List.{All, slice_range}
use Rattle.std.proofs.Math.Nat.{mul-div_cancel, mul-le-mul_right}
use Rattle.std.proofs.lemmas.List.{length-drop, length-map, get_or-drop, get_or-map}
use Rattle.p3_field.specs.Field.{TwoAdic, Extension, combine}
use Rattle.p3_field.specs.Poly.{Apart, tabulate, eval_poly, eval_poly_in}
use Rattle.p3_field.specs.Domain.{point}
use Rattle.p3_field.specs.Laws.Interpolants.{interpolant_unique, points_apart}
use Rattle.p3_field.specs.Laws.SubgroupSelectors.{map_tabulate}
use Rattle.p3_field.specs.Laws.Tabulate.{tabulate_same}
use Rattle.air_core.specs.declared.cells.Cell.{Cell}
use Rattle.air_core.specs.declared.cells.Cell.TheVariants.{Main, Preprocessed, Periodic, Public, FirstRow, LastRow, Transition}
use Rattle.air_core.specs.declared.cells.ExtCell.{ExtCell}
use Rattle.air_core.specs.declared.cells.ExtCell.TheVariants.{Permutation, Challenge, Terminal}
use Rattle.air_core.specs.CellValues.{CellValues, cell_in, ext_cell_in, reading_at}
use Rattle.air_core.specs.Laws.Maps.{one_declared_value}
use Rattle.air_core.specs.Shape.{Shape, Declares, DeclaresExt, ReadsDeclared}
use Rattle.air_core.specs.Tree.{Tree, eval_tree}
use Rattle.commit_core.specs.Periodic.{IsPeriod, IsPeriodicAt, over_rows}
use Rattle.commit_core.specs.Laws.Repeated.{length_over_rows}
use Rattle.p3_uni_stark.specs.Fold.{fold}
use Rattle.p3_uni_stark.specs.Recombine.{recombined}
use Rattle.law_committed.specs.Committed.{CommittedTable, columns_at, flattened, periodic_poly, permutation_at, flattened_width, reading, row_count_of, trace_domain, committed_values_at}
use Rattle.law_committed.specs.Fields.{FieldsLaws}
use Rattle.law_committed.specs.Identity.{CommittedIdentity, CommittedQuotient, chunk_values, rows_vanishing_polynomial}
use Rattle.law_committed.specs.Opened.{AreOpened, AreOpenedRows, OpenedIdentity, recombined_values}
use Rattle.law_committed.specs.Laws.Degrees.{period_positive, periodic_interpolates, whole_periods}

module _ {F E : Type 0} (f : TwoAdic F) (e : Extension F E) (t : CommittedTable F E) (s : Shape) (v : CellValues E) (x : E) where
  -- values that are opened list by list are opened
  module _ (A : AreOpenedRows f e t s v x) where
    cells_opened : (c : Cell) → Declares s c → cell_in e.ring.zero v c ≡ cell_in e.ring.zero (committed_values_at f e t x) c
    cells_opened (Main true j) d = ap (λ l. get_or l j e.ring.zero) (A.main_next j (d.1 refl))
    cells_opened (Main false j) d = ap (λ l. get_or l j e.ring.zero) A.main_local
    cells_opened (Preprocessed true j) d = ap (λ l. get_or l j e.ring.zero) (A.preprocessed_next j (d.1 refl))
    cells_opened (Preprocessed false j) d = ap (λ l. get_or l j e.ring.zero) A.preprocessed_local
    cells_opened (Periodic j) d = ap (λ l. get_or l j e.ring.zero) A.periodic
    cells_opened (Public j) d = ap (λ l. get_or l j e.ring.zero) A.public_values
    cells_opened FirstRow d = A.first_row
    cells_opened LastRow d = A.last_row
    cells_opened Transition d = A.transition

    ext_cells_opened : (c : ExtCell) → DeclaresExt s c → ext_cell_in e.ring.zero v c ≡ ext_cell_in e.ring.zero (committed_values_at f e t x) c
    ext_cells_opened (Permutation true j) d = ap (λ l. get_or l j e.ring.zero) A.permutation_next
    ext_cells_opened (Permutation false j) d = ap (λ l. get_or l j e.ring.zero) A.permutation_local
    ext_cells_opened (Challenge j) d = ap (λ l. get_or l j e.ring.zero) A.challenges
    ext_cells_opened Terminal d = ap (λ l. get_or l 0 e.ring.zero) A.terminals

    pub opened_by_rows : AreOpened f e t s v x
    opened_by_rows = record { cells = cells_opened; ext_cells = ext_cells_opened }

  module _ (A : AreOpened f e t s v x) where
    -- trees of declared cells have their values at x by opened values
    pub opened_trees : (trees : List (Tree F)) → All (ReadsDeclared s) trees → map (eval_tree (reading_at e.ring e.embed v)) trees ≡ map (eval_tree (reading f e t x)) trees
    opened_trees [] d = refl
    opened_trees (tree ∷ trees) d =
        let same = one_declared_value e.ring e.embed (cell_in e.ring.zero v) (cell_in e.ring.zero (committed_values_at f e t x))
        (ext_cell_in e.ring.zero v) (ext_cell_in e.ring.zero (committed_values_at f e t x)) s tree A.cells A.ext_cells (d zero tree (omega arith)) in
        λ i. same i ∷ opened_trees trees (λ k u h. d (suc k) u (omega (arith, h))) i

    -- so the identity over opened values is that of the committed polynomials
    pub opened_identity : (trees : List (Tree F)) (q : CommittedQuotient F) (alpha : E) (chunks : List (List E)) → All (ReadsDeclared s) trees → chunks ≡ chunk_values f e q x
        → OpenedIdentity f e t trees q alpha x v chunks ↔ CommittedIdentity f e t trees q alpha x
    opened_identity trees q alpha chunks declared opened =
        let folds = ap (fold e.ring alpha) (opened_trees trees declared) in
        let quotients = ap (λ c. e.ring.mul (eval_poly e.ring (rows_vanishing_polynomial f e t) x) (recombined f e q.domains c x)) opened in
        (λ I. sym folds ∙ (I ∙ quotients), λ I. folds ∙ (I ∙ sym quotients))

-- the first n items of a list that has them
front_is_tabulate : {X : Type 0} (z : X) (n : ℕ) (xs : List X) → n ≤ length xs → take n xs ≡ tabulate n (λ k. get_or xs k z)
front_is_tabulate z zero xs h = refl
front_is_tabulate z (suc n) [] h = absurd (omega (arith, h))
front_is_tabulate z (suc n) (x ∷ xs) h = ap (λ l. x ∷ l) (front_is_tabulate z n xs (omega (arith, h)))

-- items a, .., a + n - 1 of a list that has them
range_is_tabulate : {X : Type 0} (z : X) (n a : ℕ) (xs : List X) → a + n ≤ length xs → slice_range xs a (a + n) ≡ tabulate n (λ k. get_or xs (a + k) z)
range_is_tabulate z n a xs h =
    let long : a + n - a ≡ n = omega arith in
    ap (λ m. take m (drop a xs)) long
    ∙ (front_is_tabulate z n (drop a xs) (omega (arith, length-drop a xs, h)) ∙ tabulate_same n (λ k. get_or (drop a xs) k z) (λ k. get_or xs (a + k) z) (λ k l. get_or-drop a xs k z))

module _ {F E : Type 0} (f : TwoAdic F) (e : Extension F E) (top : ℕ) (inverse : E → E) (L : FieldsLaws f e top inverse) (t : CommittedTable F E) where
  -- a row of values that are opened of the flattened columns is recombined to the permutation columns' values
  pub recombined_is : (row : List E) (width : ℕ) (x : E) → length t.permutation ≡ width * e.dimension → row ≡ columns_at f e t t.permutation x
      → recombined_values e row width ≡ permutation_at f e t x
  recombined_is row width x long opened =
      let D = e.dimension in
      let z = e.ring.zero in
      let wide : flattened_width f e t ≡ width = ap (λ n. n / D) long ∙ mul-div_cancel width L.vector.positive in
      let opened_long : length row ≡ width * D = ap length opened ∙ (length-map t.permutation (λ (g : List F). eval_poly_in e g x) ∙ long) in
      tabulate_same width (λ j. combine e.ring e.basis 0 (slice_range row (j * D) (j * D + D))) (λ j. combine e.ring e.basis 0 (columns_at f e t (flattened f e t j) x))
      (λ j below.
      let within : j * D + D ≤ width * D = let q : suc j * D ≤ width * D = mul-le-mul_right D below in omega (arith, q) in
      let g : ℕ → List F = λ k. get_or t.permutation (j * D + k) [] in
      ap (combine e.ring e.basis 0)
      (range_is_tabulate z D (j * D) row (omega (arith, within, opened_long))
      ∙ (tabulate_same D (λ k. get_or row (j * D + k) z) (λ k. eval_poly_in e (g k) x) (λ k l.
      ap (λ l. get_or l (j * D + k) z) opened
      ∙ get_or-map (λ (g : List F). eval_poly_in e g x) t.permutation (j * D + k) [] z (omega (arith, within, l, long)))
      ∙ sym (map_tabulate (λ g. eval_poly_in e g x) D g))))
      ∙ ap (λ n. tabulate n (λ j. combine e.ring e.basis 0 (columns_at f e t (flattened f e t j) x))) (sym wide)

  -- the value of a periodic column at x is that of its polynomial
  pub periodic_is : t.log_height ≤ top → (column : List F) (x y : E) → IsPeriod (row_count_of t) (length column)
      → IsPeriodicAt f.ring e.ring e.embed (row_count_of t) (point f.ring f.root (trace_domain f e t)) x column y → y ≡ eval_poly_in e (periodic_poly f e t column) x
  periodic_is fits column x y P I =
      let n = row_count_of t in
      let q = length column in
      let p = point f.ring f.root (trace_domain f e t) in
      let long : length (over_rows n column) ≡ n = length_over_rows n (n / q) column (whole_periods n q P) (period_positive n q P) in
      let apart : Apart n p = points_apart f.ring L.below f.inv L.below_field top f.root L.roots (trace_domain f e t) fits L.below_field.one_differs in
      let same : I.interpolant ≡ periodic_poly f e t column =
      interpolant_unique f.ring L.below f.inv L.below_field p (over_rows n column) I.interpolant (periodic_poly f e t column)
      (subst (λ m. Apart m p) (sym long) apart) I.interpolates (periodic_interpolates f e top inverse L t fits column P) in
      I.value_is ∙ ap (λ g. eval_poly_in e g x) same
