-- A committed table that holds and whose first constraints are the swap table's: its last right cell is known.
use Rattle.std.proofs.Common.{◌≡◌, ℕ, zero, suc, ◌+◌, ◌-◌, ◌^◌, ◌<◌, ◌≤◌, true, false, List, ◌++◌, get_or, refl, sym, ◌∙◌, ap, subst, arith}
use Rattle.std.proofs.lemmas.Nat.{pow_pos}
use Rattle.std.proofs.lemmas.List.{get_or_append_left, length-append}
use Rattle.p3_field.specs.Ring.{sub}
use Rattle.p3_field.specs.Field.{TwoAdic, Extension}
use Rattle.p3_field.specs.Laws.Coset.{double_power}
use Rattle.p3_field.specs.Laws.Roots.{sub_zero, field_no_zero_divisors}
use Rattle.air_core.specs.CellValues.{cell_in}
use Rattle.air_core.specs.declared.cells.Cell.{Cell}
use Rattle.air_core.specs.declared.cells.Cell.TheVariants.{Main, Public, FirstRow, LastRow, Transition}
use Rattle.air_core.specs.Tree.{Tree, eval_tree}
use Rattle.air_tables.specs.Swap.{equal_when, swap_trees}
use Rattle.law_committed.specs.Committed.{CommittedTable, Holds, row, row_point, row_count_of, committed_values_at}
use Rattle.law_committed.specs.Fields.{FieldsLaws}
use Rattle.law_committed.specs.Laws.BaseRows.{known, next_cell, public_is}
use Rattle.law_committed.specs.Laws.Selectors.{first_here, last_here, transition_before}
use Rattle.law_soundness.specs.Swapped.{EndsSwapped, swap_publics}

-- where a table holds with more constraints after these, it holds with these
pub holds_before : {F E : Type 0} (f : TwoAdic F) (e : Extension F E) (t : CommittedTable F E) (xs ys : List (Tree F)) → Holds f e t (xs ++ ys) → Holds f e t xs
holds_before f e t xs ys h i below k u l =
    let long = length-append xs ys in
    subst (λ tree. eval_tree (row f e t i) tree ≡ e.ring.zero) (get_or_append_left xs ys u k l) (h i below k u (omega (arith, l, long)))

module _ {F E : Type 0} (f : TwoAdic F) (e : Extension F E) (top : ℕ) (inverse : E → E) (L : FieldsLaws f e top inverse) (t : CommittedTable F E) (fits : t.log_height ≤ top) (a b x : F)
    (publics : t.public_values ≡ swap_publics a b x) (holds : Holds f e t swap_trees) where
  abbrev at : ℕ → Cell → E
  at i c = cell_in e.ring.zero (committed_values_at f e t (row_point f e t i)) c

  -- where an equation holds under a selector that isn't zero, its sides are equal
  equal_there : (i : ℕ) (c y z : Cell) → (at i c ≡ e.ring.zero → ⊥) → eval_tree (row f e t i) (equal_when c y z) ≡ e.ring.zero → at i y ≡ at i z
  equal_there i c y z nz w =
      sub_zero e.ring L.above (at i y) (at i z) (field_no_zero_divisors e.ring L.above inverse L.above_field (at i c) (sub e.ring (at i y) (at i z)) nz w)

  -- the cell of a public value
  public_at : (i n : ℕ) → at i (Public n) ≡ e.embed (get_or (swap_publics a b x) n f.ring.zero)
  public_at i n = public_is f e top inverse L t fits i n ∙ ap (λ l. e.embed (get_or l n f.ring.zero)) publics

  -- rows 2 m and 2 m + 1
  record IsPair (m : ℕ) : Type 0 where
    pub even_left : at (m + m) (Main false 0) ≡ e.embed a
    pub even_right : at (m + m) (Main false 1) ≡ e.embed b
    pub odd_left : m + m + 1 < row_count_of t → at (m + m + 1) (Main false 0) ≡ e.embed b
    pub odd_right : m + m + 1 < row_count_of t → at (m + m + 1) (Main false 1) ≡ e.embed a

  swapped_left : (i : ℕ) (v : E) → i + 1 < row_count_of t → at i (Main false 1) ≡ v → at (i + 1) (Main false 0) ≡ v
  swapped_left i v l w =
      sym (next_cell f e top inverse L t fits i 0 l)
      ∙ (equal_there i Transition (Main true 0) (Main false 1) (transition_before f e top inverse L t fits i l)
      (holds i (omega (arith, l)) 2 (equal_when Transition (Main true 0) (Main false 1)) (omega arith)) ∙ w)

  swapped_right : (i : ℕ) (v : E) → i + 1 < row_count_of t → at i (Main false 0) ≡ v → at (i + 1) (Main false 1) ≡ v
  swapped_right i v l w =
      sym (next_cell f e top inverse L t fits i 1 l)
      ∙ (equal_there i Transition (Main true 1) (Main false 0) (transition_before f e top inverse L t fits i l)
      (holds i (omega (arith, l)) 3 (equal_when Transition (Main true 1) (Main false 0)) (omega arith)) ∙ w)

  odd_pair : (m : ℕ) → at (m + m) (Main false 0) ≡ e.embed a → at (m + m) (Main false 1) ≡ e.embed b → IsPair m
  odd_pair m left right = record {
    even_left = left;
    even_right = right;
    odd_left = λ l. swapped_left (m + m) (e.embed b) l right;
    odd_right = λ l. swapped_right (m + m) (e.embed a) l left;
  }

  pair : (m : ℕ) → m + m < row_count_of t → IsPair m
  pair zero l =
      let some : 0 < row_count_of t = pow_pos t.log_height in
      odd_pair zero
      (equal_there 0 FirstRow (Main false 0) (Public 0) (first_here f e top inverse L t fits) (holds 0 some 0 (equal_when FirstRow (Main false 0) (Public 0)) (omega arith)) ∙ public_at 0 0)
      (equal_there 0 FirstRow (Main false 1) (Public 1) (first_here f e top inverse L t fits) (holds 0 some 1 (equal_when FirstRow (Main false 1) (Public 1)) (omega arith)) ∙ public_at 0 1)
  pair (suc m) l =
      let before = pair m (omega (arith, l)) in
      let next : (m + m + 1) + 1 ≡ suc m + suc m = omega arith in
      let odd : m + m + 1 < row_count_of t = omega (arith, l) in
      let even : (m + m + 1) + 1 < row_count_of t = omega (arith, l) in
      odd_pair (suc m)
      (ap (λ i. at i (Main false 0)) (sym next) ∙ swapped_left (m + m + 1) (e.embed a) even (before.odd_right odd))
      (ap (λ i. at i (Main false 1)) (sym next) ∙ swapped_right (m + m + 1) (e.embed b) even (before.odd_left odd))

  -- the last right cell is the public value x
  last_is_public : (i : ℕ) → i + 1 ≡ row_count_of t → at i (Main false 1) ≡ e.embed x
  last_is_public i w =
      let low : i < row_count_of t = omega (arith, w) in
      equal_there i LastRow (Main false 1) (Public 2) (last_here f e top inverse L t fits i w) (holds i low 4 (equal_when LastRow (Main false 1) (Public 2)) (omega arith)) ∙ public_at i 2

  one_row_ends : t.log_height ≡ 0 → x ≡ b
  one_row_ends none =
      let one : row_count_of t ≡ 1 = ap (λ z. 2 ^ z) none in
      known f e top inverse L t x b (sym (last_is_public 0 (sym one)) ∙ (pair 0 (omega (arith, one))).even_right)

  more_rows_end : 0 < t.log_height → x ≡ a
  more_rows_end more =
      let at : suc (t.log_height - 1) ≡ t.log_height = omega (arith, more) in
      let half : row_count_of t ≡ 2 ^ (t.log_height - 1) + 2 ^ (t.log_height - 1) = ap (λ z. 2 ^ z) (sym at) ∙ double_power (t.log_height - 1) in
      let pos : 0 < 2 ^ (t.log_height - 1) = pow_pos (t.log_height - 1) in
      let m = 2 ^ (t.log_height - 1) - 1 in
      let last : (m + m + 1) + 1 ≡ row_count_of t = omega (arith, half, pos) in
      known f e top inverse L t x a (sym (last_is_public (m + m + 1) last) ∙ (pair m (omega (arith, last))).odd_right (omega (arith, last)))

  -- So x is b in a table of one row, and a in a larger one.
  pub swap_ends : EndsSwapped t.log_height a b x
  swap_ends = ends t.log_height one_row_ends more_rows_end
    where
      ends : {F : Type 0} {a b x : F} (k : ℕ) → (k ≡ 0 → x ≡ b) → (0 < k → x ≡ a) → EndsSwapped k a b x
      ends zero one more = one refl
      ends (suc k) one more = more (omega arith)
