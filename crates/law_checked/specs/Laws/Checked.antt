-- Where a check of rows finds nothing, a table's constraints hold, if their selectors are factors.
use Rattle.std.proofs.Common.{◌≡◌, ℕ, ◌+◌, ◌<◌, ◌≤◌, inl, inr, Bool, true, false, cond, List, [], length, get_or, map, refl, sym, ◌∙◌, ap, arith}
use Rattle.std.specs.Prelude.{All}
use Rattle.std.proofs.Math.ListN.{get_or-map}
use Rattle.std.proofs.lemmas.List.{get_or_append_left, get_or-map as get_or-map-within, length-append, length-map}
use Rattle.p3_field.specs.Field.{TwoAdic, Extension}
use Rattle.p3_field.specs.Laws.Algebra.{mul_zero, zero_mul}
use Rattle.p3_field.specs.Laws.Roots.{field_no_zero_divisors}
use Rattle.p3_matrix.specs.Matrix.{Rows, height}
use Rattle.air_core.specs.CellValues.{CellValues, cell_in, ext_cell_in}
use Rattle.air_core.specs.declared.cells.Cell.{Cell}
use Rattle.air_core.specs.declared.cells.Cell.TheVariants.{Main, Preprocessed, Periodic, Public, FirstRow, LastRow, Transition}
use Rattle.air_core.specs.Laws.Maps.{one_value, reads_more}
use Rattle.air_core.specs.RowCheck.{Row, cell_value, ext_cell_value, tree_value_at_row}
use Rattle.air_core.specs.Tree.{Tree, constant, cell, ext_cell, sum, difference, product, eval_tree}
use Rattle.p3_field.specs.Domain.{CosetData}
use Rattle.p3_lookup.specs.Bound.{HaveLoadsBelow}
use Rattle.p3_lookup.specs.Lookup.{LookupData}
use Rattle.p3_lookup.specs.Trees.{lookup_trees}
use Rattle.batch_check.specs.BatchCheck.{CheckedTable, HoldsInRow, batch_row, checked_table}
use Rattle.batch_config.specs.Setting.{Setting, masks}
use Rattle.batch_statement.specs.Statement.{Statement}
use Rattle.verifier_shape.specs.ShapeChecks.{heights_of}
use Rattle.batch_constraints.specs.BatchTrees.{table_trees}
use Rattle.law_committed.specs.Committed.{committed_values_at, row_point}
use Rattle.law_committed.specs.Fields.{FieldsLaws}
use Rattle.law_committed.specs.Laws.Rows.{reads_rows}
use Rattle.law_committed.specs.Laws.Traces.{traces_committed}
use Rattle.law_valid.specs.Traced.{TracedTable, all_traced, committed_alone, log_rows, no_rows, traced_at, traces_of}
use Rattle.law_valid.specs.Valid.{AllFit, AreBalanced, HasQuotientDomain, IsTraced, IsTracedBatch, OwnHold, Valid}
use Rattle.law_checked.specs.Factors.{HasSelectorsAsFactors, IsUnselected, ReadsUnselected}
use Rattle.law_checked.specs.Found.{FindsNothing, HasSelectorsAsFactorsAll}

-- values above the field that are those of a row below, but for selectors
module _ {F E : Type 0} (f : TwoAdic F) (e : Extension F E) (top : ℕ) (inverse : E → E) (L : FieldsLaws f e top inverse) (r : Row F E) (v : CellValues E)
    (main_local : v.main_local ≡ map e.embed r.main_local) (main_next : v.main_next ≡ map e.embed r.main_next)
    (preprocessed_local : v.preprocessed_local ≡ map e.embed r.preprocessed_local) (preprocessed_next : v.preprocessed_next ≡ map e.embed r.preprocessed_next)
    (periodic : v.periodic ≡ map e.embed r.periodic) (public_values : v.public_values ≡ map e.embed r.public_values)
    (first : r.is_first_row ≡ false → v.first_row ≡ e.ring.zero) (last : r.is_last_row ≡ false → v.last_row ≡ e.ring.zero)
    (transition : r.is_last_row ≡ true → v.transition ≡ e.ring.zero) where
  abbrev below : Cell → E
  below c = e.embed (cell_value f.ring r c)

  abbrev above : Cell → E
  above c = cell_in e.ring.zero v c

  abbrev checked_value : Tree F → E
  checked_value tree = tree_value_at_row f.ring e.ring e.embed r tree

  abbrev committed_value : Tree F → E
  committed_value tree = eval_tree (record { from = e.embed; add = e.ring.add; sub = λ x y. e.ring.add x (e.ring.neg y); mul = e.ring.mul; at = above; at_ext = ext_cell_in e.ring.zero v }) tree

  item_is : (xs : List F) (ys : List E) → ys ≡ map e.embed xs → (k : ℕ) → e.embed (get_or xs k f.ring.zero) ≡ get_or ys k e.ring.zero
  item_is xs ys is k = sym (get_or-map e.embed xs k f.ring.zero) ∙ (ap (get_or (map e.embed xs) k) L.embeds.keeps_zero ∙ ap (λ l. get_or l k e.ring.zero) (sym is))

  cell_agrees : (c : Cell) → IsUnselected c → below c ≡ above c
  cell_agrees (Main true column) h = item_is r.main_next v.main_next main_next column
  cell_agrees (Main false column) h = item_is r.main_local v.main_local main_local column
  cell_agrees (Preprocessed true column) h = item_is r.preprocessed_next v.preprocessed_next preprocessed_next column
  cell_agrees (Preprocessed false column) h = item_is r.preprocessed_local v.preprocessed_local preprocessed_local column
  cell_agrees (Periodic k) h = item_is r.periodic v.periodic periodic k
  cell_agrees (Public k) h = item_is r.public_values v.public_values public_values k
  cell_agrees FirstRow h = absurd h
  cell_agrees LastRow h = absurd h
  cell_agrees Transition h = absurd h

  value_agrees : (tree : Tree F) → ReadsUnselected tree → checked_value tree ≡ committed_value tree
  value_agrees tree reads =
      let at_ext = ext_cell_in e.ring.zero v in
      let before = ext_cell_value e.ring.zero r in
      one_value e.ring e.embed below above before at_ext tree
      (reads_more IsUnselected (λ c. below c ≡ above c) (λ _. ⊥) (λ c. before c ≡ at_ext c) cell_agrees (λ c h. absurd h) tree reads)

  -- one isn't zero above the field
  not_one : e.embed f.ring.one ≡ e.ring.zero → ⊥
  not_one h = L.above_field.one_differs (sym L.embeds.keeps_one ∙ h)

  off : (b : Bool) → e.embed (cond b f.ring.one f.ring.zero) ≡ e.ring.zero → b ≡ false
  off true h = absurd (not_one h)
  off false h = refl

  on : (b : Bool) → e.embed (cond b f.ring.zero f.ring.one) ≡ e.ring.zero → b ≡ true
  on true h = refl
  on false h = absurd (not_one h)

  cell_zero : (c : Cell) → below c ≡ e.ring.zero → above c ≡ e.ring.zero
  cell_zero (Main next column) z = sym (cell_agrees (Main next column) tt) ∙ z
  cell_zero (Preprocessed next column) z = sym (cell_agrees (Preprocessed next column) tt) ∙ z
  cell_zero (Periodic k) z = sym (cell_agrees (Periodic k) tt) ∙ z
  cell_zero (Public k) z = sym (cell_agrees (Public k) tt) ∙ z
  cell_zero FirstRow z = first (off r.is_first_row z)
  cell_zero LastRow z = last (off r.is_last_row z)
  cell_zero Transition z = transition (on r.is_last_row z)

  -- so a constraint that the check finds to be zero is zero of the committed table
  pub zero_moves : (tree : Tree F) → HasSelectorsAsFactors tree → checked_value tree ≡ e.ring.zero → committed_value tree ≡ e.ring.zero
  zero_moves (constant x) h z = z
  zero_moves (cell c) h z = cell_zero c z
  zero_moves (ext_cell c) h z = absurd h
  zero_moves (sum x y) h z = sym (value_agrees (sum x y) h) ∙ z
  zero_moves (difference x y) h z = sym (value_agrees (difference x y) h) ∙ z
  zero_moves (product x y) h z = elim (L.above_decided (checked_value x) e.ring.zero) [
    | inl here ↦ ap (λ u. e.ring.mul u (committed_value y)) (zero_moves x h.0 here) ∙ zero_mul e.ring L.above (committed_value y)
    | inr other ↦
        let there : checked_value y ≡ e.ring.zero = field_no_zero_divisors e.ring L.above inverse L.above_field (checked_value x) (checked_value y) other z in
        ap (λ u. e.ring.mul (committed_value x) u) (zero_moves y h.1 there) ∙ mul_zero e.ring L.above (committed_value x)
  ]

module _ {S F E C : Type 0} (c : Setting S F E C) (inverse : E → E) (L : FieldsLaws c.field c.extension c.two_adicity inverse) (t : TracedTable F) (T : IsTraced c t) (Q : HasQuotientDomain c t)
    (factors : All HasSelectorsAsFactors t.table.trees) (lookups : List (LookupData F)) (columns : Rows E) (challenges terminals : List E) where
  abbrev checked : CheckedTable F E
  checked = checked_table (traces_of t) lookups columns challenges terminals

  low : log_rows c t ≤ c.two_adicity
  low = let q = Q.fits in omega (arith, q)

  own_zero : (i : ℕ) → HoldsInRow c.field.ring c.extension.ring c.extension.embed checked t.table.trees i
      → (k : ℕ) (d : Tree F) → k < length t.table.trees → tree_value_at_row c.field.ring c.extension.ring c.extension.embed (batch_row c.field.ring.zero checked i) (get_or t.table.trees k d) ≡ c.extension.ring.zero
  own_zero i h k d l =
      let f = c.field.ring in
      let e = c.extension.ring in
      let trees = t.table.trees in
      let all = table_trees f trees lookups in
      let value : Tree F → E = tree_value_at_row f e c.extension.embed (batch_row f.zero checked i) in
      let many : length all ≡ length trees + length (lookup_trees f lookups) = length-append trees (lookup_trees f lookups) in
      let within : k < length all = omega (arith, l, many) in
      let there : k < length (map value all) = let n = length-map all value in omega (arith, within, n) in
      ap value (sym (get_or_append_left trees (lookup_trees f lookups) d k l))
      ∙ (sym (get_or-map-within value all k d e.zero within) ∙ h k e.zero there)

  pub checked_holds : ((i : ℕ) → i < height t.trace → HoldsInRow c.field.ring c.extension.ring c.extension.embed checked t.table.trees i) → OwnHold c t
  checked_holds all i h k d l =
      let e = c.extension in
      let commits = traces_committed c.field e c.two_adicity inverse L (log_rows c t) low (traces_of t) no_rows [] [] T.rows in
      let R = reads_rows c.field e c.two_adicity inverse L (committed_alone c t) low (traces_of t) no_rows commits i h in
      let tall = T.rows.tall in
      let within : i < height t.trace = omega (arith, h, tall) in
      zero_moves c.field e c.two_adicity inverse L (batch_row c.field.ring.zero checked i) (committed_values_at c.field e (committed_alone c t) (row_point c.field e (committed_alone c t) i))
      R.main_local R.main_next R.preprocessed_local R.preprocessed_next R.periodic R.public_values R.first_row.1 R.last_row.1 R.transition.1
      (get_or t.table.trees k d) (factors k d l) (own_zero i (all i within) k d l)

-- so where the check of rows finds nothing, the constraints of the table's AIR hold
pub found_holds : {S F E C : Type 0} (c : Setting S F E C) (inverse : E → E) → FieldsLaws c.field c.extension c.two_adicity inverse → (t : TracedTable F) → IsTraced c t → HasQuotientDomain c t
    → HasSelectorsAsFactorsAll t → FindsNothing c t → OwnHold c t
found_holds c inverse L t T Q factors N = checked_holds c inverse L t T Q factors N.lookups N.columns N.challenges N.terminals N.checked.1

-- A traced batch is valid where the check finds nothing on each table, all constraints fit their chunks, no bus is overloaded, and what is sent balances.
pub checked_valid : {S F E C : Type 0} (c : Setting S F E C) (inverse : E → E) → FieldsLaws c.field c.extension c.two_adicity inverse → (eq : F → F → Bool) (commitment_of : List (CosetData F × Rows F) → C)
    (s : Statement F C) (traces : List (Rows F)) (degree_bits : List ℕ) → IsTracedBatch c commitment_of s traces degree_bits
    → ((i : ℕ) → i < length s.tables → HasSelectorsAsFactorsAll (traced_at s traces degree_bits i)) → ((i : ℕ) → i < length s.tables → FindsNothing c (traced_at s traces degree_bits i))
    → ((i : ℕ) → i < length s.tables → AllFit c (traced_at s traces degree_bits i)) → HaveLoadsBelow c.order s.common.lookups (heights_of (masks c) degree_bits (length s.tables))
    → AreBalanced c eq (all_traced s traces degree_bits) → Valid c eq commitment_of s traces degree_bits
checked_valid c inverse L eq commitment_of s traces degree_bits B factors found fits bounded balanced = record {
  batch = B;
  holds = λ i h. found_holds c inverse L (traced_at s traces degree_bits i) (B.traced i h) (B.domains i h) (factors i h) (found i h);
  fits = fits;
  bounded = bounded;
  balanced = balanced;
}
