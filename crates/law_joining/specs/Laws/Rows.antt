-- Constraints that read this row's main cells alone: a trace meets them where each of its rows does, read as a check of rows reads it. They fit the chunks of their
-- quotient, with any lookups.
use Rattle.std.proofs.Common.{◌≡◌, ℕ, ◌+◌, ◌^◌, ◌<◌, ◌≤◌, true, false, List, [], length, get_or, map, sym, ◌∙◌, ap, arith}
use Rattle.std.specs.Prelude.{All}
use Rattle.std.proofs.Math.ListN.{get_or-map}
use Rattle.p3_field.specs.Field.{TwoAdic, Extension}
use Rattle.air_core.specs.CellValues.{cell_in, ext_cell_in}
use Rattle.air_core.specs.Check.{table_row}
use Rattle.air_core.specs.declared.cells.Cell.{Cell}
use Rattle.air_core.specs.declared.cells.Cell.TheVariants.{Main, Preprocessed, Periodic, Public, FirstRow, LastRow, Transition}
use Rattle.air_core.specs.Laws.Maps.{hom_keeps, reads_more, value_along}
use Rattle.air_core.specs.Maps.{reading_over}
use Rattle.air_core.specs.RowCheck.{Row, cell_value, ext_cell_value, tree_value_at_row}
use Rattle.air_core.specs.Tree.{Tree, eval_tree}
use Rattle.batch_config.specs.Setting.{Setting}
use Rattle.batch_constraints.specs.BatchTrees.{AreLookupsOf}
use Rattle.batch_constraints.specs.Fitting.{cell_transitions}
use Rattle.law_committed.specs.BaseRows.{IsMainHere, ReadsMainHere}
use Rattle.law_committed.specs.Committed.{CommittedTable, columns_at, committed_values_at, reading, row_point}
use Rattle.law_committed.specs.Fields.{FieldsLaws}
use Rattle.law_committed.specs.Laws.Rows.{reads_rows}
use Rattle.law_committed.specs.Laws.Traces.{traces_committed}
use Rattle.law_valid.specs.Traced.{TracedTable, committed_alone, declared, log_rows, no_rows, traces_of}
use Rattle.law_valid.specs.Valid.{AllFit, HasQuotientDomain, IsTraced, OwnHold}
use Rattle.law_joining.specs.Laws.Fits.{HasFewFactors, few_factors_fit, no_factors}

-- at row i of a committed table, whose main columns have there the main cells of a row below
module _ {F E : Type 0} (f : TwoAdic F) (e : Extension F E) (top : ℕ) (inverse : E → E) (L : FieldsLaws f e top inverse) (t : CommittedTable F E) (i : ℕ) (row : Row F F)
    (is : columns_at f e t t.main (row_point f e t i) ≡ map e.embed row.main_local) where
  abbrev above : Cell → E
  above c = cell_in e.ring.zero (committed_values_at f e t (row_point f e t i)) c

  cell_agrees : (c : Cell) → IsMainHere c → e.embed (cell_value f.ring row c) ≡ above c
  cell_agrees (Main true column) h = absurd h
  cell_agrees (Main false column) h =
      sym (get_or-map e.embed row.main_local column f.ring.zero)
      ∙ (ap (get_or (map e.embed row.main_local) column) L.embeds.keeps_zero ∙ ap (λ l. get_or l column e.ring.zero) (sym is))
  cell_agrees (Preprocessed next column) h = absurd h
  cell_agrees (Periodic k) h = absurd h
  cell_agrees (Public k) h = absurd h
  cell_agrees FirstRow h = absurd h
  cell_agrees LastRow h = absurd h
  cell_agrees Transition h = absurd h

  value_agrees : (tree : Tree F) → ReadsMainHere tree → e.embed (tree_value_at_row f.ring f.ring (λ y. y) row tree) ≡ eval_tree (reading f e t (row_point f e t i)) tree
  value_agrees tree reads =
      let below = cell_value f.ring row in
      let below_ext = ext_cell_value f.ring.zero row in
      let above_ext = ext_cell_in e.ring.zero (committed_values_at f e t (row_point f e t i)) in
      value_along (reading_over f.ring (λ y. y) below below_ext) (reading_over e.ring e.embed above above_ext) e.embed
      (hom_keeps f.ring L.below e.ring L.above e.embed L.embeds (λ y. y) below above below_ext above_ext) tree
      (reads_more IsMainHere (λ c. e.embed (below c) ≡ above c) (λ _. ⊥) (λ c. e.embed (below_ext c) ≡ above_ext c) cell_agrees (λ c h. absurd h) tree reads)

  zero_above : (trees : List (Tree F)) → All ReadsMainHere trees → All (λ tree. tree_value_at_row f.ring f.ring (λ y. y) row tree ≡ f.ring.zero) trees
      → All (λ tree. eval_tree (reading f e t (row_point f e t i)) tree ≡ e.ring.zero) trees
  zero_above trees reads zero k d l = sym (value_agrees (get_or trees k d) (reads k d l)) ∙ (ap e.embed (zero k d l) ∙ L.embeds.keeps_zero)

-- a main cell is no selector
main_none : (c : Cell) → IsMainHere c → cell_transitions c ≡ 0
main_none (Main next column) h = omega arith
main_none (Preprocessed next column) h = omega arith
main_none (Periodic k) h = omega arith
main_none (Public k) h = omega arith
main_none FirstRow h = omega arith
main_none LastRow h = omega arith
main_none Transition h = absurd h

module _ {S F E C : Type 0} (c : Setting S F E C) (t : TracedTable F) (reads : All ReadsMainHere t.table.trees) where
  -- the table of a trace meets the constraints, where each of its rows does
  pub rows_hold : (inverse : E → E) → FieldsLaws c.field c.extension c.two_adicity inverse → IsTraced c t → HasQuotientDomain c t
      → ((i : ℕ) → i < 2 ^ log_rows c t
      → All (λ tree. tree_value_at_row c.field.ring c.field.ring (λ x. x) (table_row c.field.ring.zero (traces_of t) i) tree ≡ c.field.ring.zero) t.table.trees)
      → OwnHold c t
  rows_hold inverse L T Q zero i h =
      let k = committed_alone c t in
      let low : log_rows c t ≤ c.two_adicity = let q = Q.fits in omega (arith, q) in
      let commits = traces_committed c.field c.extension c.two_adicity inverse L (log_rows c t) low (traces_of t) no_rows [] [] T.rows in
      zero_above c.field c.extension c.two_adicity inverse L k i (table_row c.field.ring.zero (traces_of t) i)
      (reads_rows c.field c.extension c.two_adicity inverse L k low (traces_of t) no_rows commits i h).main_local t.table.trees reads (zero i h)

  -- and all constraints fit, those of its lookups among them
  pub rows_fit : c.zk ≡ false → AreLookupsOf (declared t) t.lookups → (declared t).periodic ≡ [] → AllFit c t
  rows_fit plain = few_factors_fit c plain t (λ k d l. few (get_or t.table.trees k d) (reads k d l))
    where
      few : (tree : Tree F) → ReadsMainHere tree → HasFewFactors tree
      few tree h =
          let none = no_factors tree (reads_more IsMainHere (λ x. cell_transitions x ≡ 0) (λ _. ⊥) (λ _. Unit {0}) main_none (λ x w. tt) tree h) in
          omega (arith, none)
