-- A committed table whose permutation columns were generated has constraints of its lookups that are zero on every row.
use Rattle.std.proofs.Common.{◌≡◌, ℕ, suc, ◌+◌, ◌%◌, ◌<◌, ◌≤◌, true, false, List, [], ◌∷◌, ◌++◌, length, get_or, map, refl, sym, ◌∙◌, ap, arith}
use Rattle.std.specs.Prelude.{All, Ok}
use Rattle.std.proofs.Math.ListN.{get_or-map}
use Rattle.std.proofs.lemmas.List.Elements.{All-append}
use Rattle.std.proofs.lemmas.Nat.{mod_below}
use Rattle.p3_field.specs.Field.{TwoAdic, Extension}
use Rattle.p3_matrix.specs.Matrix.{Rows, height, row_at}
use Rattle.p3_matrix.specs.Laws.Transposed.{get_or-row_at}
use Rattle.air_core.specs.declared.cells.Cell.{Cell}
use Rattle.air_core.specs.declared.cells.Cell.TheVariants.{Main, Preprocessed, Periodic, Public, FirstRow, LastRow, Transition}
use Rattle.air_core.specs.declared.cells.ExtCell.{ExtCell}
use Rattle.air_core.specs.CellValues.{cell_in, ext_cell_in}
use Rattle.air_core.specs.Check.{TableTraces, table_row, table_traces}
use Rattle.air_core.specs.RowCheck.{cell_value, ext_cell_value}
use Rattle.air_core.specs.Shape.{Declares, IsSendable}
use Rattle.air_core.specs.Tree.{Tree, eval_tree}
use Rattle.p3_lookup.specs.declared.terminal.LookupTerminal.{LookupTerminal}
use Rattle.p3_lookup.specs.Generated.{IsGenerated, argument_over, sent_shape}
use Rattle.p3_lookup.specs.Honest.{Argument, honest_cell}
use Rattle.p3_lookup.specs.Lookup.{IsLookup, LookupData}
use Rattle.p3_lookup.specs.Rows.{AreHonestRows, AreSelectors, IsHonestRow}
use Rattle.p3_lookup.specs.Trees.{lookup_trees}
use Rattle.p3_lookup.specs.Laws.Agreement.{agree_sent}
use Rattle.p3_lookup.specs.Laws.Vanish.{trees_vanish}
use Rattle.law_committed.specs.Committed.{CommittedTable, Holds, row, row_point, row_count_of, committed_values_at}
use Rattle.law_committed.specs.Fields.{FieldsLaws}
use Rattle.law_committed.specs.Rows.{AreOfRow, CommitsTo, row_of_traces}
use Rattle.law_committed.specs.Laws.Rows.{reads_rows}
use Rattle.law_committed.specs.Laws.Selectors.{first_elsewhere, last_elsewhere, transition_last}

module _ {F E : Type 0} (f : TwoAdic F) (e : Extension F E) (top : ℕ) (inverse : E → E) (L : FieldsLaws f e top inverse) (t : CommittedTable F E) (fits : t.log_height ≤ top)
    (traces : TableTraces F) (columns : Rows E) (C : CommitsTo f e t traces columns) (lookups : List (LookupData F)) (terminal : LookupTerminal E) (last : t.terminals ≡ terminal.0 ∷ []) where
  -- what fixes the permutation columns
  abbrev p : Argument F E
  p = argument_over f.ring e.ring inverse e.embed traces.main traces.preprocessed traces.public_values lookups t.challenges

  abbrev n : ℕ
  n = height traces.main

  abbrev at : ℕ → Cell → E
  at i c = cell_in e.ring.zero (committed_values_at f e t (row_point f e t i)) c

  abbrev at_ext : ℕ → ExtCell → E
  at_ext i c = ext_cell_in e.ring.zero (committed_values_at f e t (row_point f e t i)) c

  within : (i : ℕ) → i < n → i < row_count_of t
  within i h = let r = C.tall in omega (arith, h, r)

  reads : (i : ℕ) → i < n → AreOfRow e (row_of_traces f.ring.zero traces columns t.challenges t.terminals i) (committed_values_at f e t (row_point f e t i))
  reads i h = reads_rows f e top inverse L t fits traces columns C i (within i h)

  selectors : AreSelectors e.ring.zero n at
  selectors = record {
    first = λ i pos h. first_elsewhere f e top inverse L t fits i pos (within i h);
    last = λ i h. let r = C.tall in last_elsewhere f e top inverse L t fits i (omega (arith, h, r));
    transition = λ i h. transition_last f e top inverse L t fits i (h ∙ C.tall);
  }

  -- an item of embedded values, also past the end
  embedded_item : (values : List E) (xs : List F) (j : ℕ) → values ≡ map e.embed xs → get_or values j e.ring.zero ≡ e.embed (get_or xs j f.ring.zero)
  embedded_item values xs j same =
      ap (λ l. get_or l j e.ring.zero) same ∙ (ap (get_or (map e.embed xs) j) (sym L.embeds.keeps_zero) ∙ get_or-map e.embed xs j f.ring.zero)

  agree : (i : ℕ) → i < n → (c : Cell) → Declares (sent_shape traces.main traces.preprocessed traces.public_values) c → IsSendable c
      → at i c ≡ e.embed (cell_value f.ring (table_row f.ring.zero (table_traces traces.main traces.preprocessed [] traces.public_values) i) c)
  agree i h (Main true j) d s = embedded_item (committed_values_at f e t (row_point f e t i)).main_next (row_at traces.main ((i + 1) % n)) j (reads i h).main_next
  agree i h (Main false j) d s = embedded_item (committed_values_at f e t (row_point f e t i)).main_local (row_at traces.main i) j (reads i h).main_local
  agree i h (Preprocessed true j) d s = embedded_item (committed_values_at f e t (row_point f e t i)).preprocessed_next _ j (reads i h).preprocessed_next
  agree i h (Preprocessed false j) d s = embedded_item (committed_values_at f e t (row_point f e t i)).preprocessed_local _ j (reads i h).preprocessed_local
  agree i h (Periodic j) d s = absurd s
  agree i h (Public j) d s = embedded_item (committed_values_at f e t (row_point f e t i)).public_values traces.public_values j (reads i h).public_values
  agree i h FirstRow d s = absurd s
  agree i h LastRow d s = absurd s
  agree i h Transition d s = absurd s

  module _ (made : IsGenerated p n (Ok (columns, terminal))) where
    cells : (i c : ℕ) → i < n → c < suc (length lookups) → get_or (row_at columns i) c e.ring.zero ≡ honest_cell p i c
    cells i c h lt = get_or-row_at columns i c e.ring.zero (omega (arith, lt, made.0)) ∙ made.2 i c h (omega (arith, lt))

    honest : (i : ℕ) → i < n → IsHonestRow p n i (at_ext i)
    honest i h = record {
      current = λ c lt. ap (λ l. get_or l c e.ring.zero) (reads i h).permutation_local ∙ cells i c h lt;
      next = λ c lt. ap (λ l. get_or l c e.ring.zero) (reads i h).permutation_next ∙ cells ((i + 1) % n) c (mod_below (i + 1) n (omega (arith, h))) lt;
      challenge = λ k lt. refl;
      terminal = ap (λ l. get_or l 0 e.ring.zero) last ∙ made.3;
    }

    honest_rows : All (IsLookup (sent_shape traces.main traces.preprocessed traces.public_values)) lookups → AreHonestRows e.embed p n at at_ext
    honest_rows fit = record {
      selectors = selectors;
      honest = honest;
      agrees = λ i h k d lt.
          let r = table_row f.ring.zero (table_traces traces.main traces.preprocessed [] traces.public_values) i in
          agree_sent f.ring L.below e.ring L.above e.embed L.embeds (sent_shape traces.main traces.preprocessed traces.public_values)
          (cell_value f.ring r) (ext_cell_value f.ring.zero r) (at i) (at_ext i) (agree i h) (get_or lookups k d) (fit k d lt).reads;
    }

    pub lookups_hold : All (IsLookup (sent_shape traces.main traces.preprocessed traces.public_values)) lookups → Holds f e t (lookup_trees f.ring lookups)
    lookups_hold fit i h =
        let r = C.tall in
        let low : i < n = omega (arith, h, r) in
        trees_vanish f.ring e.embed p L.above L.above_field L.embeds n at at_ext (honest_rows fit) i low (made.4 i low)

    -- and with the table's other trees all hold
    pub table_holds : (trees : List (Tree F)) → Holds f e t trees → All (IsLookup (sent_shape traces.main traces.preprocessed traces.public_values)) lookups
        → Holds f e t (trees ++ lookup_trees f.ring lookups)
    table_holds trees own fit i h =
        All-append (λ tree. eval_tree (row f e t i) tree ≡ e.ring.zero) trees (lookup_trees f.ring lookups) (own i h) (lookups_hold fit i h)
