-- The generated permutation columns meet the constraints of the lookups in each row of the table.
use Rattle.std.proofs.Common.{◌≡◌, ◌≢◌, ℕ, suc, ◌+◌, ◌%◌, ◌<◌, inl, inr, true, false, cond, List, [], length, get_or, refl, ◌∙◌, ap, arith}
use Rattle.std.specs.Prelude.{All, nat_eq, Ok}
use Rattle.std.proofs.lemmas.Bool.Decides.{eqb_tells}
use Rattle.std.proofs.lemmas.Nat.{mod_below}
use Rattle.p3_field.specs.Ring.{Ring, RingLaws}
use Rattle.p3_field.specs.Field.{FieldLaws, RingHom}
use Rattle.p3_matrix.specs.Matrix.{Rows, height, row_at}
use Rattle.p3_matrix.specs.Laws.Transposed.{get_or-row_at}
use Rattle.air_core.specs.declared.cells.Cell.{Cell}
use Rattle.air_core.specs.declared.cells.Cell.TheVariants.{Main, Preprocessed, Periodic, Public, FirstRow, LastRow, Transition}
use Rattle.air_core.specs.declared.cells.ExtCell.{ExtCell}
use Rattle.air_core.specs.Shape.{Declares, IsSendable}
use Rattle.air_core.specs.RowCheck.{Row, cell_value, ext_cell_value}
use Rattle.air_core.specs.Check.{TableTraces, table_traces, table_row}
use Rattle.p3_lookup.specs.declared.terminal.LookupTerminal.{LookupTerminal}
use Rattle.p3_lookup.specs.Lookup.{LookupData, IsLookup}
use Rattle.p3_lookup.specs.Honest.{Argument, honest_cell}
use Rattle.p3_lookup.specs.Rows.{AreSelectors, IsHonestRow, AreHonestRows}
use Rattle.p3_lookup.specs.Generated.{sent_shape, argument_over, IsGenerated}
use Rattle.p3_lookup.specs.PermutationRows.{permutation_row, GeneratedRowsVanish}
use Rattle.p3_lookup.specs.Laws.Vanish.{trees_vanish}
use Rattle.p3_lookup.specs.Laws.Agreement.{agree_sent}

same : (a b : ℕ) → a ≡ b → nat_eq a b ≡ true
same a b h = elim (eqb_tells a b) [ inl p ↦ p.0 | inr p ↦ absurd (p.1 h) ]

other : (a b : ℕ) → a ≢ b → nat_eq a b ≡ false
other a b h = elim (eqb_tells a b) [ inl p ↦ absurd (h p.1) | inr p ↦ p.0 ]

module _ {F E : Type 0} (f : Ring F) (fL : RingLaws f) (e : Ring E) (L : RingLaws e) (inv : E → E) (W : FieldLaws e inv) (embed : F → E) (H : RingHom f e embed)
    (table : TableTraces F) (lookups : List (LookupData F)) (challenges : List E) (columns : Rows E) (terminal : LookupTerminal E) where
  abbrev p : Argument F E
  p = argument_over f e inv embed table.main table.preprocessed table.public_values lookups challenges

  abbrev n : ℕ
  n = height table.main

  abbrev row : ℕ → Row F E
  row i = permutation_row f.zero table columns challenges terminal.0 i

  abbrev at : ℕ → Cell → E
  at i c = embed (cell_value f (row i) c)

  abbrev at_ext : ℕ → ExtCell → E
  at_ext i c = ext_cell_value e.zero (row i) c

  selectors : AreSelectors e.zero n at
  selectors = record {
    first = λ i pos lt. ap (λ b. embed (cond b f.one f.zero)) (other i 0 (λ s. omega (arith, pos, s))) ∙ H.keeps_zero;
    last = λ i lt. ap (λ b. embed (cond b f.one f.zero)) (other (i + 1) n (λ s. omega (arith, lt, s))) ∙ H.keeps_zero;
    transition = λ i s. ap (λ b. embed (cond b f.zero f.one)) (same (i + 1) n s) ∙ H.keeps_zero;
  }

  module _ (g : IsGenerated p n (Ok (columns, terminal))) where
    cells : (i c : ℕ) → i < n → c < suc (length lookups) → get_or (row_at columns i) c e.zero ≡ honest_cell p i c
    cells i c h lt = get_or-row_at columns i c e.zero (omega (arith, lt, g.0)) ∙ g.2 i c h (omega (arith, lt))

    honest : (i : ℕ) → i < n → IsHonestRow p n i (at_ext i)
    honest i h = record {
      current = λ c lt. cells i c h lt;
      next = λ c lt. cells ((i + 1) % n) c (mod_below (i + 1) n (omega (arith, h))) lt;
      challenge = λ k lt. refl;
      terminal = g.3;
    }

    agree : (i : ℕ) (c : Cell) → Declares (sent_shape table.main table.preprocessed table.public_values) c → IsSendable c
        → at i c ≡ embed (cell_value f (table_row f.zero (table_traces table.main table.preprocessed [] table.public_values) i) c)
    agree i (Main true column) d s = refl
    agree i (Main false column) d s = refl
    agree i (Preprocessed true column) d s = refl
    agree i (Preprocessed false column) d s = refl
    agree i (Periodic k) d s = absurd s
    agree i (Public k) d s = refl
    agree i FirstRow d s = absurd s
    agree i LastRow d s = absurd s
    agree i Transition d s = absurd s

    honest_rows : All (IsLookup (sent_shape table.main table.preprocessed table.public_values)) lookups → AreHonestRows embed p n at at_ext
    honest_rows reads = record {
      selectors = selectors;
      honest = honest;
      agrees = λ i h k d lt.
          let r = table_row f.zero (table_traces table.main table.preprocessed [] table.public_values) i in
          agree_sent f fL e L embed H (sent_shape table.main table.preprocessed table.public_values) (cell_value f r) (ext_cell_value f.zero r) (at i) (at_ext i) (agree i)
          (get_or lookups k d) (reads k d lt).reads;
    }

pub generated_vanish : {F E : Type 0} (f : Ring F) (fL : RingLaws f) (e : Ring E) (L : RingLaws e) (inv : E → E) (W : FieldLaws e inv) (embed : F → E) (H : RingHom f e embed)
    (table : TableTraces F) (lookups : List (LookupData F)) (challenges : List E) → GeneratedRowsVanish f e inv embed table lookups challenges
generated_vanish f fL e L inv W embed H table lookups challenges columns terminal reads g i h =
    trees_vanish f embed (p f fL e L inv W embed H table lookups challenges columns terminal) L W H (height table.main)
    (at f fL e L inv W embed H table lookups challenges columns terminal) (at_ext f fL e L inv W embed H table lookups challenges columns terminal)
    (honest_rows f fL e L inv W embed H table lookups challenges columns terminal g reads) i h (g.4 i h)
