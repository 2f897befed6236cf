-- A wheel's traces meet its constraint.
use Rattle.std.proofs.Common.{◌≡◌, ℕ, zero, suc, ◌%◌, ◌^◌, ◌<◌, ◌≤◌, false, [], get_or, map, sym, ◌∙◌, ap, arith}
use Rattle.p3_field.specs.Field.{TwoAdic, Extension}
use Rattle.p3_field.specs.Laws.Roots.{sub_self}
use Rattle.air_core.specs.Check.{TableTraces as Traces}
use Rattle.air_core.specs.declared.cells.Cell.{Cell}
use Rattle.air_core.specs.declared.cells.Cell.TheVariants.{Main, Preprocessed, Periodic}
use Rattle.air_core.specs.CellValues.{CellValues, cell_in}
use Rattle.law_committed.specs.Committed.{CommittedTable, Holds, row_point, committed_values_at}
use Rattle.law_committed.specs.Fields.{FieldsLaws}
use Rattle.law_committed.specs.Rows.{AreOfRow, CommitsTo, row_of_traces}
use Rattle.law_committed.specs.Traces.{HaveTraceRows, committed_traces}
use Rattle.law_committed.specs.Laws.Rows.{reads_rows}
use Rattle.law_committed.specs.Laws.Traces.{traces_committed}
use Rattle.law_valid.specs.Traced.{no_rows, traces_of}
use Rattle.air_tables.specs.Wheel.{number_in, turns, wheel_trees}
use Rattle.law_tool_valid.specs.Job.{wheel_of, traced_job}
use Rattle.law_tool_valid.specs.Laws.Traced.{number_row_is, wheel_row_is}

module _ {F E : Type 0} (f : TwoAdic F) (e : Extension F E) (top : ℕ) (inverse : E → E) (L : FieldsLaws f e top inverse) (k : ℕ) (low : k ≤ top)
    (rows : HaveTraceRows {E = E} (2 ^ k) (traces_of (traced_job f.ring (wheel_of k))) no_rows) where
  abbrev traces : Traces F
  traces = traces_of (traced_job f.ring (wheel_of k))

  abbrev t : CommittedTable F E
  t = committed_traces f e traces no_rows [] [] k

  abbrev v : ℕ → CellValues E
  v i = committed_values_at f e t (row_point f e t i)

  abbrev at : ℕ → Cell → E
  at i c = cell_in e.ring.zero (v i) c

  commits : CommitsTo f e t traces no_rows
  commits = traces_committed f e top inverse L k low traces no_rows [] [] rows

  reads : (i : ℕ) → i < 2 ^ k → AreOfRow e (row_of_traces f.ring.zero traces no_rows [] [] i) (v i)
  reads i h = reads_rows f e top inverse L t low traces no_rows commits i h

  pub wheel_holds : Holds f e t wheel_trees
  wheel_holds i h zero d l =
      let n = number_in f.ring i in
      let w = get_or (turns f.ring) (i % 2) f.ring.zero in
      let main : at i (Main false 0) ≡ e.embed (f.ring.mul n w) =
      ap (λ l. get_or l 0 e.ring.zero) ((reads i h).main_local ∙ ap (map e.embed) (wheel_row_is f.ring k i h)) in
      let number : at i (Preprocessed false 0) ≡ e.embed n =
      ap (λ l. get_or l 0 e.ring.zero) ((reads i h).preprocessed_local ∙ ap (map e.embed) (number_row_is f.ring k i h)) in
      let turn : at i (Periodic 0) ≡ e.embed w = ap (λ l. get_or l 0 e.ring.zero) (reads i h).periodic in
      sub_self e.ring L.above (at i (Main false 0)) (e.ring.mul (at i (Preprocessed false 0)) (at i (Periodic 0)))
      (main ∙ (L.embeds.keeps_mul n w ∙ sym (λ j. e.ring.mul (number j) (turn j))))
  wheel_holds i h (suc j) d l = absurd (omega (arith, l))
