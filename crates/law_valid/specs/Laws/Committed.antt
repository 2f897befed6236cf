-- The table that valid traces are committed to as, also with permutation columns: it commits to the traces, and what the traces alone meet
-- it meets.
use Rattle.std.proofs.Common.{◌≡◌, ℕ, true, false, List, [], get_or, refl, sym, ◌∙◌, arith}
use Rattle.std.specs.Prelude.{All}
use Rattle.p3_field.specs.Field.{TwoAdic, Extension}
use Rattle.p3_matrix.specs.Matrix.{Rows}
use Rattle.air_core.specs.Check.{TableTraces as Traces}
use Rattle.air_core.specs.declared.cells.Cell.{Cell}
use Rattle.air_core.specs.declared.cells.Cell.TheVariants.{Main, Preprocessed, Periodic, Public, FirstRow, LastRow, Transition}
use Rattle.air_core.specs.declared.cells.ExtCell.{ExtCell}
use Rattle.air_core.specs.declared.cells.ExtCell.TheVariants.{Permutation, Challenge, Terminal}
use Rattle.air_core.specs.CellValues.{cell_in, ext_cell_in}
use Rattle.air_core.specs.Laws.Maps.{one_declared_value}
use Rattle.air_core.specs.Shape.{Declaration, DeclaresExt, ReadsDeclared, declared_shape}
use Rattle.air_core.specs.Tree.{Tree}
use Rattle.law_committed.specs.Committed.{CommittedTable, Holds, periodic_poly, row_point, committed_values_at}
use Rattle.law_committed.specs.Traces.{HaveTraceRows, IsTall, committed_traces}
use Rattle.law_valid.specs.Traced.{no_rows}

module _ {F E : Type 0} (f : TwoAdic F) (e : Extension F E) (traces : Traces F) (k : ℕ) where
  abbrev alone : CommittedTable F E
  alone = committed_traces f e traces no_rows [] [] k

  module _ (columns : Rows E) (challenges terminals : List E) where
    abbrev with : CommittedTable F E
    with = committed_traces f e traces columns challenges terminals k

    -- cells but those of the extension have the same values at a point
    same_cells : (x : E) (c : Cell) → cell_in e.ring.zero (committed_values_at f e alone x) c ≡ cell_in e.ring.zero (committed_values_at f e with x) c
    unfolding periodic_poly
    same_cells x (Main true j) = refl
    same_cells x (Main false j) = refl
    same_cells x (Preprocessed true j) = refl
    same_cells x (Preprocessed false j) = refl
    same_cells x (Periodic j) = refl
    same_cells x (Public j) = refl
    same_cells x FirstRow = refl
    same_cells x LastRow = refl
    same_cells x Transition = refl

    -- an AIR declares none of these
    none_declared : (d : Declaration F) (c : ExtCell) → DeclaresExt (declared_shape d) c → ⊥
    none_declared d (Permutation next j) h = omega (arith, h)
    none_declared d (Challenge j) h = omega (arith, h)
    none_declared d Terminal h = omega (arith, h)

    -- so an AIR's constraints that hold without permutation columns hold with them
    pub holds_beside : (d : Declaration F) (trees : List (Tree F)) → All (ReadsDeclared (declared_shape d)) trees → Holds f e alone trees → Holds f e with trees
    holds_beside d trees reads own i h j u l =
        let x = row_point f e alone i in
        let v = committed_values_at f e alone x in
        let w = committed_values_at f e with x in
        sym (one_declared_value e.ring e.embed (cell_in e.ring.zero v) (cell_in e.ring.zero w) (ext_cell_in e.ring.zero v) (ext_cell_in e.ring.zero w) (declared_shape d) (get_or trees j u)
        (λ c _. same_cells x c) (λ c q. absurd (none_declared d c q)) (reads j u l))
        ∙ own i h j u l

-- traces that have rows without permutation columns have them with columns of that height, and are committed to
pub rows_beside : {F E : Type 0} (n : ℕ) (traces : Traces F) (columns : Rows E) → HaveTraceRows {E = E} n traces no_rows → IsTall n columns → HaveTraceRows n traces columns
rows_beside n traces columns H T = record { tall = H.tall; main = H.main; preprocessed = H.preprocessed; permutation = T; periods = H.periods }

pub no_rows_tall : {E : Type 0} (n : ℕ) → IsTall {F = E} n no_rows
no_rows_tall n = record { fills = refl; tall = λ h. absurd (omega (arith, h)) }
