-- What is read at a point by values that are opened from a committed table's polynomials, and the identity over them.
use Rattle.std.specs.Prelude.{◌≡◌, ℕ, ◌+◌, ◌*◌, IsTrue, List, map, slice_range}
use Rattle.p3_field.specs.Field.{TwoAdic, Extension, combine}
use Rattle.p3_field.specs.Poly.{tabulate, eval_poly}
use Rattle.air_core.specs.declared.cells.Cell.{Cell}
use Rattle.air_core.specs.declared.cells.ExtCell.{ExtCell}
use Rattle.air_core.specs.CellValues.{CellValues, cell_in, ext_cell_in, reading_at}
use Rattle.air_core.specs.Shape.{Shape, Declares, DeclaresExt}
use Rattle.air_core.specs.Tree.{Tree, eval_tree}
use Rattle.p3_uni_stark.specs.Fold.{fold}
use Rattle.p3_uni_stark.specs.Recombine.{recombined}
use Rattle.law_committed.specs.Committed.{CommittedTable, columns_at, next_point, permutation_at, committed_values_at}
use Rattle.law_committed.specs.Identity.{CommittedQuotient, rows_vanishing_polynomial}

-- a row of flattened values as so many values over the larger field, each the sum of its coefficients times the basis elements
abbrev pub recombined_values : {F E : Type 0} → Extension F E → List E → ℕ → List E
recombined_values e row width = tabulate width (λ j. combine e.ring e.basis 0 (slice_range row (j * e.dimension) (j * e.dimension + e.dimension)))

module _ {F E : Type 0} (f : TwoAdic F) (e : Extension F E) (t : CommittedTable F E) where
  -- the values are the table's at x, of each cell that is declared
  pub record AreOpened (s : Shape) (v : CellValues E) (x : E) : Type 0 where
    pub cells : (c : Cell) → Declares s c → cell_in e.ring.zero v c ≡ cell_in e.ring.zero (committed_values_at f e t x) c
    pub ext_cells : (c : ExtCell) → DeclaresExt s c → ext_cell_in e.ring.zero v c ≡ ext_cell_in e.ring.zero (committed_values_at f e t x) c

  -- The same list by list. Where no next cell of a matrix is declared, its next row may be anything, as a row of zeros.
  pub record AreOpenedRows (s : Shape) (v : CellValues E) (x : E) : Type 0 where
    pub main_local : v.main_local ≡ columns_at f e t t.main x
    pub main_next : (j : ℕ) → IsTrue (s.main_next j) → v.main_next ≡ columns_at f e t t.main (next_point f e t x)
    pub preprocessed_local : v.preprocessed_local ≡ columns_at f e t t.preprocessed x
    pub preprocessed_next : (j : ℕ) → IsTrue (s.preprocessed_next j) → v.preprocessed_next ≡ columns_at f e t t.preprocessed (next_point f e t x)
    pub periodic : v.periodic ≡ (committed_values_at f e t x).periodic
    pub public_values : v.public_values ≡ map e.embed t.public_values
    pub first_row : v.first_row ≡ (committed_values_at f e t x).first_row
    pub last_row : v.last_row ≡ (committed_values_at f e t x).last_row
    pub transition : v.transition ≡ (committed_values_at f e t x).transition
    pub permutation_local : v.permutation_local ≡ permutation_at f e t x
    pub permutation_next : v.permutation_next ≡ permutation_at f e t (next_point f e t x)
    pub challenges : v.challenges ≡ t.challenges
    pub terminals : v.terminals ≡ t.terminals

  -- The identity of the table at x over opened values: the fold by alpha of the trees read at these is the vanishing polynomial's times the
  -- quotient's, recombined from the chunks' opened values.
  abbrev pub OpenedIdentity : List (Tree F) → CommittedQuotient F → (alpha x : E) → CellValues E → List (List E) → Type 0
  OpenedIdentity trees q alpha x v chunks =
      fold e.ring alpha (map (eval_tree (reading_at e.ring e.embed v)) trees) ≡ e.ring.mul (eval_poly e.ring (rows_vanishing_polynomial f e t) x) (recombined f e q.domains chunks x)
