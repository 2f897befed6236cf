-- The values at a row, read as values at a place.
use Rattle.std.proofs.Common.{◌≡◌, ◌<◌, ℕ, Bool, true, false, cond, length, refl, ◌∙◌, arith}
use Rattle.std.specs.Prelude.{not, nat_lt, IsTrue}
use Rattle.std.proofs.lemmas.Bool.Decides.{nat_tests}
use Rattle.std.proofs.Math.ListN.{get_or-map}
use Rattle.p3_field.specs.Ring.{Ring}
use Rattle.air_core.specs.declared.cells.Cell.{Cell}
use Rattle.air_core.specs.declared.cells.Cell.TheVariants.{Main, Preprocessed, Periodic, Public, FirstRow, LastRow, Transition}
use Rattle.air_core.specs.Shape.{Declares}
use Rattle.air_core.specs.PointValues.{PointValues, point_cell, point_shape}
use Rattle.air_core.specs.RowCheck.{Row, HasRowsOfOneWidth, cell_value, row_shape}

-- the values at the row, where the selectors have these values
abbrev pub row_point : {F E : Type 0} → Row F E → F → F → F → PointValues F F
row_point r first last transition = record {
  main_local = r.main_local;
  main_next = r.main_next;
  preprocessed_local = r.preprocessed_local;
  preprocessed_next = r.preprocessed_next;
  periodic = r.periodic;
  public = r.public_values;
  first_row = first;
  last_row = last;
  transition = transition;
}

is_below : (n a b : ℕ) → a ≡ b → n < b → IsTrue (nat_lt n a)
is_below n a b e h = grind (arith, nat_tests)

-- a cell of the row is there
pub row_point-declares : {F E : Type 0} (r : Row F E) (first last transition : F) (c : Cell) → HasRowsOfOneWidth r → Declares (row_shape r) c → Declares (point_shape (row_point r first last transition)) c
row_point-declares r first last transition (Main next n) w h = (h.0, λ e. is_below n (length r.main_next) (length r.main_local) w.main h.0)
row_point-declares r first last transition (Preprocessed next n) w h = (h.0, λ e. is_below n (length r.preprocessed_next) (length r.preprocessed_local) w.preprocessed h.0)
row_point-declares r first last transition (Periodic n) w h = h
row_point-declares r first last transition (Public n) w h = h
row_point-declares r first last transition FirstRow w h = h
row_point-declares r first last transition LastRow w h = h
row_point-declares r first last transition Transition w h = h

chosen_not : {A : Type 0} (b : Bool) (x y : A) → cond (not b) x y ≡ cond b y x
chosen_not true x y = refl
chosen_not false x y = refl

-- its value is that at the row, where the selectors are those of the row
pub row_point-cell : {F E : Type 0} (f : Ring F) (r : Row F E) (first last transition : F) → first ≡ cond r.is_first_row f.one f.zero → last ≡ cond r.is_last_row f.one f.zero
    → transition ≡ cond (not r.is_last_row) f.one f.zero → (c : Cell) → point_cell f.zero (λ x. x) (row_point r first last transition) c ≡ cell_value f r c
row_point-cell f r first last transition a b d (Main true n) = refl
row_point-cell f r first last transition a b d (Main false n) = refl
row_point-cell f r first last transition a b d (Preprocessed true n) = refl
row_point-cell f r first last transition a b d (Preprocessed false n) = refl
row_point-cell f r first last transition a b d (Periodic n) = refl
row_point-cell f r first last transition a b d (Public n) = get_or-map (λ x. x) r.public_values n f.zero
row_point-cell f r first last transition a b d FirstRow = a
row_point-cell f r first last transition a b d LastRow = b
row_point-cell f r first last transition a b d Transition = d ∙ chosen_not r.is_last_row f.one f.zero
