-- One reading for rows, points and polynomials: the reading goes along maps with the values.
use Rattle.std.proofs.Common.{◌≡◌, ℕ, true, false, List, [], ◌∷◌, map, get_or, refl, sym, ◌∙◌, ap}
use Rattle.std.proofs.Math.ListN.{get_or-map}
use Rattle.p3_field.specs.Ring.{Ring, RingLaws, sub}
use Rattle.p3_field.specs.Field.{RingHom}
use Rattle.p3_field.specs.Poly.{eval_poly}
use Rattle.p3_field.specs.Laws.Algebra.{mul_zero}
use Rattle.p3_field.specs.Laws.Values.{eval_add, eval_sub, eval_mul}
use Rattle.air_core.specs.declared.cells.Cell.{Cell}
use Rattle.air_core.specs.declared.cells.Cell.TheVariants.{Main, Preprocessed, Periodic, Public, FirstRow, LastRow, Transition}
use Rattle.air_core.specs.declared.cells.ExtCell.{ExtCell}
use Rattle.air_core.specs.declared.cells.ExtCell.TheVariants.{Permutation, Challenge, Terminal}
use Rattle.air_core.specs.CellValues.{CellValues, cell_in, ext_cell_in, reading_at, map_values, row_values_in, poly_ring, poly_reading}
use Rattle.air_core.specs.Laws.Maps.{reads_all, value_along, hom_keeps}
use Rattle.air_core.specs.Maps.{Keeps}
use Rattle.air_core.specs.RowCheck.{Row, cell_value, ext_cell_value, row_reading}
use Rattle.air_core.specs.Tree.{Tree, eval_tree}

-- an item of the images, also past the end, where zero goes to zero
mapped : {X Y : Type 0} (f : X → Y) (z : X) (w : Y) → f z ≡ w → (xs : List X) (i : ℕ) → f (get_or xs i z) ≡ get_or (map f xs) i w
mapped f z w e xs i = sym (get_or-map f xs i z) ∙ ap (get_or (map f xs) i) e

module _ {E G : Type 0} (f : E → G) (z : E) (w : G) (e : f z ≡ w) (v : CellValues E) where
  -- the image of a cell's value is its value among the images
  pub cell_image : (c : Cell) → f (cell_in z v c) ≡ cell_in w (map_values f v) c
  cell_image (Main true n) = mapped f z w e v.main_next n
  cell_image (Main false n) = mapped f z w e v.main_local n
  cell_image (Preprocessed true n) = mapped f z w e v.preprocessed_next n
  cell_image (Preprocessed false n) = mapped f z w e v.preprocessed_local n
  cell_image (Periodic n) = mapped f z w e v.periodic n
  cell_image (Public n) = mapped f z w e v.public_values n
  cell_image FirstRow = refl
  cell_image LastRow = refl
  cell_image Transition = refl

  pub ext_cell_image : (c : ExtCell) → f (ext_cell_in z v c) ≡ ext_cell_in w (map_values f v) c
  ext_cell_image (Permutation true n) = mapped f z w e v.permutation_next n
  ext_cell_image (Permutation false n) = mapped f z w e v.permutation_local n
  ext_cell_image (Challenge n) = mapped f z w e v.challenges n
  ext_cell_image Terminal = mapped f z w e v.terminals 0

-- a tree's value goes along a map that keeps its operations and zero to its value at the images
pub value_at_map : {F E G : Type 0} (r : Ring E) (s : Ring G) (embed : F → E) (up : F → G) (f : E → G) (v : CellValues E) → f r.zero ≡ s.zero
    → Keeps (reading_at r embed v) (reading_at s up (map_values f v)) f → (t : Tree F)
    → f (eval_tree (reading_at r embed v) t) ≡ eval_tree (reading_at s up (map_values f v)) t
value_at_map r s embed up f v e K t =
    value_along (reading_at r embed v) (reading_at s up (map_values f v)) f K t
    (reads_all (λ c. f (cell_in r.zero v c) ≡ cell_in s.zero (map_values f v) c)
    (λ c. f (ext_cell_in r.zero v c) ≡ ext_cell_in s.zero (map_values f v) c)
    (cell_image f r.zero s.zero e v) (ext_cell_image f r.zero s.zero e v) t)

-- along a map of rings
pub image_at_values : {F E G : Type 0} (r : Ring E) (L : RingLaws r) (s : Ring G) (M : RingLaws s) (f : E → G) (H : RingHom r s f)
    (embed : F → E) (v : CellValues E) (t : Tree F)
    → f (eval_tree (reading_at r embed v) t) ≡ eval_tree (reading_at s (λ x. f (embed x)) (map_values f v)) t
image_at_values r L s M f H embed v t =
    value_at_map r s embed (λ x. f (embed x)) f v H.keeps_zero
    (hom_keeps r L s M f H embed (cell_in r.zero v) (cell_in s.zero (map_values f v)) (ext_cell_in r.zero v) (ext_cell_in s.zero (map_values f v))) t

module _ {E : Type 0} (r : Ring E) (L : RingLaws r) where
  -- the value at a point keeps the operations on polynomials
  pub value_keeps : {F : Type 0} (embed : F → E) (v : CellValues (List E)) (x : E)
      → Keeps (poly_reading r embed v) (reading_at r embed (map_values (λ p. eval_poly r p x) v)) (λ p. eval_poly r p x)
  value_keeps embed v x = record {
    from = λ y. ap (r.add (embed y)) (mul_zero r L x) ∙ L.add_zero (embed y);
    add = λ p q. eval_add r L p q x;
    sub = λ p q. eval_sub r L p q x;
    mul = λ p q. eval_mul r L p q x;
  }

  -- a tree on polynomials is a polynomial: its value at a point is the tree's at the values there
  pub value_at_point : {F : Type 0} (embed : F → E) (v : CellValues (List E)) (x : E) (t : Tree F)
      → eval_poly r (eval_tree (poly_reading r embed v) t) x ≡ eval_tree (reading_at r embed (map_values (λ p. eval_poly r p x) v)) t
  value_at_point embed v x t = value_at_map (poly_ring r) r (λ y. embed y ∷ []) embed (λ p. eval_poly r p x) v refl (value_keeps embed v x) t

module _ {F E : Type 0} (f : Ring F) (e : Ring E) (embed : F → E) (zero_kept : embed f.zero ≡ e.zero) (r : Row F E) where
  row_cell : (c : Cell) → embed (cell_value f r c) ≡ cell_in e.zero (row_values_in f embed r) c
  row_cell (Main true n) = mapped embed f.zero e.zero zero_kept r.main_next n
  row_cell (Main false n) = mapped embed f.zero e.zero zero_kept r.main_local n
  row_cell (Preprocessed true n) = mapped embed f.zero e.zero zero_kept r.preprocessed_next n
  row_cell (Preprocessed false n) = mapped embed f.zero e.zero zero_kept r.preprocessed_local n
  row_cell (Periodic n) = mapped embed f.zero e.zero zero_kept r.periodic n
  row_cell (Public n) = mapped embed f.zero e.zero zero_kept r.public_values n
  row_cell FirstRow = refl
  row_cell LastRow = refl
  row_cell Transition = refl

  row_ext_cell : (c : ExtCell) → ext_cell_value e.zero r c ≡ ext_cell_in e.zero (row_values_in f embed r) c
  row_ext_cell (Permutation true n) = refl
  row_ext_cell (Permutation false n) = refl
  row_ext_cell (Challenge n) = refl
  row_ext_cell Terminal = refl

  -- the reading at a row is the one reading, at the row's values
  pub row_is_read : row_reading f e embed r ≡ reading_at e embed (row_values_in f embed r)
  row_is_read = λ i. record { from = embed; add = e.add; sub = sub e; mul = e.mul; at = λ c. row_cell c i; at_ext = λ c. row_ext_cell c i }
