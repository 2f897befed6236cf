-- The laws of builders for a folder that reads all cells.
use Rattle.std.proofs.Common.{◌≡◌, true, false, refl, ap}
use Rattle.p3_field.specs.Ring.{Ring, RingLaws}
use Rattle.p3_field.specs.Field.{RingHom}
use Rattle.air_core.specs.Tree.{Tree, eval_tree}
use Rattle.air_core.specs.declared.cells.Cell.{Cell}
use Rattle.air_core.specs.declared.cells.Cell.TheVariants.{Main, Preprocessed, Periodic, Public, FirstRow, LastRow, Transition}
use Rattle.air_core.specs.CellValues.{CellValues, cell_in, reading_at}
use Rattle.air_core.specs.Shape.{Declares}
use Rattle.air_core.specs.Operation.{Operation, tree_by, value_by}
use Rattle.air_core.specs.Laws.Operation.{embedded-value_by}
use Rattle.p3_uni_stark.specs.Point.{point_cells, point_shape, embedded}
use Rattle.p3_uni_stark.specs.Laws.Folders.{value_persists}
use Rattle.batch_constraints.specs.Laws.Folders.{by_ring}
use Rattle.prover_folder.specs.FolderState.{GivenWithLookups, given_cells, given_shape}

-- the value of an operation on values of the base field, which go into the extension as values of trees, is that of its tree in each state
-- that reads the same
pub base_value_by_persists : {F E S : Type 0} (f : Ring F) (L : RingLaws f) (s : Ring E) (M : RingLaws s) (embed : F → E) (H : RingHom f s embed) (values : S → CellValues E) (p q : S)
    (op : Operation) (x y z : F) (t u : Tree F) → q ≡ p
    → embed x ≡ eval_tree (reading_at s embed (values p)) t → embed y ≡ eval_tree (reading_at s embed (values p)) u → z ≡ value_by f op x y → embed z ≡ eval_tree (reading_at s embed (values q)) (tree_by op t u)
base_value_by_persists f L s M embed H values p q op x y z t u h k l e =
    value_persists (λ r. reading_at s embed (values r)) p q (embed z) (tree_by op t u) h
    (embedded-value_by f L s M embed H (reading_at s embed (values p)) (by_ring s embed (values p)) op x y z t u k l e)

-- states that are given the same have the same cells
pub shape_with : {F E : Type 0} (p q : GivenWithLookups F E) → q ≡ p → given_shape q ≡ given_shape p
shape_with p q h = ap given_shape h

-- a cell of the base field is there where the plain folder has it
pub declared_plain : {F E : Type 0} (g : GivenWithLookups F E) (c : Cell) → Declares (given_shape g) c → Declares (point_shape g.plain.values) c
declared_plain g (Main next column) h = h
declared_plain g (Preprocessed next column) h = h
declared_plain g (Periodic n) h = h
declared_plain g (Public n) h = h
declared_plain g FirstRow h = tt
declared_plain g LastRow h = tt
declared_plain g Transition h = tt

-- and has the value that the plain folder reads
pub plain_cell : {F E : Type 0} (zero : E) (embed : F → E) (g : GivenWithLookups F E) (c : Cell)
    → cell_in zero (point_cells zero embed (embedded embed g.plain.values)) c ≡ cell_in zero (given_cells zero embed g) c
plain_cell zero embed g (Main true column) = refl
plain_cell zero embed g (Main false column) = refl
plain_cell zero embed g (Preprocessed true column) = refl
plain_cell zero embed g (Preprocessed false column) = refl
plain_cell zero embed g (Periodic n) = refl
plain_cell zero embed g (Public n) = refl
plain_cell zero embed g FirstRow = refl
plain_cell zero embed g LastRow = refl
plain_cell zero embed g Transition = refl
