-- What a folder reads at one point: the values of the cells there. After Plonky3's p3-uni-stark (the constraint
-- folders).
use Rattle.std.specs.Prelude.{map}
use Rattle.p3_field.specs.Ring.{Ring}
use Rattle.air_core.specs.CellValues.{reading_at}
use Rattle.air_core.specs.Tree.{Reading}
pub use Rattle.air_core.specs.PointValues.{PointValues, point_cells, point_shape}

-- the reading of constraints at the point; a cell that isn't there reads as zero
abbrev pub point_reading : {F E : Type 0} → Ring E → (F → E) → PointValues F E → Reading F E
point_reading r embed p = reading_at r embed (point_cells r.zero embed p)

-- values over F as values over E
abbrev pub embedded : {F E : Type 0} → (F → E) → PointValues F F → PointValues F E
embedded embed p = record {
  main_local = map embed p.main_local;
  main_next = map embed p.main_next;
  preprocessed_local = map embed p.preprocessed_local;
  preprocessed_next = map embed p.preprocessed_next;
  periodic = map embed p.periodic;
  public = p.public;
  first_row = embed p.first_row;
  last_row = embed p.last_row;
  transition = embed p.transition;
}
