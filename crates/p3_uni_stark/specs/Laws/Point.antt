-- What a folder over the base field reads, seen from the extension.
use Rattle.std.proofs.Common.{◌≡◌, [], ◌∷◌, map, sym, ap}
use Rattle.std.proofs.lemmas.List.{map-id}
use Rattle.p3_field.specs.Ring.{Ring}
use Rattle.air_core.specs.CellValues.{reading_at, map_values}
use Rattle.p3_uni_stark.specs.Point.{PointValues, point_cells, point_reading, embedded}

-- values over the base field are those over the extension, mapped
pub embedded_cells : {F E : Type 0} (z : F) (w : E) (embed : F → E) (p : PointValues F F) → embed z ≡ w
    → point_cells w embed (embedded embed p) ≡ map_values embed (point_cells z (λ x. x) p)
embedded_cells z w embed p e =
    λ i. record (map_values embed (point_cells z (λ x. x) p)) { public_values = map embed (sym (map-id p.public) i); terminals = sym e i ∷ [] }

-- so the reading of a folder over the base field is at the images of its values
pub embedded_is_read : {F E : Type 0} (z : F) (r : Ring E) (embed : F → E) (p : PointValues F F) → embed z ≡ r.zero
    → point_reading r embed (embedded embed p) ≡ reading_at r embed (map_values embed (point_cells z (λ x. x) p))
embedded_is_read z r embed p e = ap (reading_at r embed) (embedded_cells z r.zero embed p e)
