-- Cells of a row as trees, and words that are read from a row, whose cells are their bits or count as them.
use Rattle.std.specs.Prelude.{◌≡◌, ℕ, ◌+◌, ◌^◌, ◌<◌, ◌↔◌, false, List}
use Rattle.std.specs.Prelude.{slice_index_or as get_or}
use Rattle.std.specs.Int.{bit_at}
use Rattle.p3_field.specs.Ring.{Ring, of_nat}
use Rattle.air_core.specs.declared.cells.Cell.TheVariants.{Main}
use Rattle.air_core.specs.Tree.{Tree, cell}

-- the cells from a column on
abbrev pub from_column : {F : Type 0} → ℕ → ℕ → Tree F
from_column column k = cell (Main false (column + k))

-- the cells from a column on are the bits of this word
abbrev pub HasWordAt : {F : Type 0} → Ring F → List F → ℕ → ℕ → Type 0
HasWordAt {F} r row at w = (w < 2 ^ 32) × ((k : ℕ) (d : F) → k < 32 → get_or row (at + k) d ≡ of_nat r (bit_at w k))

-- the cells from a column on count as this word: a bit of it is zero exactly where its cell is
abbrev pub CountsAt : {F : Type 0} → Ring F → List F → ℕ → ℕ → Type 0
CountsAt {F} r row at w = (w < 2 ^ 32) × ((k : ℕ) (d : F) → k < 32 → (bit_at w k ≡ 0) ↔ (get_or row (at + k) d ≡ r.zero))
