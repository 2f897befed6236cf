-- What the constraints of a row of bits mean.
use Rattle.std.specs.Prelude.{◌≡◌, ℕ, ◌<◌, length, All, ◌↔◌}
use Rattle.p3_field.specs.Ring.{Ring}
use Rattle.air_core.specs.RowCheck.{Row, tree_value_at_row}
use Rattle.example_air.specs.Bytes.{bits_row, byte_row_trees}

-- A row of nine cells meets the constraints exactly where it is the row of a byte.
abbrev pub ByteRowMeans : {A : Type 0} → Ring A → Type 0
ByteRowMeans {A} r = (row : Row A A) → length row.main_local ≡ 9
    → All (λ t. tree_value_at_row r r (λ x. x) row t ≡ r.zero) (byte_row_trees r) ↔ ((byte : ℕ) × (byte < 256) × (row.main_local ≡ bits_row r byte))
