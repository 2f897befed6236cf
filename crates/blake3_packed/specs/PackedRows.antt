-- The rows of compressions, 64 in each row of words. After Plonky3's p3-blake3-air (binary).
use Rattle.std.specs.Prelude.{◌≡◌, ℕ, ◌+◌, ◌*◌, ◌/◌, ◌<◌, ◌≤◌, List, map}
use Rattle.std.specs.Prelude.{slice_index_or as get_or}
use Rattle.std.specs.Int.{bit_at}
use Rattle.p3_field.specs.Ring.{Ring, of_nat}
use Rattle.p3_matrix.specs.Matrix.{Rows, height, cell_at}
use Rattle.blake3_binary.specs.declared.input.Blake3CompressionInput.{Blake3CompressionInput}
use Rattle.blake3_binary.specs.Row.{binary_cells}
use Rattle.blake3_binary.specs.Rows.{compression, binary_rows}

-- the rows of words that hold so many rows
abbrev pub packed_height : ℕ → ℕ
packed_height rows = (rows + 63) / 64

-- the dense rows, as generate_binary_trace_rows gives them
abbrev pub dense_rows : {F : Type 0} → Ring F → List Blake3CompressionInput → Rows F
dense_rows r inputs = record { values = map (of_nat r) (binary_rows inputs); width = 11536 }

-- bit j of row w in a column
abbrev pub lane_bit : Rows ℕ → ℕ → ℕ → ℕ → ℕ
lane_bit m w j column = bit_at (cell_at 0 m w column) j

-- in every column bit j of row w is the cell of the dense row 64 w + j, as a number
abbrev pub HasDenseBits : List Blake3CompressionInput → ℕ → Rows ℕ → Type 0
HasDenseBits inputs rows m =
    (w j column : ℕ) → w < packed_height rows → j < 64 → column < 11536 → 64 * w + j < rows
    → lane_bit m w j column ≡ get_or (binary_cells (compression inputs (64 * w + j))) column 0

-- the same over the field
abbrev pub HasDenseCells : {F : Type 0} → Ring F → List Blake3CompressionInput → ℕ → Rows ℕ → Type 0
HasDenseCells r inputs rows m =
    (w j column : ℕ) → w < packed_height rows → j < 64 → column < 11536 → 64 * w + j < rows
    → of_nat r (lane_bit m w j column) ≡ cell_at r.zero (dense_rows r inputs) (64 * w + j) column

-- the bits past the last dense row are zero
abbrev pub HasZerosPast : ℕ → Rows ℕ → Type 0
HasZerosPast rows m =
    (w j column : ℕ) → w < packed_height rows → j < 64 → column < 11536 → rows ≤ 64 * w + j
    → lane_bit m w j column ≡ 0

-- the packed rows of so many compressions
pub record ArePackedRows (inputs : List Blake3CompressionInput) (rows : ℕ) (m : Rows ℕ) : Type 0 where
  pub width : m.width ≡ 11536
  pub height : height m ≡ packed_height rows
  pub bits : HasDenseBits inputs rows m
  pub past : HasZerosPast rows m
