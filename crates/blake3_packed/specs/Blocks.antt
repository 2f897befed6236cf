-- The words of blocks of 64 compressions, one block after another.
use Rattle.std.specs.Prelude.{◌≡◌, ℕ, ◌+◌, ◌*◌, ◌<◌, List, length}
use Rattle.std.specs.Prelude.{slice_index_or as get_or}
use Rattle.std.specs.Int.{bit_at}
use Rattle.blake3_binary.specs.declared.input.Blake3CompressionInput.{Blake3CompressionInput}
use Rattle.blake3_binary.specs.Rows.{compression}
use Rattle.blake3_packed.specs.States.{presence, lane_cells}

-- so many blocks, in which lane j of block w has the cells of compression 64 w + j, or zeros where there is none
pub record AreBlocks (inputs : List Blake3CompressionInput) (n : ℕ) (values : List ℕ) : Type 0 where
  pub long : length values ≡ 11536 * n
  pub bits : (w j column : ℕ) → w < n → j < 64 → column < 11536
      → bit_at (get_or values (11536 * w + column) 0) j ≡ get_or (lane_cells (compression inputs (64 * w + j)) (presence (length inputs) (64 * w + j))) column 0
