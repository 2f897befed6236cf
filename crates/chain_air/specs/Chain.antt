-- Chains of compressions, and rows that are those of a chain (not in Plonky3). As in the BLAKE3 paper, the chaining value that a
-- compression hands on is the first 8 words of its output.
use Rattle.std.specs.Prelude.{◌≡◌, ℕ, suc, ◌/◌, ◌%◌, ◌^◌, ◌<◌, List, ◌++◌, map}
use Rattle.p3_field.specs.Ring.{Ring, of_nat}
use Rattle.blake3_compress.specs.Compress.{Input, chaining, compress}
use Rattle.blake3_compress.specs.TraceRow.{AreWords, trace_row, limb_cells}

-- word w of the compression of 28 words
abbrev pub output_word : Input → ℕ → ℕ
output_word x w = compress x (w / 4) (w % 4)

-- A chain of n compressions from one chaining value to another: the first has `start` as its chaining value, each next one has the first 8 words of the one
-- before it, and those of the last are `end`. All other words are the compressions' own.
pub record IsChain (n : ℕ) (inputs : ℕ → Input) (start end : ℕ → ℕ) : Type 0 where
  pub first : (w : ℕ) → w < 8 → chaining (inputs 0) w ≡ start w
  pub links : (j w : ℕ) → suc j < n → w < 8 → chaining (inputs (suc j)) w ≡ output_word (inputs j) w
  pub last : (j w : ℕ) → suc j ≡ n → w < 8 → output_word (inputs j) w ≡ end w

-- n rows are those of such a chain's compressions
pub record AreChainRows {F : Type 0} (r : Ring F) (n : ℕ) (rows : ℕ → List F) (start end : ℕ → ℕ) : Type 0 where
  pub inputs : ℕ → Input
  pub words : (j : ℕ) → j < n → AreWords (inputs j)
  pub rows_are : (j : ℕ) → j < n → rows j ≡ trace_row r (inputs j)
  pub chain : IsChain n inputs start end

-- 8 words of 32 bits
abbrev pub AreEight : (ℕ → ℕ) → Type 0
AreEight words = (w : ℕ) → w < 8 → words w < 2 ^ 32

-- the public values of a chain: the limbs of the words of both chaining values, the low one first
unfoldable pub publics_of : {F : Type 0} → Ring F → (start end : ℕ → ℕ) → List F
publics_of r start end = map (of_nat r) (limb_cells 8 start ++ limb_cells 8 end)
