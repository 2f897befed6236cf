-- The rows that the generators give.
use Rattle.std.specs.Prelude.{◌≡◌, ℕ, ◌*◌, ◌/◌, ◌%◌, ◌^◌, ◌<◌, ◌≤◌, List, [], ◌∷◌, ◌++◌, length}
use Rattle.std.specs.Prelude.{slice_index_or as get_or}
use Rattle.std.specs.Int.{IsPowerOfTwo}
use Rattle.p3_field.specs.Ring.{Ring}
use Rattle.p3_field.specs.Poly.{tabulate}
use Rattle.air_core.specs.Joined.{joined}
use Rattle.blake3_compress.specs.Compress.{Input}
use Rattle.blake3_compress.specs.Generated.{input_of}
use Rattle.blake3_binary.specs.declared.input.Blake3CompressionInput.{Blake3CompressionInput}
use Rattle.blake3_binary.specs.Row.{binary_cells}

-- what stands for an item past the end of a list
abbrev pub nothing : Blake3CompressionInput
nothing = record { chaining_value = []; block = []; counter = 0; block_len = 0; flags = 0 }

-- the 28 words of a compression: the block, the chaining value, the counter by halves, the length and the flags
abbrev pub compression_words : Blake3CompressionInput → List ℕ
compression_words i =
    tabulate 16 (λ k. get_or i.block k 0)
    ++ tabulate 8 (λ k. get_or i.chaining_value k 0)
    ++ i.counter % 2 ^ 32 ∷ i.counter / 2 ^ 32 % 2 ^ 32 ∷ i.block_len ∷ i.flags ∷ []

-- what compression i compresses
abbrev pub compression : List Blake3CompressionInput → ℕ → Input
compression inputs i = input_of (compression_words (get_or inputs i nothing))

-- the rows of the compressions, one after another
unfoldable pub binary_rows : List Blake3CompressionInput → List ℕ
binary_rows inputs = joined (length inputs) (λ i. binary_cells (compression inputs i))

-- the cells of so many rows times 2^extra are more than 64 bits count
abbrev pub IsBinaryTooLong : ℕ → ℕ → Type 0
IsBinaryTooLong rows extra = 2 ^ 64 ≤ rows * 11536 * 2 ^ extra

-- so many rows can stand over a field in which one and one is this: it is zero, and their number is a power of two
abbrev pub MayStand : {F : Type 0} → Ring F → F → ℕ → Type 0
MayStand r two rows = (two ≡ r.zero) × (0 < rows) × IsPowerOfTwo rows

-- over a field in which one and one is zero: there is no row
abbrev pub HasNoRow : {F : Type 0} → Ring F → F → ℕ → Type 0
HasNoRow r two rows = (two ≡ r.zero) × (rows ≡ 0)

-- there are some, and their number is no power of two
abbrev pub HasNoPower : {F : Type 0} → Ring F → F → ℕ → Type 0
HasNoPower r two rows = (two ≡ r.zero) × (0 < rows) × (IsPowerOfTwo rows → ⊥)
