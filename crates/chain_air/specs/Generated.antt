-- The rows that the generator gives: those of the chain of some blocks.
use Rattle.std.specs.Int.{IsPowerOfTwo}
use Rattle.std.specs.Prelude.{◌≡◌, ℕ, zero, suc, ◌/◌, ◌%◌, ◌^◌, ◌<◌, List, [], ◌∷◌, ◌++◌, length, map, None}
use Rattle.std.specs.Prelude.{slice_index_or as get_or}
use Rattle.p3_field.specs.Poly.{tabulate}
use Rattle.p3_field.specs.Ring.{Ring, of_nat}
use Rattle.p3_matrix.specs.Matrix.{Rows, height, row_at}
use Rattle.air_core.specs.Check.{HoldsAtRow, table_traces}
use Rattle.blake3_compress.specs.Generated.{input_of}
use Rattle.blake3_compress.specs.TraceRow.{trace_row}
use Rattle.blake3_prime.specs.Rows.{IsTooLong, rows_cells}
use Rattle.chain_air.specs.Chain.{AreChainRows, output_word, publics_of}
use Rattle.chain_air.specs.Trees.{chain_trees}

-- the words of the blocks have 32 bits
abbrev pub AreBlocks : List (List ℕ) → Type 0
AreBlocks blocks = (i k : ℕ) → i < length blocks → k < 16 → get_or (get_or blocks i []) k 0 < 2 ^ 32

-- the 24 words of block i and a chaining value
abbrev pub joined_words : List (List ℕ) → ℕ → List ℕ → List ℕ
joined_words blocks i chaining = tabulate 16 (λ k. get_or (get_or blocks i []) k 0) ++ tabulate 8 (λ k. get_or chaining k 0)

-- the 28 words of row i: its block and chaining value, the counter i by halves, the number of blocks as length, no flags
abbrev pub block_words : List (List ℕ) → ℕ → List ℕ → List ℕ
block_words blocks i chaining = joined_words blocks i chaining ++ (i % 2 ^ 32 ∷ i / 2 ^ 32 % 2 ^ 32 ∷ length blocks % 2 ^ 32 ∷ 0 ∷ [])

-- the first 8 words of the compression of 28 words
abbrev pub eight_words : List ℕ → List ℕ
eight_words words = tabulate 8 (output_word (input_of words))

-- the chaining value before row i
unfoldable pub chaining_before : List ℕ → List (List ℕ) → ℕ → List ℕ
chaining_before start blocks zero = start
chaining_before start blocks (suc i) = eight_words (block_words blocks i (chaining_before start blocks i))

-- the 28 words of row i
abbrev pub chain_words : List ℕ → List (List ℕ) → ℕ → List ℕ
chain_words start blocks i = block_words blocks i (chaining_before start blocks i)

-- the blocks and chaining values of all rows
abbrev pub chain_inputs : List ℕ → List (List ℕ) → List (List ℕ)
chain_inputs start blocks = tabulate (length blocks) (λ i. joined_words blocks i (chaining_before start blocks i))

-- the chaining value after the last block
abbrev pub end_of : List ℕ → List (List ℕ) → List ℕ
end_of start blocks = chaining_before start blocks (length blocks)

-- the public values of a chain between two chaining values
abbrev pub publics_between : {F : Type 0} → Ring F → (start end : List ℕ) → List F
publics_between r start end = publics_of r (input_of start) (input_of end)

-- the trace: the rows of the compressions, one after another
abbrev pub chain_trace : {F : Type 0} → Ring F → List ℕ → List (List ℕ) → Rows F
chain_trace r start blocks = record { values = map (of_nat r) (rows_cells (chain_inputs start blocks)); width = 9168 }

-- row i is that of the compression of its 28 words
abbrev pub HasChainRows : {F : Type 0} → Ring F → List ℕ → List (List ℕ) → Rows F → Type 0
HasChainRows r start blocks m = (i : ℕ) → i < length blocks → row_at m i ≡ trace_row r (input_of (chain_words start blocks i))

-- the rows are those of a chain between two chaining values
abbrev pub IsChainTrace : {F : Type 0} → Ring F → (start end : List ℕ) → Rows F → Type 0
IsChainTrace r start end m = AreChainRows r (height m) (row_at m) (input_of start) (input_of end)

-- with the public values of this chain every constraint is zero on every row
abbrev pub MeetsChain : {F : Type 0} → Ring F → (start end : List ℕ) → Rows F → Type 0
MeetsChain r start end m = (i : ℕ) → i < height m → HoldsAtRow r (table_traces m None [] (publics_between r start end)) (chain_trees r) i

-- so many rows are a power of two, and their cells more than can be counted
abbrev pub IsLongChain : ℕ → Type 0
IsLongChain rows = IsPowerOfTwo rows × IsTooLong rows 0
