-- The rows that the generator gives.
use Rattle.std.specs.Prelude.{ℕ, ◌*◌, ◌/◌, ◌%◌, ◌^◌, ◌≤◌, List, [], ◌∷◌, ◌++◌, length}
use Rattle.std.specs.Prelude.{slice_index_or as get_or}
use Rattle.p3_field.specs.Poly.{tabulate}
use Rattle.air_core.specs.Joined.{joined}
use Rattle.blake3_compress.specs.TraceRow.{row_cells}
use Rattle.blake3_compress.specs.Generated.{input_of}

-- the 28 words of row i: those that are given for it, the counter i by halves, the number of rows as length, no flags
abbrev pub compression_input : List (List ℕ) → ℕ → List ℕ
compression_input inputs i =
    tabulate 24 (λ k. get_or (get_or inputs i []) k 0)
    ++ i % 2 ^ 32 ∷ i / 2 ^ 32 % 2 ^ 32 ∷ length inputs % 2 ^ 32 ∷ 0 ∷ []

-- the rows of the compressions, one after another
unfoldable pub rows_cells : List (List ℕ) → List ℕ
rows_cells inputs = joined (length inputs) (λ i. row_cells (input_of (compression_input inputs i)))

-- how often 2 may be multiplied to the cells of n rows
abbrev pub IsTooLong : ℕ → ℕ → Type 0
IsTooLong rows extra = 2 ^ 64 ≤ rows * 9168 * 2 ^ extra
