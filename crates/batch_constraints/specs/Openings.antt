-- How many values a table with lookups opens. After Plonky3's p3-batch-stark (num_batched_openings).
use Rattle.std.specs.Prelude.{ℕ, zero, suc, ◌+◌, ◌*◌, Bool}
use Rattle.p3_uni_stark.specs.Shape.{opened_count}

-- the coefficients of the permutation columns that are opened: each column has so many, and is opened in this row and in the
-- next; the columns are the running sum and one for each lookup
abbrev pub column_openings : ℕ → ℕ → ℕ
column_openings zero dimension = 0
column_openings (suc n) dimension = 2 * (suc n + 1) * dimension

-- what a table opens: as without lookups, and the permutation columns
abbrev pub batched_count : ℕ → Bool → ℕ → Bool → ℕ → ℕ → ℕ → ℕ
batched_count main main_next preprocessed preprocessed_next chunks lookups dimension =
    opened_count main main_next preprocessed preprocessed_next chunks dimension + column_openings lookups dimension
