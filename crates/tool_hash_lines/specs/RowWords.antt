-- The words that are printed of a row of a hash table.
use Rattle.std.specs.Prelude.{ℕ, zero, suc, ◌+◌, ◌-◌, ◌*◌, ◌<◌, List, Bool, true, ◌&&◌, nat_lt, if◌then◌else◌}
use Rattle.std.specs.Prelude.{slice_index_or as get_or}
use Rattle.air_gadgets.specs.Words.{bits_word}
use Rattle.p3_field.specs.BabyBear.{baby_bear_ring}
use Rattle.p3_field.specs.Poly.{tabulate}
use Rattle.p3_field.specs.declared.baby_bear.BabyBear.{BabyBear}

-- the canonical number of the cell in a column
abbrev pub cell_number : List BabyBear → (column : ℕ) → ℕ
cell_number cells column = (get_or cells column baby_bear_ring.zero).value

-- the first of the 32 columns of printed word w: 28 words stand from column 0 on, the compression's input, and 16 from column 8656 on, its output
abbrev pub word_column : (w : ℕ) → ℕ
word_column w = if nat_lt w 28 then 32 * w else 8656 + 32 * (w - 28)

-- the 32 cells from a column on are bits
abbrev pub HasBitCells : List BabyBear → (column : ℕ) → Type 0
HasBitCells cells column = (b : ℕ) → b < 32 → cell_number cells (column + b) < 2

-- the word whose bits these are, the lowest first
unfoldable pub word_at : List BabyBear → (column : ℕ) → ℕ
word_at cells column = bits_word (λ b. cell_number cells (column + b))

-- all cells of the 44 printed words are bits
abbrev pub IsReadable : List BabyBear → Type 0
IsReadable cells = (w : ℕ) → w < 44 → HasBitCells cells (word_column w)

-- the 44 printed words
unfoldable pub printed_words : List BabyBear → List ℕ
printed_words cells = tabulate 44 (λ w. word_at cells (word_column w))

-- p 0, .., p (n - 1) are all true
abbrev pub all_true_below : (p : ℕ → Bool) → ℕ → Bool
all_true_below p zero = true
all_true_below p (suc n) = p n && all_true_below p n

-- whether the row is readable
unfoldable pub is_readable : List BabyBear → Bool
is_readable cells = all_true_below (λ w. all_true_below (λ b. nat_lt (cell_number cells (word_column w + b)) 2) 32) 44
