-- Whether a row is readable, as a test and as a fact.
use Rattle.std.proofs.Common.{◌≡◌, ℕ, ◌+◌, ◌<◌, List, Bool, true, false, length, refl, ap}
use Rattle.std.specs.Bool.{Decides}
use Rattle.std.specs.Prelude.{nat_lt, if◌then◌else◌}
use Rattle.std.proofs.lemmas.Bool.Decides.{Decides-below_and, Decides-ltb}
use Rattle.p3_field.specs.declared.baby_bear.BabyBear.{BabyBear}
use Rattle.p3_field.specs.Laws.Tabulate.{length-tabulate}
use Rattle.tool_hash_lines.specs.RowText.{row_line, unreadable_line, words_line}
use Rattle.tool_hash_lines.specs.RowWords.{HasBitCells, IsReadable, all_true_below, cell_number, is_readable, printed_words, word_at, word_column}

-- the 32 cells from a column on
bits_decided : (cells : List BabyBear) (column n : ℕ) → Decides (all_true_below (λ b. nat_lt (cell_number cells (column + b)) 2) n) ((b : ℕ) → b < n → cell_number cells (column + b) < 2)
bits_decided cells column n =
    let p = λ (b : ℕ). nat_lt (cell_number cells (column + b)) 2 in
    Decides-below_and p (λ b. cell_number cells (column + b) < 2) (all_true_below p) (λ b. Decides-ltb (cell_number cells (column + b)) 2) refl (λ _. refl) n

-- the test is true exactly where all cells of the printed words are bits
pub readable_decided : (cells : List BabyBear) → Decides (is_readable cells) (IsReadable cells)
unfolding is_readable
readable_decided cells =
    let p = λ (w : ℕ). all_true_below (λ b. nat_lt (cell_number cells (word_column w + b)) 2) 32 in
    Decides-below_and p (λ w. HasBitCells cells (word_column w)) (all_true_below p) (λ w. bits_decided cells (word_column w) 32) refl (λ _. refl) 44

-- the line of a row that is readable, and of one that isn't
pub readable_line : (row : ℕ) (cells : List BabyBear) → IsReadable cells → row_line row cells ≡ words_line (printed_words cells)
readable_line row cells h = ap (λ b. if b then words_line (printed_words cells) else unreadable_line row) ((readable_decided cells).1 h)

pub not_true : (b : Bool) → (b ≡ true → ⊥) → b ≡ false
not_true true h = absurd (h refl)
not_true false h = refl

pub unreadable_is : (row : ℕ) (cells : List BabyBear) → (IsReadable cells → ⊥) → row_line row cells ≡ unreadable_line row
unreadable_is row cells h =
    ap (λ b. if b then words_line (printed_words cells) else unreadable_line row) (not_true (is_readable cells) (λ e. h ((readable_decided cells).0 e)))

-- a row has 44 words
pub length-printed_words : (cells : List BabyBear) → length (printed_words cells) ≡ 44
unfolding printed_words
length-printed_words cells = length-tabulate 44 (λ w. word_at cells (word_column w))
