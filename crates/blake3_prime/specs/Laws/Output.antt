-- The output's cells in a trace row, and that the row has the words of one compression alone.
use Rattle.std.proofs.Common.{◌≡◌, ℕ, zero, suc, ◌+◌, ◌*◌, ◌/◌, ◌%◌, ◌^◌, ◌<◌, List, length, get_or, sym, ◌∙◌, ap, arith}
use Rattle.std.specs.Int.{bit_at}
use Rattle.std.proofs.lemmas.Nat.{xor_lt}
use Rattle.std.proofs.lemmas.Nat.Bits.{bit_at-lt, same_from_bits_below}
use Rattle.p3_field.specs.Ring.{Ring, of_nat}
use Rattle.p3_field.specs.Poly.{tabulate}
use Rattle.p3_field.specs.Laws.Tabulate.{tabulate_items, tabulate_same}
use Rattle.air_core.specs.Joined.{joined}
use Rattle.air_gadgets.specs.Words.{PrimeFieldLaws}
use Rattle.air_gadgets.specs.Laws.Gadgets.{same_number}
use Rattle.blake3_compress.specs.Compress.{Input, output_of, compress}
use Rattle.blake3_compress.specs.TraceRow.{state, row_cells, trace_row, AreWords}
use Rattle.blake3_compress.specs.Generated.{words_of}
use Rattle.blake3_compress.specs.Laws.Cells.{where_cells, bit_cell, trace_cell}
use Rattle.blake3_compress.specs.Laws.Compress.{output_is_compressed}
use Rattle.blake3_prime.specs.Meanings.{WordsAreDetermined}
use Rattle.blake3_prime.specs.Laws.Rounds.{state_words}

-- the output's words are words
pub output_below : (x : Input) → AreWords x → (k i : ℕ) → i < 4 → output_of x (state x 28) k i < 2 ^ 32
output_below x w zero i lt = xor_lt 32 (state x 28 0 i) (state x 28 2 i) (state_words x w 28 0 i lt) (state_words x w 28 2 i lt)
output_below x w (suc zero) i lt = xor_lt 32 (state x 28 1 i) (state x 28 3 i) (state_words x w 28 1 i lt) (state_words x w 28 3 i lt)
output_below x w (suc (suc zero)) i lt = xor_lt 32 (state x 28 2 i) (x (16 + i)) (state_words x w 28 2 i lt) (w (16 + i) (omega (arith, lt)))
output_below x w (suc (suc (suc k))) i lt = xor_lt 32 (state x 28 3 i) (x (16 + (4 + i))) (state_words x w 28 3 i lt) (w (16 + (4 + i)) (omega (arith, lt)))

-- output word i of 16
abbrev pub output_word : Input → ℕ → ℕ
output_word x i = output_of x (state x 28) (i / 4) (i % 4)

pub output_cell : {A : Type 0} (r : Ring A) (x : Input) (xs : List A) → xs ≡ trace_row r x → (i k : ℕ) (d : A) → i < 16 → k < 32
    → get_or xs (8656 + 32 * i + k) d ≡ of_nat r (bit_at (output_word x i) k)
output_cell r x xs e i k d li lk =
    let j = i / 4 in
    let m = i % 4 in
    let lj : j < 4 = omega (arith, li) in
    let at : 8656 + 32 * i + k ≡ 8656 + 128 * j + 32 * m + k = omega arith in
    ap (λ ys. get_or ys (8656 + 32 * i + k) d) e
    ∙ (trace_cell r x (8656 + 32 * i + k) d (omega (arith, li, lk))
    ∙ ap (of_nat r) (ap (λ n. get_or (row_cells x) n 0) at
    ∙ bit_cell (row_cells x) (8656 + 128 * j) 4 (output_of x (state x 28) j) ((where_cells x).outputs j lj) m k (omega arith) lk))

-- 16 words in groups of four
pub in_groups : (f : ℕ → ℕ → ℕ) → tabulate 16 (λ i. f (i / 4) (i % 4)) ≡ words_of f
unfolding joined
in_groups f = λ j. words_of f

pub compressed_words : (x : Input) (ws : List ℕ) → length ws ≡ 16 → ((i : ℕ) → i < 16 → get_or ws i 0 ≡ output_word x i) → ws ≡ words_of (compress x)
compressed_words x ws long h =
    tabulate_items 0 ws 16 long
    ∙ (tabulate_same 16 (λ i. get_or ws i 0) (λ i. compress x (i / 4) (i % 4)) (λ i lt. h i lt ∙ output_is_compressed x (i / 4) (i % 4) (omega (arith, lt)) (omega arith))
    ∙ in_groups (compress x))

-- the input's words are those of the row
pub words_determined : {A : Type 0} (r : Ring A) (inv : A → A) (order : ℕ) (canonical : A → ℕ) → PrimeFieldLaws r inv order canonical → 2 ^ 20 < order → WordsAreDetermined r
words_determined r inv order canonical P o x y wx wy e i li =
    same_from_bits_below 32 (x i) (y i) (wx i li) (wy i li)
    (λ k lk.
    let n = 0 + 32 * i + k in
    let ln : n < 9168 = omega (arith, li, lk) in
    let bx = bit_cell (row_cells x) 0 28 x (where_cells x).input i k li lk in
    let by = bit_cell (row_cells y) 0 28 y (where_cells y).input i k li lk in
    let same : of_nat r (bit_at (x i) k) ≡ of_nat r (bit_at (y i) k) =
    sym (trace_cell r x n r.zero ln ∙ ap (of_nat r) bx) ∙ (ap (λ xs. get_or xs n r.zero) e ∙ (trace_cell r y n r.zero ln ∙ ap (of_nat r) by)) in
    same_number r inv order canonical P (bit_at (x i) k) (bit_at (y i) k) (omega (arith, o, bit_at-lt (x i) k)) (omega (arith, o, bit_at-lt (y i) k)) same)
