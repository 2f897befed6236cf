-- The line of the row of one compression.
use Rattle.std.proofs.Common.{◌≡◌, ℕ, zero, suc, ◌+◌, ◌-◌, ◌*◌, ◌/◌, ◌%◌, ◌^◌, ◌<◌, ◌≤◌, List, ◌++◌, false, get_or, refl, sym, ◌∙◌, ap, subst, arith, inl, inr}
use Rattle.std.specs.Int.{bit_at}
use Rattle.std.specs.Prelude.{nat_lt, if◌then◌else◌}
use Rattle.std.proofs.lemmas.Bool.{cases_lt}
use Rattle.std.proofs.lemmas.Bool.Decides.{Decides-ltb}
use Rattle.std.proofs.lemmas.Nat.Bits.{bit_at-lt}
use Rattle.p3_field.specs.BabyBear.{baby_bear_ring}
use Rattle.p3_field.specs.Laws.BabyBearField.{baby_bear_canonical_of}
use Rattle.p3_field.specs.Laws.Tabulate.{get_or-tabulate, length-tabulate, tabulate-append, tabulate_same}
use Rattle.p3_field.specs.Poly.{tabulate}
use Rattle.p3_field.specs.Ring.{of_nat}
use Rattle.p3_field.specs.declared.baby_bear.BabyBear.{BabyBear}
use Rattle.air_gadgets.specs.Laws.Words.{word_of_bits}
use Rattle.air_gadgets.specs.Words.{bits_number}
use Rattle.blake3_compress.specs.Compress.{Input, compress}
use Rattle.blake3_compress.specs.Generated.{words_of}
use Rattle.blake3_compress.specs.Laws.Cells.{bit_cell, trace_cell, where_cells}
use Rattle.blake3_compress.specs.TraceRow.{AreWords, row_cells, trace_row}
use Rattle.blake3_prime.specs.Laws.Output.{compressed_words, output_below, output_cell, output_word}
use Rattle.tool_hash_lines.specs.Compressions.{PrintsCompressions, printed_compression_words}
use Rattle.tool_hash_lines.specs.Laws.Readable.{not_true, readable_line}
use Rattle.tool_hash_lines.specs.RowText.{words_line}
use Rattle.tool_hash_lines.specs.RowWords.{HasBitCells, IsReadable, cell_number, printed_words, word_at, word_column}

-- the number of a bit's element
bit_number : (y : BabyBear) (n : ℕ) → n < 2 → y ≡ of_nat baby_bear_ring n → y.value ≡ n
bit_number y n h e =
    let v : (of_nat baby_bear_ring n).value ≡ n % 2013265921 = baby_bear_canonical_of n in
    let w : y.value ≡ n % 2013265921 = ap (λ (z : BabyBear). z.value) e ∙ v in
    omega (arith, w, h)

-- the same bits make the same number
same_numbers : (f g : ℕ → ℕ) (k n : ℕ) → ((i : ℕ) → k ≤ i → i < k + n → f i ≡ g i) → bits_number f k n ≡ bits_number g k n
unfolding bits_number
same_numbers f g k zero h = refl
same_numbers f g k (suc n) h =
    let here : f k ≡ g k = h k (omega arith) (omega arith) in
    let rest : bits_number f (suc k) n ≡ bits_number g (suc k) n = same_numbers f g (suc k) n (λ i a l. h i (omega (arith, a)) (omega (arith, l))) in
    omega (arith, here, rest)

-- cells that are the bits of a word
reads_word : (cells : List BabyBear) (column w : ℕ) → w < 2 ^ 32 → ((b : ℕ) → b < 32 → get_or cells (column + b) baby_bear_ring.zero ≡ of_nat baby_bear_ring (bit_at w b))
    → HasBitCells cells column × (word_at cells column ≡ w)
unfolding word_at
reads_word cells column w lt h =
    let is : (b : ℕ) → b < 32 → cell_number cells (column + b) ≡ bit_at w b = λ b l. bit_number (get_or cells (column + b) baby_bear_ring.zero) (bit_at w b) (bit_at-lt w b) (h b l) in
    (λ b l. omega (arith, is b l, bit_at-lt w b), same_numbers (λ b. cell_number cells (column + b)) (bit_at w) 0 32 (λ i a l. is i (omega (arith, l))) ∙ word_of_bits w lt)

-- where the words stand
input_column : (w : ℕ) → w < 28 → word_column w ≡ 32 * w
input_column w h = ap (λ b. if b then 32 * w else 8656 + 32 * (w - 28)) ((Decides-ltb w 28).1 h)

output_column : (i : ℕ) → word_column (28 + i) ≡ 8656 + 32 * i
output_column i =
    let past : nat_lt (28 + i) 28 ≡ false = not_true (nat_lt (28 + i) 28) (λ e. let l : 28 + i < 28 = (Decides-ltb (28 + i) 28).0 e in omega (arith, l)) in
    let back : 28 + i - 28 ≡ i = omega arith in
    ap (λ b. if b then 32 * (28 + i) else 8656 + 32 * (28 + i - 28)) past ∙ ap (λ j. 8656 + 32 * j) back

module _ (cells : List BabyBear) (x : Input) (words : AreWords x) (is : cells ≡ trace_row baby_bear_ring x) where
  -- the input's words
  reads_input : (w : ℕ) → w < 28 → HasBitCells cells (word_column w) × (word_at cells (word_column w) ≡ x w)
  reads_input w h =
      let cell : (b : ℕ) → b < 32 → get_or cells (32 * w + b) baby_bear_ring.zero ≡ of_nat baby_bear_ring (bit_at (x w) b) = λ b l.
      let at : 32 * w + b ≡ 0 + 32 * w + b = omega arith in
      ap (λ ys. get_or ys (32 * w + b) baby_bear_ring.zero) is
      ∙ (trace_cell baby_bear_ring x (32 * w + b) baby_bear_ring.zero (omega (arith, h, l))
      ∙ ap (of_nat baby_bear_ring) (ap (λ n. get_or (row_cells x) n 0) at ∙ bit_cell (row_cells x) 0 28 x (where_cells x).input w b h l)) in
      subst (λ c. HasBitCells cells c × (word_at cells c ≡ x w)) (sym (input_column w h)) (reads_word cells (32 * w) (x w) (words w h) cell)

  -- the output's
  reads_output : (i : ℕ) → i < 16 → HasBitCells cells (word_column (28 + i)) × (word_at cells (word_column (28 + i)) ≡ output_word x i)
  reads_output i h =
      let cell : (b : ℕ) → b < 32 → get_or cells (8656 + 32 * i + b) baby_bear_ring.zero ≡ of_nat baby_bear_ring (bit_at (output_word x i) b) = λ b l.
      output_cell baby_bear_ring x cells is i b baby_bear_ring.zero h l in
      subst (λ c. HasBitCells cells c × (word_at cells c ≡ output_word x i)) (sym (output_column i))
      (reads_word cells (8656 + 32 * i) (output_word x i) (output_below x words (i / 4) (i % 4) (omega arith)) cell)

  -- so the row is readable
  pub is_legible : IsReadable cells
  is_legible w h = elim (cases_lt w 28) [
    | inl a ↦ (reads_input w a).0
    | inr a ↦
        let e : 28 + (w - 28) ≡ w = omega (arith, a) in
        subst (λ v. HasBitCells cells (word_column v)) e (reads_output (w - 28) (omega (arith, a, h))).0
  ]

  -- and has these words
  pub prints_words : printed_words cells ≡ printed_compression_words x
  unfolding printed_words printed_compression_words
  prints_words =
      let at : ℕ → ℕ = λ w. word_at cells (word_column w) in
      let late : ℕ → ℕ = λ i. at (28 + i) in
      let front : tabulate 28 at ≡ tabulate 28 x = tabulate_same 28 at x (λ w h. (reads_input w h).1) in
      let back : tabulate 16 late ≡ words_of (compress x) =
      compressed_words x (tabulate 16 late) (length-tabulate 16 late) (λ i h. get_or-tabulate 16 late i 0 h ∙ (reads_output i h).1) in
      tabulate-append 28 16 at ∙ (ap (λ ws. ws ++ tabulate 16 late) front ∙ ap (λ ws. tabulate 28 x ++ ws) back)

pub line_of_compression : PrintsCompressions
line_of_compression row cells x words is = readable_line row cells (is_legible cells x words is) ∙ ap words_line (prints_words cells x words is)
