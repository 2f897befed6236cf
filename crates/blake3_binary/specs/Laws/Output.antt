-- Of the row of a compression its output is read.
use Rattle.std.proofs.Common.{◌≡◌, ℕ, zero, suc, ◌+◌, ◌*◌, ◌^◌, ◌<◌, ◌≤◌, List, get_or, refl, sym, ◌∙◌, ap, arith}
use Rattle.std.specs.Prelude.{bit_xor}
use Rattle.std.specs.Int.{bit_at, rotate_left, w32}
use Rattle.std.proofs.lemmas.List.{get_or-map}
use Rattle.std.proofs.lemmas.Nat.Bits.{bit_at-lt, same_from_bits_below}
use Rattle.p3_field.specs.Ring.{Ring, of_nat}
use Rattle.blake3_compress.specs.Compress.{word, half_b, half_d, Input, chaining, step_of_word, output_of, compress}
use Rattle.blake3_compress.specs.TraceRow.{turn_of, d_turn, b_turn, message_of, state, AreWords}
use Rattle.blake3_compress.specs.Laws.Words.{turned_there}
use Rattle.blake3_compress.specs.Laws.Compress.{taken_made, output_is_compressed}
use Rattle.blake3_compress.specs.Laws.State.{same_output}
use Rattle.blake3_compress.specs.Generated.{words_of}
use Rattle.blake3_binary.specs.Meanings.{AreWords4}
use Rattle.blake3_binary.specs.Trees.{half_column}
use Rattle.blake3_binary.specs.Row.{before_half, after_half, binary_cells, binary_trace_row}
use Rattle.blake3_compress.specs.Reading.{HasWordAt, CountsAt}
use Rattle.blake3_binary.specs.Output.{step_words, state_read, AreRead}
use Rattle.blake3_binary.specs.Laws.Words.{half_words, taken_words, state_words}
use Rattle.blake3_binary.specs.Laws.Bits.{row_steps, long_row, input_cells}

same_bit : (a b : ℕ) → a < 2 → b < 2 → (a ≡ 0 → b ≡ 0) → (b ≡ 0 → a ≡ 0) → a ≡ b
same_bit zero b la lb f g = sym (f refl)
same_bit (suc zero) zero la lb f g = g refl
same_bit (suc zero) (suc zero) la lb f g = refl
same_bit (suc zero) (suc (suc b)) la lb f g = absurd (omega (arith, lb))
same_bit (suc (suc a)) b la lb f g = absurd (omega (arith, la))

-- cells count as one word alone
pub same_counted : {F : Type 0} (r : Ring F) (row : List F) (at v w : ℕ) → CountsAt r row at v → CountsAt r row at w → v ≡ w
same_counted r row at v w hv hw =
    same_from_bits_below 32 v w hv.0 hw.0
    (λ k lk. same_bit (bit_at v k) (bit_at w k) (bit_at-lt v k) (bit_at-lt w k) (λ e. (hw.1 k r.zero lk).1 ((hv.1 k r.zero lk).0 e)) (λ e. (hv.1 k r.zero lk).1 ((hw.1 k r.zero lk).0 e)))

-- the second half of a step takes what the first half made
before_is : (x : Input) (g : ℕ) → g < 4 → before_half x 27 g ≡ after_half x 26 g
unfolding state
before_is x g lg = taken_made 1 (λ k. after_half x 26 k) g (omega arith) lg

half_below : (x : Input) (n g : ℕ) → AreWords x → AreWords4 (after_half x n g)
half_below x n g W = half_words (d_turn n) (b_turn n) (before_half x n g) (x (message_of n g)) (taken_words (turn_of n) (state x n) g (state_words x W n))

-- a is d before it xor (d after it, turned back), and c likewise by b
a_is : (x : Input) (g : ℕ) → AreWords x → g < 4 → bit_xor (after_half x 26 g).d (rotate_left w32 (after_half x 27 g).d 8) ≡ (after_half x 27 g).a
unfolding half_d
a_is x g W lg =
    let q = before_half x 27 g in
    let Q = taken_words (turn_of 27) (state x 27) g (state_words x W 27) in
    let e = before_is x g lg in
    ap (λ p. bit_xor p.d (rotate_left w32 (after_half x 27 g).d 8)) (sym e) ∙ turned_there q.d (after_half x 27 g).a 8 Q.d_word (half_below x 27 g W).a_word

c_is : (x : Input) (g : ℕ) → AreWords x → g < 4 → bit_xor (after_half x 26 g).b (rotate_left w32 (after_half x 27 g).b 7) ≡ (after_half x 27 g).c
unfolding half_b
c_is x g W lg =
    let q = before_half x 27 g in
    let Q = taken_words (turn_of 27) (state x 27) g (state_words x W 27) in
    let e = before_is x g lg in
    ap (λ p. bit_xor p.b (rotate_left w32 (after_half x 27 g).b 7)) (sym e) ∙ turned_there q.b (after_half x 27 g).c 7 Q.b_word (half_below x 27 g W).c_word

module _ (x : Input) where
  abbrev pub row_d1 : ℕ → ℕ
  row_d1 g = (after_half x 26 g).d

  abbrev pub row_b1 : ℕ → ℕ
  row_b1 g = (after_half x 26 g).b

  abbrev pub row_d2 : ℕ → ℕ
  row_d2 g = (after_half x 27 g).d

  abbrev pub row_b2 : ℕ → ℕ
  row_b2 g = (after_half x 27 g).b

  made_is : AreWords x → (g : ℕ) → g < 4 → step_words (row_d1 g) (row_b1 g) (row_d2 g) (row_b2 g) ≡ after_half x 27 g
  made_is W g lg = λ j. record { a = a_is x g W lg j; b = row_b2 g; c = c_is x g W lg j; d = row_d2 g }

  last_state : (row i : ℕ) → state x 28 row i ≡ word (after_half x 27 (step_of_word 1 row i)) row
  unfolding state
  last_state row i = refl

  same_state : AreWords x → (row i : ℕ) → state_read row_d1 row_b1 row_d2 row_b2 row i ≡ state x 28 row i
  same_state W row i = ap (λ q. word q row) (made_is W (step_of_word 1 row i) (omega arith)) ∙ sym (last_state row i)

  read_word : AreWords x → (k i : ℕ) → k < 4 → i < 4 → output_of x (state_read row_d1 row_b1 row_d2 row_b2) k i ≡ output_of x (state x 28) k i
  read_word W zero i lk li = λ j. bit_xor (same_state W 0 i j) (same_state W 2 i j)
  read_word W (suc zero) i lk li = λ j. bit_xor (same_state W 1 i j) (same_state W 3 i j)
  read_word W (suc (suc zero)) i lk li = λ j. bit_xor (same_state W 2 i j) (chaining x i)
  read_word W (suc (suc (suc k))) i lk li = λ j. bit_xor (same_state W 3 i j) (chaining x (4 + i))

  -- what is read of the row of a compression is its output
  pub output_read : AreWords x → words_of (output_of x (state_read row_d1 row_b1 row_d2 row_b2)) ≡ words_of (compress x)
  output_read W =
      same_output (output_of x (state_read row_d1 row_b1 row_d2 row_b2)) (compress x)
      (λ k i lk li. read_word W k i lk li ∙ output_is_compressed x k i lk li)

  module _ {F : Type 0} (r : Ring F) (row : List F) (W : AreWords x) (e : row ≡ binary_trace_row r x) where
    word_in_row : (at w : ℕ) → w < 2 ^ 32 → at + 32 ≤ 11536 → ((k : ℕ) → k < 32 → get_or (binary_cells x) (at + k) 0 ≡ bit_at w k) → HasWordAt r row at w
    word_in_row at w lw le h = (
      lw,
      λ k d lt. ap (λ xs. get_or xs (at + k) d) e ∙ (get_or-map (of_nat r) (binary_cells x) (at + k) 0 d (omega (arith, long_row x, le, lt)) ∙ ap (of_nat r) (h k lt)),
    )

    d_in_row : (n g : ℕ) → n < 28 → g < 4 → HasWordAt r row (half_column n g + 31) (after_half x n g).d
    d_in_row n g ln lg = word_in_row (half_column n g + 31) (after_half x n g).d (half_below x n g W).d_word (omega (arith, ln, lg)) (λ k lk. (row_steps x).second n g k ln lg lk)

    b_in_row : (n g : ℕ) → n < 28 → g < 4 → HasWordAt r row (half_column n g + 63) (after_half x n g).b
    b_in_row n g ln lg = word_in_row (half_column n g + 63) (after_half x n g).b (half_below x n g W).b_word (omega (arith, ln, lg)) (λ k lk. (row_steps x).third n g k ln lg lk)

    pub row_is_read : AreRead r row x row_d1 row_b1 row_d2 row_b2
    row_is_read = record {
      chain = λ i li. word_in_row (32 * i) (chaining x i) (W (16 + i) (omega (arith, li))) (omega (arith, li)) (λ k lk. (input_cells x).chain i k li lk);
      first_d = λ g lg. d_in_row 26 g (omega arith) lg;
      first_b = λ g lg. b_in_row 26 g (omega arith) lg;
      second_d = λ g lg. d_in_row 27 g (omega arith) lg;
      second_b = λ g lg. b_in_row 27 g (omega arith) lg;
    }
