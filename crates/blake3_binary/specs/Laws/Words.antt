-- The words of each state are words.
use Rattle.std.proofs.Common.{ℕ, zero, suc, ◌+◌, ◌^◌, ◌<◌, arith, lit<}
use Rattle.std.specs.Prelude.{bit_xor}
use Rattle.std.proofs.lemmas.Nat.{xor_lt, mod_below}
use Rattle.blake3_compress.specs.Compress.{Quarter, word, half_quarter_round, half_a, half_b, half_c, half_d, State, Input, column_of, step_of_word, words_taken, first_state}
use Rattle.blake3_compress.specs.TraceRow.{turn_of, d_turn, b_turn, message_of, half_round, state, AreWords}
use Rattle.blake3_compress.specs.Laws.Schedule.{iv_below}
use Rattle.blake3_compress.specs.Laws.Words.{right_below}
use Rattle.blake3_binary.specs.Meanings.{AreWords4}

-- the words after half a step are words
pub half_words : (s t : ℕ) (q : Quarter) (x : ℕ) → AreWords4 q → AreWords4 (half_quarter_round s t q x)
unfolding half_a half_b half_c half_d
half_words s t q x Q =
    let S = half_a q x in
    let D = half_d s q x in
    let C = half_c s q x in
    let S_word : S < 2 ^ 32 = mod_below (q.a + q.b + x) (2 ^ 32) (lit< tt) in
    let C_word : C < 2 ^ 32 = mod_below (q.c + D) (2 ^ 32) (lit< tt) in
    record {
      a_word = S_word;
      b_word = right_below (bit_xor q.b C) t (xor_lt 32 q.b C Q.b_word C_word);
      c_word = C_word;
      d_word = right_below (bit_xor q.d S) s (xor_lt 32 q.d S Q.d_word S_word);
    }

-- the 16 words are words
abbrev pub AreStateWords : State → Type 0
AreStateWords v = (row i : ℕ) → i < 4 → v row i < 2 ^ 32

word_below : (q : Quarter) → AreWords4 q → (row : ℕ) → word q row < 2 ^ 32
word_below q Q zero = Q.a_word
word_below q Q (suc zero) = Q.b_word
word_below q Q (suc (suc zero)) = Q.c_word
word_below q Q (suc (suc (suc n))) = Q.d_word

pub taken_words : (t : ℕ) (v : State) (g : ℕ) → AreStateWords v → AreWords4 (words_taken t v g)
taken_words t v g h = record {
  a_word = h 0 (column_of t 0 g) (omega arith);
  b_word = h 1 (column_of t 1 g) (omega arith);
  c_word = h 2 (column_of t 2 g) (omega arith);
  d_word = h 3 (column_of t 3 g) (omega arith);
}

first_words : (x : Input) → AreWords x → AreStateWords (first_state x)
first_words x w zero i h = w (16 + i) (omega (arith, h))
first_words x w (suc zero) i h = w (16 + (4 + i)) (omega (arith, h))
first_words x w (suc (suc zero)) i h = iv_below i
first_words x w (suc (suc (suc n))) i h = w (24 + i) (omega (arith, h))

half_round_words : (x : Input) (n : ℕ) (v : State) → AreStateWords v → AreStateWords (half_round x n v)
half_round_words x n v h row i lt =
    let g = step_of_word (turn_of n) row i in
    let q = words_taken (turn_of n) v g in
    let m = x (message_of n g) in
    word_below (half_quarter_round (d_turn n) (b_turn n) q m) (half_words (d_turn n) (b_turn n) q m (taken_words (turn_of n) v g h)) row

pub state_words : (x : Input) → AreWords x → (n : ℕ) → AreStateWords (state x n)
unfolding state
state_words x w zero = first_words x w
state_words x w (suc n) = half_round_words x n (state x n) (state_words x w n)
