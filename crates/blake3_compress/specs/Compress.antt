-- The compression of BLAKE3 on words of 32 bits, after the BLAKE3 paper: G, a round of column and diagonal steps, the
-- permutation of the message words between rounds, and the output.
use Rattle.std.specs.Prelude.{ℕ, zero, suc, ◌+◌, ◌*◌, ◌%◌, ◌^◌, bit_xor, [], ◌∷◌}
use Rattle.std.specs.Prelude.{slice_index_or as get_or}
use Rattle.std.specs.Int.{rotate_right, w32}

-- the first four words of the initial value
abbrev pub iv : ℕ → ℕ
iv i = get_or (0x6a09e667 ∷ 0xbb67ae85 ∷ 0x3c6ef372 ∷ 0xa54ff53a ∷ []) i 0

-- The state: 16 words in four rows of four columns, by row and column.
abbrev pub State : Type 0
State = ℕ → ℕ → ℕ

-- four words of the state, one of each row
pub record Quarter : Type 0 where
  pub a : ℕ
  pub b : ℕ
  pub c : ℕ
  pub d : ℕ

-- the word of a row
abbrev pub word : Quarter → ℕ → ℕ
word q zero = q.a
word q (suc zero) = q.b
word q (suc (suc zero)) = q.c
word q (suc (suc (suc n))) = q.d

-- the first word of a half of G: a + b and the message word
unfoldable pub half_a : Quarter → ℕ → ℕ
half_a q m = (q.a + q.b + m) % 2 ^ 32

-- then d xor a, turned to the right by s
unfoldable pub half_d : ℕ → Quarter → ℕ → ℕ
half_d s q m = rotate_right w32 (bit_xor q.d (half_a q m)) s

-- then c + d
unfoldable pub half_c : ℕ → Quarter → ℕ → ℕ
half_c s q m = (q.c + half_d s q m) % 2 ^ 32

-- then b xor c, turned to the right by t
unfoldable pub half_b : ℕ → ℕ → Quarter → ℕ → ℕ
half_b s t q m = rotate_right w32 (bit_xor q.b (half_c s q m)) t

-- A half of G, which takes in one message word and turns d by s and b by t.
abbrev pub half_quarter_round : ℕ → ℕ → Quarter → ℕ → Quarter
half_quarter_round s t q m = record { a = half_a q m; b = half_b s t q m; c = half_c s q m; d = half_d s q m }

-- G, which takes in two message words.
abbrev pub quarter_round : Quarter → ℕ → ℕ → Quarter
quarter_round q x y = half_quarter_round 8 7 (half_quarter_round 16 12 q x) y

-- Step g takes a column, or a diagonal: row i's word of step g stands in column g + t i, with t = 0 for columns and
-- t = 1 for diagonals.
abbrev pub column_of : ℕ → ℕ → ℕ → ℕ
column_of t row g = (g + t * row) % 4

-- the step that takes the word of this row and column
abbrev pub step_of_word : ℕ → ℕ → ℕ → ℕ
step_of_word t row column = (column + 3 * (t * row)) % 4

-- the words that step g takes
abbrev pub words_taken : ℕ → State → ℕ → Quarter
words_taken t v g = record { a = v 0 (column_of t 0 g); b = v 1 (column_of t 1 g); c = v 2 (column_of t 2 g); d = v 3 (column_of t 3 g) }

-- the state after four column or diagonal steps, where step g makes these words of those that it takes
abbrev pub steps : ℕ → (ℕ → Quarter → Quarter) → State → State
steps t f v row column = word (f (step_of_word t row column) (words_taken t v (step_of_word t row column))) row

-- A round: four column steps, then four diagonal steps. Steps g, of all eight, takes message words 2g and 2g + 1.
abbrev pub round : (ℕ → ℕ) → State → State
round m v = steps 1 (λ g q. quarter_round q (m (8 + 2 * g)) (m (9 + 2 * g))) (steps 0 (λ g q. quarter_round q (m (2 * g)) (m (1 + 2 * g))) v)

-- between rounds word i becomes word `permuted i`
abbrev pub permuted : ℕ → ℕ
permuted i = get_or (2 ∷ 6 ∷ 3 ∷ 10 ∷ 7 ∷ 0 ∷ 4 ∷ 13 ∷ 1 ∷ 11 ∷ 12 ∷ 5 ∷ 9 ∷ 14 ∷ 15 ∷ 8 ∷ []) i 0

-- which word of the block is message word i of round n
unfoldable pub scheduled : ℕ → ℕ → ℕ
scheduled zero i = i
scheduled (suc n) i = scheduled n (permuted i)

-- What is compressed: 28 words. The block's 16, the chaining value's 8, the counter's low and high half, the block's
-- length and the flags.
abbrev pub Input : Type 0
Input = ℕ → ℕ

abbrev pub chaining : Input → ℕ → ℕ
chaining x i = x (16 + i)

-- the first state: the chaining value, four words of the initial value, and the last four words
abbrev pub first_state : Input → State
first_state x zero column = chaining x column
first_state x (suc zero) column = chaining x (4 + column)
first_state x (suc (suc zero)) column = iv column
first_state x (suc (suc (suc n))) column = x (24 + column)

-- the state after n rounds
unfoldable pub after_rounds : Input → ℕ → State
after_rounds x zero = first_state x
after_rounds x (suc n) = round (λ i. x (scheduled n i)) (after_rounds x n)

-- The output, by groups of four words: the upper rows xor the lower ones, then the lower ones xor the chaining value.
abbrev pub output_of : Input → State → ℕ → ℕ → ℕ
output_of x v zero i = bit_xor (v 0 i) (v 2 i)
output_of x v (suc zero) i = bit_xor (v 1 i) (v 3 i)
output_of x v (suc (suc zero)) i = bit_xor (v 2 i) (chaining x i)
output_of x v (suc (suc (suc n))) i = bit_xor (v 3 i) (chaining x (4 + i))

-- The compression: word i of group k.
abbrev pub compress : Input → ℕ → ℕ → ℕ
compress x = output_of x (after_rounds x 7)
