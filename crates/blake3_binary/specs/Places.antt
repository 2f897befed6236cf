-- Where the words of the state stand in the row, and the constraints of half a step by these places.
use Rattle.std.specs.Prelude.{ℕ, zero, suc, ◌+◌, ◌*◌, ◌/◌, ◌%◌, ◌≤◌, List, ◌++◌}
use Rattle.std.specs.Int.{bit_at}
use Rattle.p3_field.specs.Ring.{Ring}
use Rattle.air_core.specs.Tree.{Tree}
use Rattle.air_gadgets.specs.Gadgets.{number}
use Rattle.air_core.specs.Joined.{joined}
use Rattle.blake3_compress.specs.Compress.{iv, column_of, step_of_word}
use Rattle.blake3_compress.specs.TraceRow.{turn_of, d_turn, b_turn}
use Rattle.blake3_binary.specs.declared.words.Word.{Word}
use Rattle.blake3_binary.specs.declared.words.Word.TheVariants.{Column, Constant, Turned}
use Rattle.blake3_binary.specs.Sums.{sum2_trees, sum3_trees, turned}
use Rattle.blake3_binary.specs.Trees.{from_column, half_column, half_step_trees}

-- the bits of a word
abbrev pub word_bit : {F : Type 0} → Ring F → Word → ℕ → Tree F
word_bit r (Column c) = from_column c
word_bit r (Constant w) = λ i. number r (bit_at w i)
word_bit r (Turned x y s) = turned (from_column x) (from_column y) s

-- they stand within the row
abbrev pub IsInRow : Word → Type 0
IsInRow (Column c) = c + 32 ≤ 11536
IsInRow (Constant w) = 0 ≤ w
IsInRow (Turned x y s) = (x + 32 ≤ 11536) × (y + 32 ≤ 11536)

-- where b and d stand after n half rounds
abbrev pub b_place : ℕ → ℕ → ℕ
b_place zero column = 128 + 32 * column
b_place (suc n) column = half_column n (step_of_word (turn_of n) 1 column) + 63

abbrev pub d_place : ℕ → ℕ → ℕ
d_place zero column = 768 + 32 * column
d_place (suc n) column = half_column n (step_of_word (turn_of n) 3 column) + 31

-- a after it is d before it xor (d after it, turned back), and c likewise by b
abbrev pub a_turned : ℕ → ℕ → Word
a_turned n g = Turned (d_place n (column_of (turn_of n) 3 g)) (half_column n g + 31) (d_turn n)

abbrev pub c_turned : ℕ → ℕ → Word
c_turned n g = Turned (b_place n (column_of (turn_of n) 1 g)) (half_column n g + 63) (b_turn n)

abbrev pub a_word : ℕ → ℕ → Word
a_word zero column = Column (32 * column)
a_word (suc n) column = a_turned n (step_of_word (turn_of n) 0 column)

abbrev pub c_word : ℕ → ℕ → Word
c_word zero column = Constant (iv column)
c_word (suc n) column = c_turned n (step_of_word (turn_of n) 2 column)

-- the two sums of half a step on words in these places, where its own cells stand from k on: a + b and the message word,
-- then c + d
unfoldable pub first_sum_trees : {F : Type 0} → Ring F → ℕ → Word → (b d m k : ℕ) → List (Tree F)
first_sum_trees r s a b d m k =
    sum3_trees (word_bit r a) (from_column b) (from_column m) (from_column k) (turned (from_column d) (from_column (k + 31)) s)

unfoldable pub second_sum_trees : {F : Type 0} → Ring F → ℕ → Word → (b k : ℕ) → List (Tree F)
second_sum_trees r t c b k =
    sum2_trees (word_bit r c) (from_column (k + 31)) (turned (from_column b) (from_column (k + 63)) t)

-- half a step on words in these places
unfoldable pub placed_trees : {F : Type 0} → Ring F → ℕ → ℕ → Word → ℕ → Word → (d m k : ℕ) → List (Tree F)
placed_trees r s t a b c d m k = first_sum_trees r s a b d m k ++ second_sum_trees r t c b k

-- step k of the 56: its two halves
unfoldable pub binary_step_trees : {F : Type 0} → Ring F → ℕ → List (Tree F)
binary_step_trees r k = joined 2 (λ h. half_step_trees r (2 * (k / 4) + h) (k % 4))
