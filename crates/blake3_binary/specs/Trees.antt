-- The constraints of the AIR over fields of characteristic 2, and where the row's words stand. After Plonky3's
-- p3-blake3-air (binary).
use Rattle.std.specs.Prelude.{ℕ, zero, suc, ◌+◌, ◌*◌, ◌/◌, ◌%◌, List, [], ◌++◌, Bool, true, false, cond, None, Some}
use Rattle.std.specs.Int.{bit_at}
use Rattle.p3_field.specs.Ring.{Ring}
use Rattle.p3_field.specs.Poly.{tabulate}
use Rattle.air_core.specs.Tree.{Tree, bool_tree}
use Rattle.air_core.specs.Shape.{Declaration}
use Rattle.air_gadgets.specs.Gadgets.{number}
use Rattle.air_core.specs.Joined.{joined}
pub use Rattle.blake3_compress.specs.Reading.{from_column}
use Rattle.blake3_compress.specs.Compress.{iv, column_of, step_of_word}
use Rattle.blake3_compress.specs.TraceRow.{turn_of, d_turn, b_turn, message_of}
use Rattle.blake3_binary.specs.Sums.{turned, binary_half_trees}

-- four words of the state, one of each row, as trees or as values
pub record QuarterOf (X : Type 0) : Type 0 where
  pub a : X
  pub b : X
  pub c : X
  pub d : X

-- the word of a row
abbrev pub word_in_row : {X : Type 0} → QuarterOf X → ℕ → X
word_in_row q zero = q.a
word_in_row q (suc zero) = q.b
word_in_row q (suc (suc zero)) = q.c
word_in_row q (suc (suc (suc n))) = q.d

-- the words that step g takes
abbrev pub four_taken : {X : Type 0} → ℕ → (ℕ → ℕ → X) → ℕ → QuarterOf X
four_taken t v g = record { a = v 0 (column_of t 0 g); b = v 1 (column_of t 1 g); c = v 2 (column_of t 2 g); d = v 3 (column_of t 3 g) }

-- The halves of the 56 steps, in order: what f gives for half round n and its step g.
unfoldable pub laid : {X : Type 0} → (ℕ → ℕ → List X) → List X
laid f = joined 56 (λ k. joined 2 (λ h. f (2 * (k / 4) + h) (k % 4)))

-- where step g of half round n stands: 31 carries, then d and b after it
abbrev pub half_column : ℕ → ℕ → ℕ
half_column n g = 896 + 190 * (4 * (n / 2) + g) + 95 * (n % 2)

-- The words after half a step, by d and b after it: a is d before it xor (d after it, turned back), c likewise by b.
abbrev pub words_made : {F : Type 0} → ℕ → ℕ → QuarterOf (ℕ → Tree F) → (d' b' : ℕ → Tree F) → QuarterOf (ℕ → Tree F)
words_made s t q d' b' = record { a = turned q.d d' s; b = b'; c = turned q.b b' t; d = d' }

-- the first state, by bits: the chaining value, four words of the initial value, and the last four words
abbrev pub first_words : {F : Type 0} → Ring F → ℕ → ℕ → ℕ → Tree F
first_words r zero column = from_column (32 * column)
first_words r (suc zero) column = from_column (128 + 32 * column)
first_words r (suc (suc zero)) column = λ i. number r (bit_at (iv column) i)
first_words r (suc (suc (suc n))) column = from_column (768 + 32 * column)

-- half a round
abbrev pub words_half : {F : Type 0} → ℕ → (ℕ → ℕ → ℕ → Tree F) → ℕ → ℕ → ℕ → Tree F
words_half n v row column =
    let g = step_of_word (turn_of n) row column in
    word_in_row (words_made (d_turn n) (b_turn n) (four_taken (turn_of n) v g) (from_column (half_column n g + 31)) (from_column (half_column n g + 63))) row

-- the state after n half rounds
unfoldable pub words_after : {F : Type 0} → Ring F → ℕ → ℕ → ℕ → ℕ → Tree F
words_after r zero = first_words r
words_after r (suc n) = words_half n (words_after r n)

-- step g of half round n, on these words before it
abbrev pub four_trees : {F : Type 0} → ℕ → ℕ → QuarterOf (ℕ → Tree F) → List (Tree F)
four_trees n g q =
    binary_half_trees (d_turn n) (b_turn n) q.a q.b q.c q.d (from_column (256 + 32 * message_of n g))
    (from_column (half_column n g)) (from_column (half_column n g + 31)) (from_column (half_column n g + 63))

unfoldable pub half_step_trees : {F : Type 0} → Ring F → ℕ → ℕ → List (Tree F)
half_step_trees r n g = four_trees n g (four_taken (turn_of n) (words_after r n) g)

-- the constraints of the 56 steps, in order: the declared list where the cells of the input are taken for bits
unfoldable pub binary_steps_trees : {F : Type 0} → Ring F → List (Tree F)
binary_steps_trees r = laid (half_step_trees r)

-- the cells are bits
unfoldable pub bits_trees : {F : Type 0} → Ring F → ℕ → ℕ → List (Tree F)
bits_trees r column n = tabulate n (λ i. bool_tree r.one (from_column column i))

-- the declared list by default
unfoldable pub binary_trees : {F : Type 0} → Ring F → List (Tree F)
binary_trees r = bits_trees r 0 896 ++ binary_steps_trees r

-- the declared list of either form: of the steps alone, where the cells of the input are taken for bits
abbrev pub air_trees : {F : Type 0} → Ring F → Bool → List (Tree F)
air_trees r true = binary_steps_trees r
air_trees r false = binary_trees r

abbrev pub binary_declaration : {F : Type 0} → Bool → Declaration F
binary_declaration bits = record {
  width = 11536;
  preprocessed = None;
  main_next = [];
  preprocessed_next = [];
  public_values = 0;
  periodic = [];
  constraints = Some (cond bits 10640 11536);
  degree_hint = Some 2;
  boolean_trace = bits;
}
