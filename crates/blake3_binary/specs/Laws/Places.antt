-- The words of the state stand in their places.
use Rattle.std.proofs.Common.{◌≡◌, ℕ, zero, suc, ◌+◌, ◌*◌, List, refl, sym, ap}
use Rattle.p3_field.specs.Ring.{Ring}
use Rattle.air_core.specs.Tree.{Tree}
use Rattle.blake3_compress.specs.Compress.{column_of, step_of_word}
use Rattle.blake3_compress.specs.TraceRow.{turn_of, d_turn, b_turn, message_of}
use Rattle.blake3_binary.specs.Trees.{from_column, half_column, words_after, half_step_trees}
use Rattle.blake3_binary.specs.Sums.{turned, binary_half_trees}
use Rattle.blake3_binary.specs.Places.{word_bit, b_place, d_place, a_word, c_word, first_sum_trees, second_sum_trees, placed_trees}

module _ {F : Type 0} (r : Ring F) where
  b_stands : (n column : ℕ) → words_after r n 1 column ≡ from_column (b_place n column)
  unfolding words_after
  b_stands zero column = refl
  b_stands (suc n) column = refl

  d_stands : (n column : ℕ) → words_after r n 3 column ≡ from_column (d_place n column)
  unfolding words_after
  d_stands zero column = refl
  d_stands (suc n) column = refl

  a_stands : (n column : ℕ) → words_after r n 0 column ≡ word_bit r (a_word n column)
  unfolding words_after
  a_stands zero column = refl
  a_stands (suc n) column =
      let g = step_of_word (turn_of n) 0 column in
      ap (λ x. turned x (from_column (half_column n g + 31)) (d_turn n)) (d_stands n (column_of (turn_of n) 3 g))

  c_stands : (n column : ℕ) → words_after r n 2 column ≡ word_bit r (c_word n column)
  unfolding words_after
  c_stands zero column = refl
  c_stands (suc n) column =
      let g = step_of_word (turn_of n) 2 column in
      ap (λ x. turned x (from_column (half_column n g + 63)) (b_turn n)) (b_stands n (column_of (turn_of n) 1 g))

  pub half_placed : (n g : ℕ) → placed_trees r (d_turn n) (b_turn n) (a_word n (column_of (turn_of n) 0 g)) (b_place n (column_of (turn_of n) 1 g))
      (c_word n (column_of (turn_of n) 2 g)) (d_place n (column_of (turn_of n) 3 g)) (256 + 32 * message_of n g) (half_column n g) ≡ half_step_trees r n g
  unfolding placed_trees first_sum_trees second_sum_trees half_step_trees binary_half_trees
  half_placed n g =
      let t = turn_of n in
      let k = half_column n g in
      let make : (a b c d : ℕ → Tree F) → List (Tree F) = λ a b c d.
      binary_half_trees (d_turn n) (b_turn n) a b c d (from_column (256 + 32 * message_of n g)) (from_column k) (from_column (k + 31)) (from_column (k + 63)) in
      λ i. make (sym (a_stands n (column_of t 0 g)) i) (sym (b_stands n (column_of t 1 g)) i) (sym (c_stands n (column_of t 2 g)) i) (sym (d_stands n (column_of t 3 g)) i)
