-- The constraints over fields of characteristic 2 have degree at most 2, whatever degree the transition selector has.
use Rattle.std.proofs.Common.{ℕ, zero, suc, ◌+◌, ◌*◌, ◌≤◌, ◌∷◌, arith}
use Rattle.std.specs.Prelude.{All}
use Rattle.std.proofs.lemmas.List.Elements.{All-cons, All-append}
use Rattle.p3_field.specs.Ring.{Ring}
use Rattle.p3_field.specs.Poly.{tabulate}
use Rattle.air_core.specs.Tree.{Tree, sum, product, bool_tree}
use Rattle.air_core.specs.Degree.{multiple}
use Rattle.air_gadgets.specs.Gadgets.{rotated_place}
use Rattle.blake3_compress.specs.Compress.{column_of, step_of_word}
use Rattle.blake3_compress.specs.TraceRow.{turn_of, d_turn, b_turn, message_of}
use Rattle.blake3_binary.specs.Trees.{from_column, bits_trees, half_column, words_after, half_step_trees, binary_steps_trees, binary_trees}
use Rattle.blake3_binary.specs.Sums.{carries_trees, majority, carry_in, with_carries, sum2_trees, sum3_trees, turned, binary_half_trees}
use Rattle.air_core.specs.Laws.Lists.{all_tabulate}
use Rattle.blake3_binary.specs.Laws.Rounds.{all_laid}

module _ {F : Type 0} (r : Ring F) (n : ℕ) where
  abbrev AtMost : ℕ → Tree F → Type 0
  AtMost d t = multiple n t ≤ d

  -- each bit of the word has degree at most 1
  abbrev Linear : (ℕ → Tree F) → Type 0
  Linear t = (k : ℕ) → AtMost 1 (t k)

  linear_column : (column : ℕ) → Linear (from_column column)
  linear_column column k = omega arith

  linear_turned : (x y : ℕ → Tree F) (s : ℕ) → Linear x → Linear y → Linear (turned x y s)
  linear_turned x y s hx hy i = omega (arith, hx i, hy (rotated_place s i))

  linear_carry : (x y s : ℕ → Tree F) → Linear x → Linear y → Linear s → Linear (carry_in x y s)
  linear_carry x y s hx hy hs i = omega (arith, hx i, hy i, hs i)

  linear_with : (x y k : ℕ → Tree F) → Linear x → Linear y → Linear k → Linear (with_carries x y k)
  linear_with x y k hx hy hk zero = omega (arith, hx 0, hy 0)
  linear_with x y k hx hy hk (suc i) = omega (arith, hx (suc i), hy (suc i), hk i)

  next_degree : (x y z w : Tree F) → AtMost 1 x → AtMost 1 y → AtMost 1 z → AtMost 1 w → AtMost 2 (sum (majority x y z) w)
  next_degree x y z w a b c d = omega (arith, a, b, c, d)

  first_degree : (x y z : Tree F) → AtMost 1 x → AtMost 1 y → AtMost 1 z → AtMost 2 (sum (product x y) z)
  first_degree x y z a b c = omega (arith, a, b, c)

  sum2_degree : (x y s : ℕ → Tree F) → Linear x → Linear y → Linear s → All (AtMost 2) (sum2_trees x y s)
  unfolding sum2_trees
  sum2_degree x y s hx hy hs =
      let c = linear_carry x y s hx hy hs in
      let next : ℕ → Tree F = λ i. sum (majority (x i) (y i) (carry_in x y s i)) (carry_in x y s (suc i)) in
      All-cons (AtMost 2) (carry_in x y s 0) (tabulate 31 next) (omega (arith, c 0))
      (all_tabulate (AtMost 2) 31 next (λ i lt. next_degree (x i) (y i) (carry_in x y s i) (carry_in x y s (suc i)) (hx i) (hy i) (c i) (c (suc i))))

  sum3_degree : (x y z k s : ℕ → Tree F) → Linear x → Linear y → Linear z → Linear k → Linear s → All (AtMost 2) (sum3_trees x y z k s)
  unfolding sum3_trees carries_trees
  sum3_degree x y z k s hx hy hz hk hs =
      let first = sum (product (x 0) (y 0)) (k 0) in
      let next : ℕ → Tree F = λ i. sum (majority (x (suc i)) (y (suc i)) (k i)) (k (suc i)) in
      All-append (AtMost 2) (first ∷ tabulate 30 next) (sum2_trees (with_carries x y k) z s)
      (All-cons (AtMost 2) first (tabulate 30 next) (first_degree (x 0) (y 0) (k 0) (hx 0) (hy 0) (hk 0))
      (all_tabulate (AtMost 2) 30 next (λ i lt. next_degree (x (suc i)) (y (suc i)) (k i) (k (suc i)) (hx (suc i)) (hy (suc i)) (hk i) (hk (suc i)))))
      (sum2_degree (with_carries x y k) z s (linear_with x y k hx hy hk) hz hs)

  linear_words : (m row column : ℕ) → Linear (words_after r m row column)
  unfolding words_after
  linear_words zero zero column k = omega arith
  linear_words zero (suc zero) column k = omega arith
  linear_words zero (suc (suc zero)) column k = omega arith
  linear_words zero (suc (suc (suc l))) column k = omega arith
  linear_words (suc m) zero column k =
      let t = turn_of m in
      let g = step_of_word t 0 column in
      linear_turned (words_after r m 3 (column_of t 3 g)) (from_column (half_column m g + 31)) (d_turn m) (linear_words m 3 (column_of t 3 g)) (linear_column (half_column m g + 31)) k
  linear_words (suc m) (suc zero) column k = omega arith
  linear_words (suc m) (suc (suc zero)) column k =
      let t = turn_of m in
      let g = step_of_word t 2 column in
      linear_turned (words_after r m 1 (column_of t 1 g)) (from_column (half_column m g + 63)) (b_turn m) (linear_words m 1 (column_of t 1 g)) (linear_column (half_column m g + 63)) k
  linear_words (suc m) (suc (suc (suc l))) column k = omega arith

  step_degree : (m g : ℕ) → All (AtMost 2) (half_step_trees r m g)
  unfolding half_step_trees binary_half_trees
  step_degree m g =
      let t = turn_of m in
      let a = words_after r m 0 (column_of t 0 g) in
      let b = words_after r m 1 (column_of t 1 g) in
      let c = words_after r m 2 (column_of t 2 g) in
      let d = words_after r m 3 (column_of t 3 g) in
      let k = from_column (half_column m g) in
      let d' = from_column (half_column m g + 31) in
      let b' = from_column (half_column m g + 63) in
      let w = from_column (256 + 32 * message_of m g) in
      let hb = linear_words m 1 (column_of t 1 g) in
      let hd = linear_words m 3 (column_of t 3 g) in
      All-append (AtMost 2) (sum3_trees a b w k (turned d d' (d_turn m))) (sum2_trees c d' (turned b b' (b_turn m)))
      (sum3_degree a b w k (turned d d' (d_turn m)) (linear_words m 0 (column_of t 0 g)) hb (linear_column (256 + 32 * message_of m g)) (linear_column (half_column m g))
      (linear_turned d d' (d_turn m) hd (linear_column (half_column m g + 31))))
      (sum2_degree c d' (turned b b' (b_turn m)) (linear_words m 2 (column_of t 2 g)) (linear_column (half_column m g + 31))
      (linear_turned b b' (b_turn m) hb (linear_column (half_column m g + 63))))

  pub degree_two : All (λ t. multiple n t ≤ 2) (binary_trees r)
  unfolding binary_trees bits_trees binary_steps_trees
  degree_two =
      All-append (AtMost 2) (bits_trees r 0 896) (binary_steps_trees r)
      (all_tabulate (AtMost 2) 896 (λ i. bool_tree r.one (from_column 0 i)) (λ i lt. omega arith))
      (all_laid (AtMost 2) (half_step_trees r) (λ m g lm lg. step_degree m g))
