-- The constraints over fields of characteristic 2 read declared cells alone, and there are as many as is declared.
use Rattle.std.proofs.Common.{◌≡◌, ℕ, zero, suc, ◌+◌, ◌*◌, ◌<◌, ◌≤◌, ◌∷◌, length, Bool, true, false, Some, sym, ◌∙◌, arith, lit<}
use Rattle.std.specs.Prelude.{All, cond}
use Rattle.std.proofs.lemmas.List.Elements.{All-cons, All-append}
use Rattle.p3_field.specs.Ring.{Ring}
use Rattle.p3_field.specs.Poly.{tabulate}
use Rattle.air_core.specs.declared.cells.Cell.{Cell}
use Rattle.air_core.specs.declared.cells.Cell.TheVariants.{Main}
use Rattle.air_core.specs.declared.cells.ExtCell.{ExtCell}
use Rattle.air_core.specs.Tree.{Tree, sum, product, bool_tree}
use Rattle.air_core.specs.Shape.{ReadsIn, ReadsDeclared, declared_shape, Declares, DeclaresExt}
use Rattle.air_gadgets.specs.Gadgets.{rotated_place}
use Rattle.air_core.specs.Laws.Declared.{counts-some}
use Rattle.blake3_compress.specs.Compress.{column_of, step_of_word}
use Rattle.blake3_compress.specs.TraceRow.{turn_of, d_turn, b_turn, message_of}
use Rattle.blake3_binary.specs.Trees.{from_column, bits_trees, half_column, words_after, half_step_trees, binary_steps_trees, binary_trees, air_trees, binary_declaration}
use Rattle.blake3_binary.specs.Sums.{carries_trees, majority, carry_in, with_carries, sum2_trees, sum3_trees, turned, binary_half_trees}
use Rattle.air_core.specs.Laws.Lists.{all_tabulate}
use Rattle.blake3_compress.specs.Laws.Schedule.{message_below}
use Rattle.blake3_binary.specs.Laws.Rounds.{all_laid}
use Rattle.blake3_binary.specs.Laws.Step.{counted}

module _ {F : Type 0} (r : Ring F) (P : Cell → Type 0) (Q : ExtCell → Type 0) (main : (k : ℕ) → k < 11536 → P (Main false k)) where
  abbrev R : Tree F → Type 0
  R = ReadsIn P Q

  abbrev Reads : ℕ → (ℕ → Tree F) → Type 0
  Reads n t = (k : ℕ) → k < n → R (t k)

  reads_from : (column n : ℕ) → column + n ≤ 11536 → Reads n (from_column column)
  reads_from column n h k lt = main (column + k) (omega (arith, h, lt))

  reads_turned : (x y : ℕ → Tree F) (s : ℕ) → Reads 32 x → Reads 32 y → Reads 32 (turned x y s)
  reads_turned x y s hx hy i lt = (hx i lt, hy (rotated_place s i) (omega arith))

  reads_carry : (x y s : ℕ → Tree F) → Reads 32 x → Reads 32 y → Reads 32 s → Reads 32 (carry_in x y s)
  reads_carry x y s hx hy hs i lt = ((hs i lt, hx i lt), hy i lt)

  reads_majority : (x y z : Tree F) → R x → R y → R z → R (majority x y z)
  reads_majority x y z hx hy hz = (((hx, hz), (hy, hz)), hz)

  reads_sum2 : (x y s : ℕ → Tree F) → Reads 32 x → Reads 32 y → Reads 32 s → All R (sum2_trees x y s)
  unfolding sum2_trees
  reads_sum2 x y s hx hy hs =
      let c = reads_carry x y s hx hy hs in
      let next : ℕ → Tree F = λ i. sum (majority (x i) (y i) (carry_in x y s i)) (carry_in x y s (suc i)) in
      All-cons R (carry_in x y s 0) (tabulate 31 next) (c 0 (lit< tt)) (all_tabulate R 31 next (λ i lt.
      (reads_majority (x i) (y i) (carry_in x y s i) (hx i (omega (arith, lt))) (hy i (omega (arith, lt))) (c i (omega (arith, lt))), c (suc i) (omega (arith, lt)))))

  reads_with : (x y k : ℕ → Tree F) → Reads 32 x → Reads 32 y → Reads 31 k → Reads 32 (with_carries x y k)
  reads_with x y k hx hy hk zero lt = (hx 0 lt, hy 0 lt)
  reads_with x y k hx hy hk (suc i) lt = ((hx (suc i) lt, hy (suc i) lt), hk i (omega (arith, lt)))

  reads_sum3 : (x y z k s : ℕ → Tree F) → Reads 32 x → Reads 32 y → Reads 32 z → Reads 31 k → Reads 32 s → All R (sum3_trees x y z k s)
  unfolding sum3_trees carries_trees
  reads_sum3 x y z k s hx hy hz hk hs =
      let first = sum (product (x 0) (y 0)) (k 0) in
      let next : ℕ → Tree F = λ i. sum (majority (x (suc i)) (y (suc i)) (k i)) (k (suc i)) in
      All-append R (first ∷ tabulate 30 next) (sum2_trees (with_carries x y k) z s)
      (All-cons R first (tabulate 30 next) ((hx 0 (lit< tt), hy 0 (lit< tt)), hk 0 (lit< tt)) (all_tabulate R 30 next (λ i lt.
      (reads_majority (x (suc i)) (y (suc i)) (k i) (hx (suc i) (omega (arith, lt))) (hy (suc i) (omega (arith, lt))) (hk i (omega (arith, lt))), hk (suc i) (omega (arith, lt))))))
      (reads_sum2 (with_carries x y k) z s (reads_with x y k hx hy hk) hz hs)

  reads_half : (s t : ℕ) (a b c d m k d' b' : ℕ → Tree F) → Reads 32 a → Reads 32 b → Reads 32 c → Reads 32 d → Reads 32 m → Reads 31 k → Reads 32 d' → Reads 32 b'
      → All R (binary_half_trees s t a b c d m k d' b')
  unfolding binary_half_trees
  reads_half s t a b c d m k d' b' ha hb hc hd hm hk kd kb =
      All-append R (sum3_trees a b m k (turned d d' s)) (sum2_trees c d' (turned b b' t))
      (reads_sum3 a b m k (turned d d' s) ha hb hm hk (reads_turned d d' s hd kd)) (reads_sum2 c d' (turned b b' t) hc kd (reads_turned b b' t hb kb))

  reads_words : (n : ℕ) → n ≤ 28 → (row column : ℕ) → column < 4 → Reads 32 (words_after r n row column)
  unfolding words_after
  reads_words zero le zero column lt k lk = main (32 * column + k) (omega (arith, lt, lk))
  reads_words zero le (suc zero) column lt k lk = main (128 + 32 * column + k) (omega (arith, lt, lk))
  reads_words zero le (suc (suc zero)) column lt k lk = tt
  reads_words zero le (suc (suc (suc m))) column lt k lk = main (768 + 32 * column + k) (omega (arith, lt, lk))
  reads_words (suc n) le zero column lt k lk =
      let t = turn_of n in
      let g = step_of_word t 0 column in
      reads_turned (words_after r n 3 (column_of t 3 g)) (from_column (half_column n g + 31)) (d_turn n)
      (reads_words n (omega (arith, le)) 3 (column_of t 3 g) (omega arith)) (reads_from (half_column n g + 31) 32 (omega (arith, le))) k lk
  reads_words (suc n) le (suc zero) column lt k lk = let g = step_of_word (turn_of n) 1 column in reads_from (half_column n g + 63) 32 (omega (arith, le)) k lk
  reads_words (suc n) le (suc (suc zero)) column lt k lk =
      let t = turn_of n in
      let g = step_of_word t 2 column in
      reads_turned (words_after r n 1 (column_of t 1 g)) (from_column (half_column n g + 63)) (b_turn n)
      (reads_words n (omega (arith, le)) 1 (column_of t 1 g) (omega arith)) (reads_from (half_column n g + 63) 32 (omega (arith, le))) k lk
  reads_words (suc n) le (suc (suc (suc m))) column lt k lk =
      let g = step_of_word (turn_of n) (suc (suc (suc m))) column in reads_from (half_column n g + 31) 32 (omega (arith, le)) k lk

  reads_step : (n g : ℕ) → n < 28 → g < 4 → All R (half_step_trees r n g)
  unfolding half_step_trees
  reads_step n g ln lg =
      let t = turn_of n in
      let m : message_of n g < 16 = message_below n g lg in
      let w = reads_words n (omega (arith, ln)) in
      reads_half (d_turn n) (b_turn n) (words_after r n 0 (column_of t 0 g)) (words_after r n 1 (column_of t 1 g)) (words_after r n 2 (column_of t 2 g)) (words_after r n 3 (column_of t 3 g))
      (from_column (256 + 32 * message_of n g)) (from_column (half_column n g)) (from_column (half_column n g + 31)) (from_column (half_column n g + 63))
      (w 0 (column_of t 0 g) (omega arith)) (w 1 (column_of t 1 g) (omega arith)) (w 2 (column_of t 2 g) (omega arith)) (w 3 (column_of t 3 g) (omega arith))
      (reads_from (256 + 32 * message_of n g) 32 (omega (arith, m)))
      (reads_from (half_column n g) 31 (omega (arith, ln, lg))) (reads_from (half_column n g + 31) 32 (omega (arith, ln, lg))) (reads_from (half_column n g + 63) 32 (omega (arith, ln, lg)))

  pub reads_steps : All R (binary_steps_trees r)
  unfolding binary_steps_trees
  reads_steps = all_laid R (half_step_trees r) reads_step

  pub reads_binary : All R (binary_trees r)
  unfolding binary_trees bits_trees
  reads_binary =
      All-append R (bits_trees r 0 896) (binary_steps_trees r)
      (all_tabulate R 896 (λ i. bool_tree r.one (from_column 0 i)) (λ i lt. let e = reads_from 0 896 (omega arith) i lt in (e, (e, tt)))) reads_steps

pub binary_read : {F : Type 0} (r : Ring F) (bits : Bool) → All (ReadsDeclared (declared_shape (binary_declaration {F = F} bits))) (air_trees r bits)
binary_read {F = F} r true =
    let s = declared_shape (binary_declaration {F = F} true) in
    reads_steps r (Declares s) (DeclaresExt s) (λ k lt. (lt, λ e. absurd (cc e)))
binary_read {F = F} r false =
    let s = declared_shape (binary_declaration {F = F} false) in
    reads_binary r (Declares s) (DeclaresExt s) (λ k lt. (lt, λ e. absurd (cc e)))

pub counts-binary : {F : Type 0} (r : Ring F) (bits : Bool) (n : ℕ) → Some (cond bits 10640 11536) ≡ Some n → n ≡ length (air_trees r bits)
counts-binary r true n e = counts-some n 10640 e ∙ sym (counted r).steps
counts-binary r false n e = counts-some n 11536 e ∙ sym (counted r).all
