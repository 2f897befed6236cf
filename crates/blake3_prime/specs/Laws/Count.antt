-- There are 9632 constraints.
use Rattle.std.proofs.Common.{◌≡◌, ℕ, ◌+◌, ◌*◌, ◌++◌, [], ◌∷◌, length, map, arith, length-append}
use Rattle.std.proofs.lemmas.List.{length-map}
use Rattle.p3_field.specs.Ring.{Ring}
use Rattle.p3_field.specs.Poly.{tabulate}
use Rattle.p3_field.specs.Laws.Tabulate.{length-tabulate}
use Rattle.air_core.specs.Tree.{Tree, difference, bool_tree}
use Rattle.air_gadgets.specs.Gadgets.{number, add2_trees, add3_trees, packed_bits, xor_tree, xor_shift_bit, xor_shift_trees}
use Rattle.air_gadgets.specs.Words.{limb}
use Rattle.blake3_compress.specs.Compress.{iv}
use Rattle.blake3_prime.specs.Trees.{from_column, packed_limbs, half_trees, step_half_trees, step_trees, steps_trees, rounds_trees, bits_trees, packed_trees, limbs_trees, word_trees, iv_trees, masked_trees, xor_trees, first_trees, first_output_trees, other_output_trees, last_trees, blake3_trees}
use Rattle.blake3_compress.specs.Laws.Cells.{length-joined}

module _ {F : Type 0} (r : Ring F) where
  count_xor_shift : (a b c : ℕ → Tree F) (s : ℕ) → length (xor_shift_trees r a b c s) ≡ 34
  unfolding xor_shift_trees
  count_xor_shift a b c s =
      let bools = map (bool_tree r.one) (tabulate 32 c) in
      let limbs = difference (a 0) (packed_bits r (xor_shift_bit r b c s) 0 16) ∷ difference (a 1) (packed_bits r (xor_shift_bit r b c s) 16 16) ∷ [] in
      omega (arith, length-append bools limbs, length-map (tabulate 32 c) (bool_tree r.one), length-tabulate 32 c)

  count_half : (s t : ℕ) (a b c d m a' b' c' d' : ℕ → Tree F) → length (half_trees r s t a b c d m a' b' c' d') ≡ 72
  unfolding half_trees
  count_half s t a b c d m a' b' c' d' =
      let w = add3_trees r a' a (packed_limbs r b) (packed_limbs r m) in
      let x = xor_shift_trees r a' d d' s in
      let y = add2_trees r c' c (packed_limbs r d') in
      let z = xor_shift_trees r c' b b' t in
      omega (arith, length-append (w ++ x) (y ++ z), length-append w x, length-append y z, count_xor_shift a' d d' s, count_xor_shift c' b b' t)

  count_step_half : (n g : ℕ) → length (step_half_trees r n g) ≡ 72
  unfolding step_half_trees
  count_step_half n g = count_half _ _ _ _ _ _ _ _ _ _ _

  count_step : (p g : ℕ) → length (step_trees r p g) ≡ 144
  unfolding step_trees
  count_step p g = length-joined 2 72 (λ h. step_half_trees r (2 * p + h) g) (λ h. count_step_half (2 * p + h) g)

  count_steps : (p : ℕ) → length (steps_trees r p) ≡ 576
  unfolding steps_trees
  count_steps p = length-joined 4 144 (step_trees r p) (count_step p)

  count_rounds : length (rounds_trees r) ≡ 8064
  unfolding rounds_trees
  count_rounds = length-joined 14 576 (steps_trees r) count_steps

  count_bits : (column n : ℕ) → length (bits_trees r column n) ≡ n
  unfolding bits_trees
  count_bits column n = length-tabulate n (λ i. bool_tree r.one (from_column column i))

  count_limbs : (column limbs : ℕ) → length (limbs_trees r column limbs) ≡ 8
  unfolding limbs_trees packed_trees
  count_limbs column limbs = length-joined 4 2 (λ i. packed_trees r (column + 32 * i) (limbs + 2 * i)) (λ i. length-tabulate 2 (λ k. difference (packed_limbs r (from_column (column + 32 * i)) k) (from_column (limbs + 2 * i) k)))

  count_iv : (column : ℕ) → length (iv_trees r column) ≡ 8
  unfolding iv_trees word_trees
  count_iv column = length-joined 4 2 (λ i. word_trees r (column + 2 * i) (iv i)) (λ i. length-tabulate 2 (λ k. difference (from_column (column + 2 * i) k) (number r (limb (iv i) k))))

  count_masked : (limbs bits mask : ℕ) → length (masked_trees r limbs bits mask) ≡ 136
  unfolding masked_trees
  count_masked limbs bits mask =
      length-joined 4 34 (λ i. xor_shift_trees r (from_column (limbs + 2 * i)) (from_column (bits + 32 * i)) (from_column (mask + 32 * i)) 0)
      (λ i. count_xor_shift (from_column (limbs + 2 * i)) (from_column (bits + 32 * i)) (from_column (mask + 32 * i)) 0)

  count_xors : (column left right : ℕ) → length (xor_trees r column left right) ≡ 128
  unfolding xor_trees
  count_xors column left right = length-tabulate 128 (λ i. difference (from_column column i) (xor_tree r (from_column left i) (from_column right i)))

  pub count_all : length (blake3_trees r) ≡ 9632
  unfolding blake3_trees first_trees last_trees first_output_trees other_output_trees
  count_all =
      let a = bits_trees r 0 896 in
      let b = limbs_trees r 512 896 in
      let c = iv_trees r 904 in
      let d = rounds_trees r in
      let e = limbs_trees r 8528 8392 in
      let f = bits_trees r 8656 128 in
      let g = masked_trees r 8256 8656 8528 in
      let h = xor_trees r 8784 8264 8400 in
      let i = xor_trees r 8912 512 8528 in
      let j = xor_trees r 9040 640 8400 in
      let first : length (a ++ b ++ c ++ d) ≡ 8976 =
      omega (arith, length-append (a ++ b ++ c) d, length-append (a ++ b) c, length-append a b, count_bits 0 896, count_limbs 512 896, count_iv 904, count_rounds) in
      let out : length (e ++ f ++ g) ≡ 272 = omega (arith, length-append (e ++ f) g, length-append e f, count_limbs 8528 8392, count_bits 8656 128, count_masked 8256 8656 8528) in
      let other : length (h ++ i ++ j) ≡ 384 = omega (arith, length-append (h ++ i) j, length-append h i, count_xors 8784 8264 8400, count_xors 8912 512 8528, count_xors 9040 640 8400) in
      omega (arith, length-append (a ++ b ++ c ++ d) (e ++ f ++ g ++ (h ++ i ++ j)), length-append (e ++ f ++ g) (h ++ i ++ j), first, out, other)
