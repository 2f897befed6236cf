-- The constraints have degree at most 3, whatever degree the transition selector has, and there are 9632 of them.
use Rattle.std.proofs.Common.{ℕ, zero, suc, ◌+◌, ◌*◌, ◌^◌, ◌<◌, ◌≤◌, ◌++◌, [], ◌∷◌, map, arith}
use Rattle.std.specs.Prelude.{All}
use Rattle.std.proofs.lemmas.List.Elements.{All-nil, All-cons, All-append}
use Rattle.p3_field.specs.Ring.{Ring}
use Rattle.p3_field.specs.Poly.{tabulate}
use Rattle.air_core.specs.Tree.{Tree, difference, bool_tree}
use Rattle.air_core.specs.Degree.{multiple}
use Rattle.air_gadgets.specs.Gadgets.{number, difference_of_three, difference_of_four, with_high, zero_or_minus, zero_to_minus_twice, add2_trees, add3_trees, packed_bits, xor_tree, rotated_place, xor_shift_bit, xor_shift_trees}
use Rattle.air_gadgets.specs.Words.{limb}
use Rattle.blake3_compress.specs.Compress.{iv}
use Rattle.blake3_compress.specs.TraceRow.{turn_of, d_turn, b_turn, message_of}
use Rattle.blake3_prime.specs.Trees.{from_column, packed_limbs, place_of, columns_of_step, half_trees, step_half_trees, step_trees, steps_trees, rounds_trees, bits_trees, packed_trees, limbs_trees, word_trees, iv_trees, masked_trees, xor_trees, first_trees, first_output_trees, other_output_trees, last_trees, blake3_trees}
use Rattle.air_core.specs.Laws.Lists.{all_joined, all_tabulate}

-- what holds of the items of a mapped table
all_mapped : {X Y : Type 0} (Q : Y → Type 0) (f : X → Y) (n : ℕ) (t : ℕ → X) → ((k : ℕ) → k < n → Q (f (t k))) → All Q (map f (tabulate n t))
all_mapped Q f zero t h = All-nil Q
all_mapped Q f (suc n) t h = All-cons Q (f (t zero)) (map f (tabulate n (λ i. t (suc i)))) (h zero (omega arith)) (all_mapped Q f n (λ i. t (suc i)) (λ k lt. h (suc k) (omega (arith, lt))))

module _ {F : Type 0} (r : Ring F) (n : ℕ) where
  -- the degree is at most d
  abbrev AtMost : ℕ → Tree F → Type 0
  AtMost d t = multiple n t ≤ d

  from_degree : (column k : ℕ) → AtMost 1 (from_column column k)
  from_degree column k = omega arith

  pub packed_degree : (d : ℕ) (t : ℕ → Tree F) (k m : ℕ) → ((i : ℕ) → AtMost d (t i)) → AtMost d (packed_bits r t k m)
  unfolding packed_bits
  packed_degree d t k zero h = omega arith
  packed_degree d t k (suc m) h = omega (arith, h k, packed_degree d t (suc k) m h)

  two : (x y : Tree F) → AtMost 3 x → AtMost 3 y → All (AtMost 3) (x ∷ y ∷ [])
  two x y a b = All-cons (AtMost 3) x (y ∷ []) a (All-cons (AtMost 3) y [] b (All-nil (AtMost 3)))

  bool_degree : (x : Tree F) → AtMost 1 x → AtMost 3 (bool_tree r.one x)
  bool_degree x a = omega (arith, a)

  xor_degree : (x y : Tree F) → AtMost 1 x → AtMost 1 y → AtMost 2 (xor_tree r x y)
  xor_degree x y a b = omega (arith, a, b)

  zero_or_one_degree : (m : ℕ) (x : Tree F) → AtMost 1 x → AtMost 3 (zero_or_minus r m x)
  zero_or_one_degree m x a = omega (arith, a)

  zero_to_two_degree : (m : ℕ) (x : Tree F) → AtMost 1 x → AtMost 3 (zero_to_minus_twice r m x)
  zero_to_two_degree m x a = omega (arith, a)

  add2_degree : (a b c : ℕ → Tree F) → ((k : ℕ) → AtMost 1 (a k)) → ((k : ℕ) → AtMost 1 (b k)) → ((k : ℕ) → AtMost 1 (c k)) → All (AtMost 3) (add2_trees r a b c)
  add2_degree a b c ha hb hc =
      let low : AtMost 1 (difference_of_three (a 0) (b 0) (c 0)) = omega (arith, ha 0, hb 0, hc 0) in
      let high : AtMost 1 (difference_of_three (a 1) (b 1) (c 1)) = omega (arith, ha 1, hb 1, hc 1) in
      let whole : AtMost 1 (with_high r (difference_of_three (a 0) (b 0) (c 0)) (difference_of_three (a 1) (b 1) (c 1))) = omega (arith, low, high) in
      two (zero_or_minus r (2 ^ 32) (with_high r (difference_of_three (a 0) (b 0) (c 0)) (difference_of_three (a 1) (b 1) (c 1)))) (zero_or_minus r (2 ^ 16) (difference_of_three (a 0) (b 0) (c 0)))
      (zero_or_one_degree (2 ^ 32) (with_high r (difference_of_three (a 0) (b 0) (c 0)) (difference_of_three (a 1) (b 1) (c 1))) whole) (zero_or_one_degree (2 ^ 16) (difference_of_three (a 0) (b 0) (c 0)) low)

  add3_degree : (a b c d : ℕ → Tree F) → ((k : ℕ) → AtMost 1 (a k)) → ((k : ℕ) → AtMost 1 (b k)) → ((k : ℕ) → AtMost 1 (c k)) → ((k : ℕ) → AtMost 1 (d k)) → All (AtMost 3) (add3_trees r a b c d)
  add3_degree a b c d ha hb hc hd =
      let low : AtMost 1 (difference_of_four (a 0) (b 0) (c 0) (d 0)) = omega (arith, ha 0, hb 0, hc 0, hd 0) in
      let high : AtMost 1 (difference_of_four (a 1) (b 1) (c 1) (d 1)) = omega (arith, ha 1, hb 1, hc 1, hd 1) in
      let whole : AtMost 1 (with_high r (difference_of_four (a 0) (b 0) (c 0) (d 0)) (difference_of_four (a 1) (b 1) (c 1) (d 1))) = omega (arith, low, high) in
      two (zero_to_minus_twice r (2 ^ 32) (with_high r (difference_of_four (a 0) (b 0) (c 0) (d 0)) (difference_of_four (a 1) (b 1) (c 1) (d 1)))) (zero_to_minus_twice r (2 ^ 16) (difference_of_four (a 0) (b 0) (c 0) (d 0)))
      (zero_to_two_degree (2 ^ 32) (with_high r (difference_of_four (a 0) (b 0) (c 0) (d 0)) (difference_of_four (a 1) (b 1) (c 1) (d 1))) whole) (zero_to_two_degree (2 ^ 16) (difference_of_four (a 0) (b 0) (c 0) (d 0)) low)

  xor_shift_degree : (a b c : ℕ → Tree F) (s : ℕ) → ((k : ℕ) → AtMost 1 (a k)) → ((k : ℕ) → AtMost 1 (b k)) → ((k : ℕ) → AtMost 1 (c k)) → All (AtMost 3) (xor_shift_trees r a b c s)
  unfolding xor_shift_trees
  xor_shift_degree a b c s ha hb hc =
      let bit : (i : ℕ) → AtMost 2 (xor_shift_bit r b c s i) = λ i. xor_degree (b i) (c (rotated_place s i)) (hb i) (hc (rotated_place s i)) in
      let low : AtMost 2 (packed_bits r (xor_shift_bit r b c s) 0 16) = packed_degree 2 (xor_shift_bit r b c s) 0 16 bit in
      let high : AtMost 2 (packed_bits r (xor_shift_bit r b c s) 16 16) = packed_degree 2 (xor_shift_bit r b c s) 16 16 bit in
      let first = difference (a 0) (packed_bits r (xor_shift_bit r b c s) 0 16) in
      let second = difference (a 1) (packed_bits r (xor_shift_bit r b c s) 16 16) in
      All-append (AtMost 3) (map (bool_tree r.one) (tabulate 32 c)) (first ∷ second ∷ [])
      (all_mapped (AtMost 3) (bool_tree r.one) 32 c (λ k lt. bool_degree (c k) (hc k)))
      (two first second (omega (arith, ha 0, low)) (omega (arith, ha 1, high)))

  limbs_degree : (t : ℕ → Tree F) → ((k : ℕ) → AtMost 1 (t k)) → (k : ℕ) → AtMost 1 (packed_limbs r t k)
  limbs_degree t h k = packed_degree 1 t (16 * k) 16 h

  half_degree : (s t : ℕ) (a b c d m a' b' c' d' : ℕ) → All (AtMost 3) (half_trees r s t (from_column a) (from_column b) (from_column c) (from_column d) (from_column m) (from_column a') (from_column b') (from_column c') (from_column d'))
  unfolding half_trees
  half_degree s t a b c d m a' b' c' d' =
      let w = add3_trees r (from_column a') (from_column a) (packed_limbs r (from_column b)) (packed_limbs r (from_column m)) in
      let x = xor_shift_trees r (from_column a') (from_column d) (from_column d') s in
      let y = add2_trees r (from_column c') (from_column c) (packed_limbs r (from_column d')) in
      let z = xor_shift_trees r (from_column c') (from_column b) (from_column b') t in
      All-append (AtMost 3) (w ++ x) (y ++ z)
      (All-append (AtMost 3) w x (add3_degree (from_column a') (from_column a) (packed_limbs r (from_column b)) (packed_limbs r (from_column m)) (from_degree a') (from_degree a) (limbs_degree (from_column b) (from_degree b)) (limbs_degree (from_column m) (from_degree m)))
      (xor_shift_degree (from_column a') (from_column d) (from_column d') s (from_degree a') (from_degree d) (from_degree d')))
      (All-append (AtMost 3) y z (add2_degree (from_column c') (from_column c) (packed_limbs r (from_column d')) (from_degree c') (from_degree c) (limbs_degree (from_column d') (from_degree d')))
      (xor_shift_degree (from_column c') (from_column b) (from_column b') t (from_degree c') (from_degree b) (from_degree b')))

  step_degree : (m g : ℕ) → All (AtMost 3) (step_half_trees r m g)
  unfolding step_half_trees
  step_degree m g =
      let b = columns_of_step (place_of m) (turn_of m) g in
      let a = columns_of_step (place_of (suc m)) (turn_of m) g in
      half_degree (d_turn m) (b_turn m) b.a b.b b.c b.d (32 * message_of m g) a.a a.b a.c a.d

  rounds_degree : All (AtMost 3) (rounds_trees r)
  unfolding rounds_trees steps_trees step_trees
  rounds_degree =
      all_joined (AtMost 3) 14 (steps_trees r) (λ p lp. all_joined (AtMost 3) 4 (step_trees r p) (λ g lg. all_joined (AtMost 3) 2 (λ h. step_half_trees r (2 * p + h) g) (λ h lh. step_degree (2 * p + h) g)))

  bits_degree : (column m : ℕ) → All (AtMost 3) (bits_trees r column m)
  unfolding bits_trees
  bits_degree column m = all_tabulate (AtMost 3) m (λ i. bool_tree r.one (from_column column i)) (λ i lt. bool_degree (from_column column i) (from_degree column i))

  equal_degree : (column limbs : ℕ) → All (AtMost 3) (limbs_trees r column limbs)
  unfolding limbs_trees packed_trees
  equal_degree column limbs =
      all_joined (AtMost 3) 4 (λ i. packed_trees r (column + 32 * i) (limbs + 2 * i)) (λ i li.
      all_tabulate (AtMost 3) 2 (λ k. difference (packed_limbs r (from_column (column + 32 * i)) k) (from_column (limbs + 2 * i) k)) (λ k lk.
      omega (arith, limbs_degree (from_column (column + 32 * i)) (from_degree (column + 32 * i)) k)))

  iv_degree : (column : ℕ) → All (AtMost 3) (iv_trees r column)
  unfolding iv_trees word_trees
  iv_degree column =
      all_joined (AtMost 3) 4 (λ i. word_trees r (column + 2 * i) (iv i)) (λ i li.
      all_tabulate (AtMost 3) 2 (λ k. difference (from_column (column + 2 * i) k) (number r (limb (iv i) k))) (λ k lk. omega arith))

  masked_degree : (limbs bits mask : ℕ) → All (AtMost 3) (masked_trees r limbs bits mask)
  unfolding masked_trees
  masked_degree limbs bits mask =
      all_joined (AtMost 3) 4 (λ i. xor_shift_trees r (from_column (limbs + 2 * i)) (from_column (bits + 32 * i)) (from_column (mask + 32 * i)) 0) (λ i li.
      xor_shift_degree (from_column (limbs + 2 * i)) (from_column (bits + 32 * i)) (from_column (mask + 32 * i)) 0 (from_degree (limbs + 2 * i)) (from_degree (bits + 32 * i)) (from_degree (mask + 32 * i)))

  xors_degree : (column left right : ℕ) → All (AtMost 3) (xor_trees r column left right)
  unfolding xor_trees
  xors_degree column left right =
      all_tabulate (AtMost 3) 128 (λ i. difference (from_column column i) (xor_tree r (from_column left i) (from_column right i))) (λ i li.
      omega (arith, xor_degree (from_column left i) (from_column right i) (from_degree left i) (from_degree right i)))

  pub degree_three : All (λ t. multiple n t ≤ 3) (blake3_trees r)
  unfolding blake3_trees first_trees last_trees first_output_trees other_output_trees
  degree_three =
      let a = bits_trees r 0 896 in
      let b = limbs_trees r 512 896 in
      let c = iv_trees r 904 in
      let d = rounds_trees r in
      let e = limbs_trees r 8528 8392 in
      let f = bits_trees r 8656 128 in
      let g = masked_trees r 8256 8656 8528 in
      let h = xor_trees r 8784 8264 8400 in
      let i = xor_trees r 8912 512 8528 in
      let j = xor_trees r 9040 640 8400 in
      let R = AtMost 3 in
      All-append R (a ++ b ++ c ++ d) (e ++ f ++ g ++ (h ++ i ++ j))
      (All-append R (a ++ b ++ c) d (All-append R (a ++ b) c (All-append R a b (bits_degree 0 896) (equal_degree 512 896)) (iv_degree 904)) rounds_degree)
      (All-append R (e ++ f ++ g) (h ++ i ++ j)
      (All-append R (e ++ f) g (All-append R e f (equal_degree 8528 8392) (bits_degree 8656 128)) (masked_degree 8256 8656 8528))
      (All-append R (h ++ i) j (All-append R h i (xors_degree 8784 8264 8400) (xors_degree 8912 512 8528)) (xors_degree 9040 640 8400)))
