-- The constraints read declared cells alone.
use Rattle.std.proofs.Common.{ℕ, zero, suc, ◌+◌, ◌*◌, ◌^◌, ◌<◌, ◌≤◌, ◌++◌, [], ◌∷◌, map, false, arith, lit<}
use Rattle.std.specs.Prelude.{All}
use Rattle.std.proofs.lemmas.List.Elements.{All-nil, All-cons, All-append}
use Rattle.p3_field.specs.Ring.{Ring}
use Rattle.p3_field.specs.Poly.{tabulate}
use Rattle.air_core.specs.declared.cells.Cell.{Cell}
use Rattle.air_core.specs.declared.cells.Cell.TheVariants.{Main}
use Rattle.air_core.specs.declared.cells.ExtCell.{ExtCell}
use Rattle.air_core.specs.Tree.{Tree, difference, bool_tree}
use Rattle.air_core.specs.Shape.{ReadsIn, ReadsDeclared, declared_shape, Declares, DeclaresExt}
use Rattle.air_gadgets.specs.Gadgets.{number, difference_of_three, difference_of_four, with_high, zero_or_minus, zero_to_minus_twice, add2_trees, add3_trees, packed_bits, xor_tree, rotated_place, xor_shift_bit, xor_shift_trees}
use Rattle.air_gadgets.specs.Words.{limb}
use Rattle.blake3_prime.specs.declared.places.Place.{Place}
use Rattle.blake3_compress.specs.Compress.{iv}
use Rattle.blake3_compress.specs.TraceRow.{turn_of, d_turn, b_turn, message_of}
use Rattle.blake3_prime.specs.Trees.{from_column, packed_limbs, place_of, columns_of_step, half_trees, step_half_trees, step_trees, steps_trees, rounds_trees, bits_trees, packed_trees, limbs_trees, word_trees, iv_trees, masked_trees, xor_trees, first_trees, first_output_trees, other_output_trees, last_trees, blake3_trees, blake3_declaration}
use Rattle.air_core.specs.Laws.Lists.{all_joined, all_tabulate}
use Rattle.blake3_compress.specs.Laws.Schedule.{message_below}

-- what holds of the items of a mapped table
all_mapped : {X Y : Type 0} (Q : Y → Type 0) (f : X → Y) (n : ℕ) (t : ℕ → X) → ((k : ℕ) → k < n → Q (f (t k))) → All Q (map f (tabulate n t))
all_mapped Q f zero t h = All-nil Q
all_mapped Q f (suc n) t h = All-cons Q (f (t zero)) (map f (tabulate n (λ i. t (suc i)))) (h zero (omega arith)) (all_mapped Q f n (λ i. t (suc i)) (λ k lt. h (suc k) (omega (arith, lt))))

-- a state's rows stand within the row
pub record Within (p : Place) : Type 0 where
  pub row0_in : p.row0 + 8 ≤ 9168
  pub row1_in : p.row1 + 128 ≤ 9168
  pub row2_in : p.row2 + 8 ≤ 9168
  pub row3_in : p.row3 + 128 ≤ 9168

pub place_within : (n : ℕ) → n ≤ 28 → Within (place_of n)
place_within zero h = record { row0_in = omega arith; row1_in = omega arith; row2_in = omega arith; row3_in = omega arith }
place_within (suc n) h = record { row0_in = omega (arith, h); row1_in = omega (arith, h); row2_in = omega (arith, h); row3_in = omega (arith, h) }

module _ {F : Type 0} (r : Ring F) (P : Cell → Type 0) (Q : ExtCell → Type 0) (main : (k : ℕ) → k < 9168 → P (Main false k)) where
  abbrev R : Tree F → Type 0
  R = ReadsIn P Q

  abbrev All2 : (ℕ → Tree F) → Type 0
  All2 t = (k : ℕ) → k < 2 → R (t k)

  abbrev All32 : (ℕ → Tree F) → Type 0
  All32 t = (k : ℕ) → k < 32 → R (t k)

  reads_from : (column n : ℕ) → column + n ≤ 9168 → (k : ℕ) → k < n → R (from_column column k)
  reads_from column n h k lt = main (column + k) (omega (arith, h, lt))

  pub reads_packed : (t : ℕ → Tree F) (k n : ℕ) → ((i : ℕ) → k ≤ i → i < k + n → R (t i)) → R (packed_bits r t k n)
  unfolding packed_bits
  reads_packed t k zero h = tt
  reads_packed t k (suc n) h = (h k (omega arith) (omega arith), (tt, reads_packed t (suc k) n (λ i a b. h i (omega (arith, a)) (omega (arith, b)))))

  pub reads_limbs : (t : ℕ → Tree F) → All32 t → All2 (packed_limbs r t)
  reads_limbs t h k lt = reads_packed t (16 * k) 16 (λ i a b. h i (omega (arith, b, lt)))

  two : (x y : Tree F) → R x → R y → All R (x ∷ y ∷ [])
  two x y a b = All-cons R x (y ∷ []) a (All-cons R y [] b (All-nil R))

  reads_add2 : (a b c : ℕ → Tree F) → All2 a → All2 b → All2 c → All R (add2_trees r a b c)
  reads_add2 a b c ha hb hc =
      let low : R (difference_of_three (a 0) (b 0) (c 0)) = ((ha 0 (lit< tt), hb 0 (lit< tt)), hc 0 (lit< tt)) in
      let high : R (difference_of_three (a 1) (b 1) (c 1)) = ((ha 1 (lit< tt), hb 1 (lit< tt)), hc 1 (lit< tt)) in
      let whole : R (with_high r (difference_of_three (a 0) (b 0) (c 0)) (difference_of_three (a 1) (b 1) (c 1))) = (low, (tt, high)) in
      two (zero_or_minus r (2 ^ 32) (with_high r (difference_of_three (a 0) (b 0) (c 0)) (difference_of_three (a 1) (b 1) (c 1)))) (zero_or_minus r (2 ^ 16) (difference_of_three (a 0) (b 0) (c 0)))
      (whole, (whole, tt)) (low, (low, tt))

  reads_add3 : (a b c d : ℕ → Tree F) → All2 a → All2 b → All2 c → All2 d → All R (add3_trees r a b c d)
  reads_add3 a b c d ha hb hc hd =
      let low : R (difference_of_four (a 0) (b 0) (c 0) (d 0)) = (((ha 0 (lit< tt), hb 0 (lit< tt)), hc 0 (lit< tt)), hd 0 (lit< tt)) in
      let high : R (difference_of_four (a 1) (b 1) (c 1) (d 1)) = (((ha 1 (lit< tt), hb 1 (lit< tt)), hc 1 (lit< tt)), hd 1 (lit< tt)) in
      let whole : R (with_high r (difference_of_four (a 0) (b 0) (c 0) (d 0)) (difference_of_four (a 1) (b 1) (c 1) (d 1))) = (low, (tt, high)) in
      two (zero_to_minus_twice r (2 ^ 32) (with_high r (difference_of_four (a 0) (b 0) (c 0) (d 0)) (difference_of_four (a 1) (b 1) (c 1) (d 1)))) (zero_to_minus_twice r (2 ^ 16) (difference_of_four (a 0) (b 0) (c 0) (d 0)))
      ((whole, (whole, tt)), (whole, tt)) ((low, (low, tt)), (low, tt))

  reads_xor : (x y : Tree F) → R x → R y → R (xor_tree r x y)
  reads_xor x y a b = ((a, b), (tt, (a, b)))

  reads_bool : (x : Tree F) → R x → R (bool_tree r.one x)
  reads_bool x a = (a, (a, tt))

  reads_xor_shift : (a b c : ℕ → Tree F) (s : ℕ) → All2 a → All32 b → All32 c → All R (xor_shift_trees r a b c s)
  unfolding xor_shift_trees
  reads_xor_shift a b c s ha hb hc =
      let bit : All32 (xor_shift_bit r b c s) = λ i lt. reads_xor (b i) (c (rotated_place s i)) (hb i lt) (hc (rotated_place s i) (omega arith)) in
      let low : R (packed_bits r (xor_shift_bit r b c s) 0 16) = reads_packed (xor_shift_bit r b c s) 0 16 (λ i p q. bit i (omega (arith, q))) in
      let high : R (packed_bits r (xor_shift_bit r b c s) 16 16) = reads_packed (xor_shift_bit r b c s) 16 16 (λ i p q. bit i (omega (arith, q))) in
      let first = difference (a 0) (packed_bits r (xor_shift_bit r b c s) 0 16) in
      let second = difference (a 1) (packed_bits r (xor_shift_bit r b c s) 16 16) in
      All-append R (map (bool_tree r.one) (tabulate 32 c)) (first ∷ second ∷ [])
      (all_mapped R (bool_tree r.one) 32 c (λ k lt. reads_bool (c k) (hc k lt)))
      (two first second (ha 0 (lit< tt), low) (ha 1 (lit< tt), high))

  reads_half : (s t : ℕ) (a b c d m a' b' c' d' : ℕ → Tree F) → All2 a → All32 b → All2 c → All32 d → All32 m → All2 a' → All32 b' → All2 c' → All32 d'
      → All R (half_trees r s t a b c d m a' b' c' d')
  unfolding half_trees
  reads_half s t a b c d m a' b' c' d' ha hb hc hd hm ka kb kc kd =
      let w = add3_trees r a' a (packed_limbs r b) (packed_limbs r m) in
      let x = xor_shift_trees r a' d d' s in
      let y = add2_trees r c' c (packed_limbs r d') in
      let z = xor_shift_trees r c' b b' t in
      All-append R (w ++ x) (y ++ z)
      (All-append R w x (reads_add3 a' a (packed_limbs r b) (packed_limbs r m) ka ha (reads_limbs b hb) (reads_limbs m hm)) (reads_xor_shift a' d d' s ka hd kd))
      (All-append R y z (reads_add2 c' c (packed_limbs r d') kc hc (reads_limbs d' kd)) (reads_xor_shift c' b b' t kc hb kb))

  reads_step : (n g : ℕ) → n < 28 → g < 4 → All R (step_half_trees r n g)
  unfolding step_half_trees
  reads_step n g ln lg =
      let b = columns_of_step (place_of n) (turn_of n) g in
      let a = columns_of_step (place_of (suc n)) (turn_of n) g in
      let wb = place_within n (omega (arith, ln)) in
      let wa = place_within (suc n) (omega (arith, ln)) in
      let m : message_of n g < 16 = message_below n g lg in
      reads_half (d_turn n) (b_turn n) (from_column b.a) (from_column b.b) (from_column b.c) (from_column b.d) (from_column (32 * message_of n g))
      (from_column a.a) (from_column a.b) (from_column a.c) (from_column a.d)
      (reads_from b.a 2 (omega (arith, wb.row0_in))) (reads_from b.b 32 (omega (arith, wb.row1_in))) (reads_from b.c 2 (omega (arith, wb.row2_in))) (reads_from b.d 32 (omega (arith, wb.row3_in)))
      (reads_from (32 * message_of n g) 32 (omega (arith, m)))
      (reads_from a.a 2 (omega (arith, wa.row0_in))) (reads_from a.b 32 (omega (arith, wa.row1_in))) (reads_from a.c 2 (omega (arith, wa.row2_in))) (reads_from a.d 32 (omega (arith, wa.row3_in)))

  reads_rounds : All R (rounds_trees r)
  unfolding rounds_trees steps_trees step_trees
  reads_rounds =
      all_joined R 14 (steps_trees r) (λ p lp. all_joined R 4 (step_trees r p) (λ g lg. all_joined R 2 (λ h. step_half_trees r (2 * p + h) g) (λ h lh.
      reads_step (2 * p + h) g (omega (arith, lp, lh)) lg)))

  reads_bits : (column n : ℕ) → column + n ≤ 9168 → All R (bits_trees r column n)
  unfolding bits_trees
  reads_bits column n h = all_tabulate R n (λ i. bool_tree r.one (from_column column i)) (λ i lt. reads_bool (from_column column i) (reads_from column n h i lt))

  reads_equal_limbs : (column limbs : ℕ) → column + 128 ≤ 9168 → limbs + 8 ≤ 9168 → All R (limbs_trees r column limbs)
  unfolding limbs_trees packed_trees
  reads_equal_limbs column limbs h l =
      all_joined R 4 (λ i. packed_trees r (column + 32 * i) (limbs + 2 * i)) (λ i li.
      all_tabulate R 2 (λ k. difference (packed_limbs r (from_column (column + 32 * i)) k) (from_column (limbs + 2 * i) k)) (λ k lk.
      (reads_limbs (from_column (column + 32 * i)) (reads_from (column + 32 * i) 32 (omega (arith, h, li))) k lk, reads_from (limbs + 2 * i) 2 (omega (arith, l, li)) k lk)))

  reads_iv : (column : ℕ) → column + 8 ≤ 9168 → All R (iv_trees r column)
  unfolding iv_trees word_trees
  reads_iv column h =
      all_joined R 4 (λ i. word_trees r (column + 2 * i) (iv i)) (λ i li.
      all_tabulate R 2 (λ k. difference (from_column (column + 2 * i) k) (number r (limb (iv i) k))) (λ k lk.
      (reads_from (column + 2 * i) 2 (omega (arith, h, li)) k lk, tt)))

  reads_masked : (limbs bits mask : ℕ) → limbs + 8 ≤ 9168 → bits + 128 ≤ 9168 → mask + 128 ≤ 9168 → All R (masked_trees r limbs bits mask)
  unfolding masked_trees
  reads_masked limbs bits mask h k l =
      all_joined R 4 (λ i. xor_shift_trees r (from_column (limbs + 2 * i)) (from_column (bits + 32 * i)) (from_column (mask + 32 * i)) 0) (λ i li.
      reads_xor_shift (from_column (limbs + 2 * i)) (from_column (bits + 32 * i)) (from_column (mask + 32 * i)) 0
      (reads_from (limbs + 2 * i) 2 (omega (arith, h, li))) (reads_from (bits + 32 * i) 32 (omega (arith, k, li))) (reads_from (mask + 32 * i) 32 (omega (arith, l, li))))

  reads_xors : (column left right : ℕ) → column + 128 ≤ 9168 → left + 128 ≤ 9168 → right + 128 ≤ 9168 → All R (xor_trees r column left right)
  unfolding xor_trees
  reads_xors column left right h k l =
      all_tabulate R 128 (λ i. difference (from_column column i) (xor_tree r (from_column left i) (from_column right i))) (λ i li.
      (reads_from column 128 h i li, reads_xor (from_column left i) (from_column right i) (reads_from left 128 k i li) (reads_from right 128 l i li)))

  pub reads_all : All R (blake3_trees r)
  unfolding blake3_trees first_trees last_trees first_output_trees other_output_trees
  reads_all =
      let a = bits_trees r 0 896 in
      let b = limbs_trees r 512 896 in
      let c = iv_trees r 904 in
      let d = rounds_trees r in
      let e = limbs_trees r 8528 8392 in
      let f = bits_trees r 8656 128 in
      let g = masked_trees r 8256 8656 8528 in
      let h = xor_trees r 8784 8264 8400 in
      let i = xor_trees r 8912 512 8528 in
      let j = xor_trees r 9040 640 8400 in
      let first = a ++ b ++ c in
      let out = e ++ f ++ g in
      let other = h ++ i ++ j in
      All-append R (first ++ d) (out ++ other)
      (All-append R first d (All-append R (a ++ b) c (All-append R a b (reads_bits 0 896 (omega arith)) (reads_equal_limbs 512 896 (omega arith) (omega arith))) (reads_iv 904 (omega arith))) reads_rounds)
      (All-append R out other
      (All-append R (e ++ f) g (All-append R e f (reads_equal_limbs 8528 8392 (omega arith) (omega arith)) (reads_bits 8656 128 (omega arith))) (reads_masked 8256 8656 8528 (omega arith) (omega arith) (omega arith)))
      (All-append R (h ++ i) j (All-append R h i (reads_xors 8784 8264 8400 (omega arith) (omega arith) (omega arith)) (reads_xors 8912 512 8528 (omega arith) (omega arith) (omega arith))) (reads_xors 9040 640 8400 (omega arith) (omega arith) (omega arith))))

-- the trees read columns that are declared
pub blake3_read : {F : Type 0} (r : Ring F) → All (ReadsDeclared (declared_shape (blake3_declaration {F = F}))) (blake3_trees r)
blake3_read {F = F} r =
    let s = declared_shape (blake3_declaration {F = F}) in
    reads_all r (Declares s) (DeclaresExt s) (λ k lt. (lt, λ e. absurd (cc e)))
