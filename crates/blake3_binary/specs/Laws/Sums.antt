-- Sums of words by bits, over each ring in which 1 + 1 is zero.
use Rattle.std.proofs.Common.{◌≡◌, ℕ, zero, suc, ◌+◌, ◌-◌, ◌*◌, ◌/◌, ◌%◌, ◌^◌, ◌<◌, List, [], ◌∷◌, refl, sym, ◌∙◌, ap, subst, arith, lit<}
use Rattle.std.specs.Prelude.{◌↔◌}
use Rattle.std.specs.Int.{bit_at}
use Rattle.std.proofs.lemmas.Nat.{shr_split}
use Rattle.std.proofs.lemmas.Nat.Bits.{bit_at_lowest, bit_at-suc, bit_at-lt, bit_at_cat_low}
use Rattle.std.proofs.lemmas.List.Elements.{All-cons, All-head, All-tail, All-append}
use Rattle.p3_field.specs.Ring.{Ring, RingLaws, of_nat}
use Rattle.p3_field.specs.Poly.{tabulate}
use Rattle.p3_field.specs.Laws.Algebra.{twice_zero, zero_mul, zero_add, of_nat_add, of_nat_mul}
use Rattle.p3_field.specs.Laws.Solver.{expressions, var, solve}
use Rattle.air_core.specs.declared.cells.Cell.{Cell}
use Rattle.air_core.specs.declared.cells.ExtCell.{ExtCell}
use Rattle.air_core.specs.Tree.{Tree, Reading, eval_tree, sum, product}
use Rattle.air_gadgets.specs.Words.{cells_reading, Vanish, HaveNumbers}
use Rattle.blake3_binary.specs.Sums.{carries_trees, majority, carry_in, sum2_trees, with_carries, sum3_trees, carry, turned, binary_half_trees}
use Rattle.blake3_binary.specs.Meanings.{Sum2Means, Sum3Means, BinaryHalfMeans}
use Rattle.std.specs.Prelude.{bit_xor}
use Rattle.std.specs.Int.{rotate_right, w32}
use Rattle.std.proofs.lemmas.Nat.{xor_lt, mod_below}
use Rattle.std.proofs.lemmas.Nat.Bits.{bit_at_xor}
use Rattle.air_gadgets.specs.Gadgets.{rotated_place}
use Rattle.air_gadgets.specs.Laws.Words.{bit_of_rotated}
use Rattle.blake3_compress.specs.Compress.{half_a, half_b, half_c, half_d}
use Rattle.blake3_compress.specs.Laws.Words.{right_is_left}
use Rattle.air_core.specs.Laws.Lists.{all_left, all_right, all_of_tabulate, all_tabulate}

-- the carry of a sum with a carry into its lowest bit
carry_from : ℕ → ℕ → ℕ → ℕ → ℕ
carry_from X Y c zero = c
carry_from X Y c (suc i) = carry_from (X / 2) (Y / 2) ((X % 2 + Y % 2 + c) / 2) i

carry_from_step : (X Y c i : ℕ) → carry_from X Y c (suc i) ≡ (bit_at X i + bit_at Y i + carry_from X Y c i) / 2
unfolding carry_from
carry_from_step X Y c zero = cc (bit_at_lowest X, bit_at_lowest Y)
carry_from_step X Y c (suc i) =
    carry_from_step (X / 2) (Y / 2) ((X % 2 + Y % 2 + c) / 2) i ∙ cc (bit_at-suc X i, bit_at-suc Y i)

bit_from : (X Y c i : ℕ) → bit_at (X + Y + c) i ≡ (bit_at X i + bit_at Y i + carry_from X Y c i) % 2
unfolding carry_from
bit_from X Y c zero =
    let a = bit_at_lowest X in
    let b = bit_at_lowest Y in
    bit_at_lowest (X + Y + c) ∙ omega (arith, a, b)
bit_from X Y c (suc i) =
    let half : (X + Y + c) / 2 ≡ X / 2 + Y / 2 + (X % 2 + Y % 2 + c) / 2 = omega arith in
    bit_at-suc (X + Y + c) i ∙ (ap (λ n. bit_at n i) half ∙ (bit_from (X / 2) (Y / 2) ((X % 2 + Y % 2 + c) / 2) i ∙ cc (bit_at-suc X i, bit_at-suc Y i)))

same_carry : (X Y i : ℕ) → carry X Y i ≡ carry_from X Y 0 i
unfolding carry carry_from
same_carry X Y zero = refl
same_carry X Y (suc i) = ap (λ n. (bit_at X i + bit_at Y i + n) / 2) (same_carry X Y i) ∙ sym (carry_from_step X Y 0 i)

pub bit_of_sum : (X Y i : ℕ) → bit_at (X + Y) i ≡ (bit_at X i + bit_at Y i + carry X Y i) % 2
bit_of_sum X Y i =
    let e : X + Y ≡ X + Y + 0 = omega arith in
    ap (λ n. bit_at n i) e ∙ (bit_from X Y 0 i ∙ ap (λ n. (bit_at X i + bit_at Y i + n) % 2) (sym (same_carry X Y i)))

pub carry_below : (X Y i : ℕ) → carry X Y i < 2
unfolding carry
carry_below X Y zero = lit< tt
carry_below X Y (suc i) = omega (arith, bit_at-lt X i, bit_at-lt Y i, carry_below X Y i)

pub bit_of_low : (n w i : ℕ) → i < w → bit_at (n % 2 ^ w) i ≡ bit_at n i
bit_of_low n w i h =
    let e : n / 2 ^ w * 2 ^ w + n % 2 ^ w ≡ n = shr_split n w in
    sym (bit_at_cat_low (n / 2 ^ w) w (n % 2 ^ w) i h) ∙ ap (λ m. bit_at m i) e

-- the majority of bits
number_majority : (a b c : ℕ) → a < 2 → b < 2 → c < 2 → ((a + c) * (b + c) + c) % 2 ≡ (a + b + c) / 2
number_majority zero zero zero x y z = refl
number_majority zero zero (suc zero) x y z = refl
number_majority zero (suc zero) zero x y z = refl
number_majority zero (suc zero) (suc zero) x y z = refl
number_majority (suc zero) zero zero x y z = refl
number_majority (suc zero) zero (suc zero) x y z = refl
number_majority (suc zero) (suc zero) zero x y z = refl
number_majority (suc zero) (suc zero) (suc zero) x y z = refl
number_majority a b c x y z = absurd (omega (arith, x, y, z))

-- rotation to the right takes bit j from place j + s
pub bit_of_right : (n s j : ℕ) → n < 2 ^ 32 → j < 32 → bit_at (rotate_right w32 n s) j ≡ bit_at n ((j + s) % 32)
bit_of_right n s j b lt =
    let e : rotated_place (32 - s % 32) j ≡ (j + s) % 32 = omega (arith, lt) in
    ap (λ m. bit_at m j) (right_is_left n s) ∙ (bit_of_rotated n (32 - s % 32) j b lt ∙ ap (bit_at n) e)

abbrev pub back_left : {A : Type 0} → Ring A → A → A → A → A
back_left r s x y = r.add (r.add (r.add (r.add s x) y) x) y

abbrev pub back_right : {A : Type 0} → Ring A → A → A → A → A
back_right r s x y = r.add s (r.add (r.add x x) (r.add y y))

module _ {A : Type 0} (r : Ring A) (L : RingLaws r) (two : r.add r.one r.one ≡ r.zero) where
  -- two of a value are zero
  pub double : (x : A) → r.add x x ≡ r.zero
  double x = twice_zero r L two x

  -- what is added to a sum of zero is what was there
  pub same_of_zero : (a b : A) → r.add a b ≡ r.zero → b ≡ a
  same_of_zero a b h = cc (double a, L.add_assoc a a b, zero_add r L b, L.add_zero a, h)

  pub zero_of_same : (a b : A) → b ≡ a → r.add a b ≡ r.zero
  zero_of_same a b h = cc (double a)

  -- s + x + y is c where c + x + y is s
  pub back : (s x y c : A) → r.add (r.add s x) y ≡ c → s ≡ r.add (r.add c x) y
  back s x y c h =
      let e : back_left r s x y ≡ back_right r s x y = solve r L (s ∷ x ∷ y ∷ []) (back_left expressions (var 0) (var 1) (var 2)) (back_right expressions (var 0) (var 1) (var 2)) refl in
      cc (e, double x, double y, L.add_zero r.zero, L.add_zero s)

  of_two : of_nat r 2 ≡ r.zero
  unfolding of_nat
  of_two = ap (r.add r.one) (L.add_zero r.one) ∙ two

  parity : (n : ℕ) → of_nat r n ≡ of_nat r (n % 2)
  parity n =
      let e : n ≡ n % 2 + 2 * (n / 2) = omega arith in
      ap (of_nat r) e ∙ cc (of_nat_add r L (n % 2) (2 * (n / 2)), of_nat_mul r L 2 (n / 2), of_two, zero_mul r L (of_nat r (n / 2)), L.add_zero (of_nat r (n % 2)))

  three : (a b c : ℕ) → r.add (r.add (of_nat r a) (of_nat r b)) (of_nat r c) ≡ of_nat r ((a + b + c) % 2)
  three a b c = cc (of_nat_add r L (a + b) c, of_nat_add r L a b, parity (a + b + c))

  module _ (at : Cell → A) (at_ext : ExtCell → A) where
    abbrev rd : Reading A A
    rd = cells_reading r at at_ext

    abbrev Zero : Tree A → Type 0
    Zero v = eval_tree rd v ≡ r.zero

    majority_value : (s t u : Tree A) (a b c : ℕ) → a < 2 → b < 2 → c < 2 → eval_tree rd s ≡ of_nat r a → eval_tree rd t ≡ of_nat r b → eval_tree rd u ≡ of_nat r c
        → eval_tree rd (majority s t u) ≡ of_nat r ((a + b + c) / 2)
    majority_value s t u a b c la lb lc ha hb hc =
        let e : eval_tree rd (majority s t u) ≡ of_nat r ((a + c) * (b + c) + c) =
        cc (ha, hb, hc, of_nat_add r L a c, of_nat_add r L b c, of_nat_mul r L (a + c) (b + c), of_nat_add r L ((a + c) * (b + c)) c) in
        e ∙ (parity ((a + c) * (b + c) + c) ∙ ap (of_nat r) (number_majority a b c la lb lc))

    no_carry : (X Y : ℕ) → of_nat r (carry X Y 0) ≡ r.zero
    unfolding carry of_nat
    no_carry X Y = refl

    next_carry : (X Y i : ℕ) → of_nat r (carry X Y (suc i)) ≡ of_nat r ((bit_at X i + bit_at Y i + carry X Y i) / 2)
    unfolding carry
    next_carry X Y i = refl

    module _ (x y s : ℕ → Tree A) (X Y : ℕ) (hx : HaveNumbers r rd 32 x (bit_at X)) (hy : HaveNumbers r rd 32 y (bit_at Y)) where
      -- the carries are those of the sum, up to a place
      carries : Vanish r rd (sum2_trees x y s) → (i : ℕ) → i < 32 → eval_tree rd (carry_in x y s i) ≡ of_nat r (carry X Y i)
      unfolding sum2_trees carry of_nat
      carries v zero lt = All-head Zero (carry_in x y s 0) (tabulate 31 (λ i. sum (majority (x i) (y i) (carry_in x y s i)) (carry_in x y s (suc i)))) v
      carries v (suc i) lt =
          let t : ℕ → Tree A = λ i. sum (majority (x i) (y i) (carry_in x y s i)) (carry_in x y s (suc i)) in
          let here : Zero (t i) = all_of_tabulate Zero 31 t (All-tail Zero (carry_in x y s 0) (tabulate 31 t) v) i (omega (arith, lt)) in
          let before = carries v i (omega (arith, lt)) in
          same_of_zero (eval_tree rd (majority (x i) (y i) (carry_in x y s i))) (eval_tree rd (carry_in x y s (suc i))) here
          ∙ majority_value (x i) (y i) (carry_in x y s i) (bit_at X i) (bit_at Y i) (carry X Y i) (bit_at-lt X i) (bit_at-lt Y i) (carry_below X Y i)
          (hx i (omega (arith, lt))) (hy i (omega (arith, lt))) before

      -- the sum's bit, by its carry
      bit_value : (i : ℕ) → i < 32 → r.add (r.add (of_nat r (carry X Y i)) (eval_tree rd (x i))) (eval_tree rd (y i)) ≡ of_nat r (bit_at ((X + Y) % 2 ^ 32) i)
      bit_value i lt =
          let e : (carry X Y i + bit_at X i + bit_at Y i) % 2 ≡ (bit_at X i + bit_at Y i + carry X Y i) % 2 = ap (λ n. n % 2) (omega arith) in
          cc (hx i lt, hy i lt, three (carry X Y i) (bit_at X i) (bit_at Y i), e, bit_of_sum X Y i, bit_of_low (X + Y) 32 i lt)

      sum2_of_zeros : Vanish r rd (sum2_trees x y s) → HaveNumbers r rd 32 s (bit_at ((X + Y) % 2 ^ 32))
      sum2_of_zeros v i lt =
          back (eval_tree rd (s i)) (eval_tree rd (x i)) (eval_tree rd (y i)) (of_nat r (carry X Y i)) (carries v i lt) ∙ bit_value i lt

      zeros_of_sum2 : HaveNumbers r rd 32 s (bit_at ((X + Y) % 2 ^ 32)) → Vanish r rd (sum2_trees x y s)
      unfolding sum2_trees
      zeros_of_sum2 h =
          let t : ℕ → Tree A = λ i. sum (majority (x i) (y i) (carry_in x y s i)) (carry_in x y s (suc i)) in
          let c : (i : ℕ) → i < 32 → eval_tree rd (carry_in x y s i) ≡ of_nat r (carry X Y i) = λ i lt.
          sym (back (of_nat r (carry X Y i)) (eval_tree rd (x i)) (eval_tree rd (y i)) (eval_tree rd (s i)) (bit_value i lt ∙ sym (h i lt))) in
          All-cons Zero (carry_in x y s 0) (tabulate 31 t) (c 0 (lit< tt) ∙ no_carry X Y) (all_tabulate Zero 31 t (λ i lt.
          zero_of_same (eval_tree rd (majority (x i) (y i) (carry_in x y s i))) (eval_tree rd (carry_in x y s (suc i)))
          (c (suc i) (omega (arith, lt)) ∙ (next_carry X Y i ∙ sym (majority_value (x i) (y i) (carry_in x y s i) (bit_at X i) (bit_at Y i) (carry X Y i) (bit_at-lt X i) (bit_at-lt Y i) (carry_below X Y i)
          (hx i (omega (arith, lt))) (hy i (omega (arith, lt))) (c i (omega (arith, lt))))))))

    pub sum2_means : Sum2Means r rd
    sum2_means x y s X Y hx hy = (sum2_of_zeros x y s X Y hx hy, zeros_of_sum2 x y s X Y hx hy)

    first_carry : (X Y : ℕ) → r.mul (of_nat r (bit_at X 0)) (of_nat r (bit_at Y 0)) ≡ of_nat r (carry X Y 1)
    unfolding carry
    first_carry X Y =
        sym (of_nat_mul r L (bit_at X 0) (bit_at Y 0)) ∙ ap (of_nat r) (product_half (bit_at X 0) (bit_at Y 0) (bit_at-lt X 0) (bit_at-lt Y 0))
      where
        product_half : (a b : ℕ) → a < 2 → b < 2 → a * b ≡ (a + b + 0) / 2
        product_half zero zero x y = refl
        product_half zero (suc zero) x y = refl
        product_half (suc zero) zero x y = refl
        product_half (suc zero) (suc zero) x y = refl
        product_half a b x y = absurd (omega (arith, x, y))

    module _ (x y k : ℕ → Tree A) (X Y : ℕ) (hx : HaveNumbers r rd 32 x (bit_at X)) (hy : HaveNumbers r rd 32 y (bit_at Y)) where
      abbrev carry_trees : List (Tree A)
      carry_trees = sum (product (x 0) (y 0)) (k 0) ∷ tabulate 30 (λ i. sum (majority (x (suc i)) (y (suc i)) (k i)) (k (suc i)))

      later_value : (i : ℕ) → i < 30 → eval_tree rd (k i) ≡ of_nat r (carry X Y (suc i)) → eval_tree rd (majority (x (suc i)) (y (suc i)) (k i)) ≡ of_nat r (carry X Y (suc (suc i)))
      later_value i lt h =
          majority_value (x (suc i)) (y (suc i)) (k i) (bit_at X (suc i)) (bit_at Y (suc i)) (carry X Y (suc i)) (bit_at-lt X (suc i)) (bit_at-lt Y (suc i)) (carry_below X Y (suc i))
          (hx (suc i) (omega (arith, lt))) (hy (suc i) (omega (arith, lt))) h
          ∙ sym (next_carry X Y (suc i))

      first_value : eval_tree rd (product (x 0) (y 0)) ≡ of_nat r (carry X Y 1)
      first_value = (λ j. r.mul (hx 0 (lit< tt) j) (hy 0 (lit< tt) j)) ∙ first_carry X Y

      carries_of_zeros : Vanish r rd carry_trees → (i : ℕ) → i < 31 → eval_tree rd (k i) ≡ of_nat r (carry X Y (suc i))
      carries_of_zeros v zero lt =
          let t : ℕ → Tree A = λ i. sum (majority (x (suc i)) (y (suc i)) (k i)) (k (suc i)) in
          same_of_zero (eval_tree rd (product (x 0) (y 0))) (eval_tree rd (k 0)) (All-head Zero (sum (product (x 0) (y 0)) (k 0)) (tabulate 30 t) v) ∙ first_value
      carries_of_zeros v (suc i) lt =
          let t : ℕ → Tree A = λ i. sum (majority (x (suc i)) (y (suc i)) (k i)) (k (suc i)) in
          let here : Zero (t i) = all_of_tabulate Zero 30 t (All-tail Zero (sum (product (x 0) (y 0)) (k 0)) (tabulate 30 t) v) i (omega (arith, lt)) in
          same_of_zero (eval_tree rd (majority (x (suc i)) (y (suc i)) (k i))) (eval_tree rd (k (suc i))) here ∙ later_value i (omega (arith, lt)) (carries_of_zeros v i (omega (arith, lt)))

      zeros_of_carries : HaveNumbers r rd 31 k (λ i. carry X Y (suc i)) → Vanish r rd carry_trees
      zeros_of_carries h =
          let t : ℕ → Tree A = λ i. sum (majority (x (suc i)) (y (suc i)) (k i)) (k (suc i)) in
          All-cons Zero (sum (product (x 0) (y 0)) (k 0)) (tabulate 30 t) (zero_of_same (eval_tree rd (product (x 0) (y 0))) (eval_tree rd (k 0)) (h 0 (lit< tt) ∙ sym first_value))
          (all_tabulate Zero 30 t (λ i lt. zero_of_same (eval_tree rd (majority (x (suc i)) (y (suc i)) (k i))) (eval_tree rd (k (suc i))) (h (suc i) (omega (arith, lt)) ∙ sym (later_value i lt (h i (omega (arith, lt)))))))

      sum_values : HaveNumbers r rd 31 k (λ i. carry X Y (suc i)) → HaveNumbers r rd 32 (with_carries x y k) (bit_at ((X + Y) % 2 ^ 32))
      unfolding carry
      sum_values h zero lt =
          let e : (bit_at X 0 + bit_at Y 0) % 2 ≡ (bit_at X 0 + bit_at Y 0 + carry X Y 0) % 2 = ap (λ n. n % 2) (omega arith) in
          cc (hx 0 lt, hy 0 lt, of_nat_add r L (bit_at X 0) (bit_at Y 0), parity (bit_at X 0 + bit_at Y 0), e, bit_of_sum X Y 0, bit_of_low (X + Y) 32 0 lt)
      sum_values h (suc i) lt =
          cc (hx (suc i) lt, hy (suc i) lt, h i (omega (arith, lt)), three (bit_at X (suc i)) (bit_at Y (suc i)) (carry X Y (suc i)), bit_of_sum X Y (suc i), bit_of_low (X + Y) 32 (suc i) lt)

    pub sum3_means : Sum3Means r rd
    unfolding sum3_trees carries_trees
    sum3_means x y z k s X Y Z hx hy hz =
        let first = carry_trees x y k X Y hx hy in
        let second = sum2_trees (with_carries x y k) z s in
        let W = (X + Y) % 2 ^ 32 in
        let e : (W + Z) % 2 ^ 32 ≡ (X + Y + Z) % 2 ^ 32 = omega arith in
        let rest = λ (h : HaveNumbers r rd 31 k (λ i. carry X Y (suc i))). sum2_means (with_carries x y k) z s W Z (sum_values x y k X Y hx hy h) hz in (
          λ v.
              let h = carries_of_zeros x y k X Y hx hy (all_left Zero first second v) in
              (h, subst (λ n. HaveNumbers r rd 32 s (bit_at n)) e ((rest h).0 (all_right Zero first second v))),
          λ p.
              All-append Zero first second (zeros_of_carries x y k X Y hx hy p.0) ((rest p.0).1 (subst (λ n. HaveNumbers r rd 32 s (bit_at n)) (sym e) p.1)),
        )

    -- x xor (y turned) has the bits of S exactly where y has those of x xor S, turned back
    turned_means : (x y : ℕ → Tree A) (D S s : ℕ) → D < 2 ^ 32 → S < 2 ^ 32 → HaveNumbers r rd 32 x (bit_at D)
        → HaveNumbers r rd 32 (turned x y s) (bit_at S) ↔ HaveNumbers r rd 32 y (bit_at (rotate_right w32 (bit_xor D S) s))
    turned_means x y D S s lD lS hx =
        let W = bit_xor D S in
        let lW : W < 2 ^ 32 = xor_lt 32 D S lD lS in (
          λ h j lt.
              let i = (j + s) % 32 in
              let li : i < 32 = omega arith in
              let e : rotated_place s i ≡ j = omega (arith, lt) in
              let here : r.add (eval_tree rd (x i)) (eval_tree rd (y j)) ≡ of_nat r (bit_at S i) = subst (λ l. r.add (eval_tree rd (x i)) (eval_tree rd (y l)) ≡ of_nat r (bit_at S i)) e (h i li) in
              let f : (bit_at S i + bit_at D i) % 2 ≡ (bit_at D i + bit_at S i) % 2 = ap (λ n. n % 2) (omega arith) in
              let g : eval_tree rd (y j) ≡ r.add (of_nat r (bit_at S i)) (of_nat r (bit_at D i)) = moved_one (eval_tree rd (x i)) (eval_tree rd (y j)) (of_nat r (bit_at S i)) here ∙ ap (r.add (of_nat r (bit_at S i))) (hx i li) in
              g ∙ cc (of_nat_add r L (bit_at S i) (bit_at D i), parity (bit_at S i + bit_at D i), f, bit_at_xor D S i, bit_of_right W s j lW lt),
          λ h i lt.
              let j = rotated_place s i in
              let lj : j < 32 = omega arith in
              let e : (j + s) % 32 ≡ i = omega (arith, lt) in
              let value : eval_tree rd (y j) ≡ of_nat r (bit_at W i) = h j lj ∙ ap (of_nat r) (bit_of_right W s j lW lj ∙ ap (bit_at W) e) in
              let f : (bit_at D i + (bit_at D i + bit_at S i) % 2) % 2 ≡ bit_at S i = omega (arith, bit_at-lt D i, bit_at-lt S i) in
              cc (hx i lt, value, bit_at_xor D S i, of_nat_add r L (bit_at D i) ((bit_at D i + bit_at S i) % 2), parity (bit_at D i + (bit_at D i + bit_at S i) % 2), f),
        )
      where
        moved_one : (a b c : A) → r.add a b ≡ c → b ≡ r.add c a
        moved_one a b c h = cc (double a, L.add_assoc a a b, L.add_comm a c, zero_add r L b, h)

    pub half_means : BinaryHalfMeans r rd
    unfolding binary_half_trees half_a half_b half_c half_d
    half_means s t a b c d m k d' b' q x Q h hm =
        let S = half_a q x in
        let D = half_d s q x in
        let C = half_c s q x in
        let lS : S < 2 ^ 32 = mod_below (q.a + q.b + x) (2 ^ 32) (lit< tt) in
        let lC : C < 2 ^ 32 = mod_below (q.c + D) (2 ^ 32) (lit< tt) in
        let one = sum3_trees a b m k (turned d d' s) in
        let two' = sum2_trees c d' (turned b b' t) in
        let first = sum3_means a b m k (turned d d' s) q.a q.b x h.a_bits h.b_bits hm in
        let d_is = turned_means d d' q.d S s Q.d_word lS h.d_bits in
        let second = λ (hd : HaveNumbers r rd 32 d' (bit_at D)). sum2_means c d' (turned b b' t) q.c D h.c_bits hd in
        let b_is = turned_means b b' q.b C t Q.b_word lC h.b_bits in (
          λ v.
              let p = first.0 (all_left Zero one two' v) in
              let hd = d_is.0 p.1 in
              let hc = (second hd).0 (all_right Zero one two' v) in
              (p.0, record { a_bits = p.1; b_bits = b_is.0 hc; c_bits = hc; d_bits = hd }),
          λ p. All-append Zero one two' (first.1 (p.0, p.1.a_bits)) ((second p.1.d_bits).1 p.1.c_bits),
        )
