-- What the gadgets' trees mean, over each prime field of more than 2^20 elements.
use Rattle.std.proofs.Common.{◌≡◌, ℕ, zero, suc, ◌+◌, ◌*◌, ◌/◌, ◌%◌, ◌^◌, ◌<◌, ◌≤◌, ◌⊎◌, inl, inr, [], ◌∷◌, map, refl, sym, ◌∙◌, ap, arith, lit<, zero-add, add-zero}
use Rattle.std.specs.Prelude.{bit_xor}
use Rattle.std.specs.Int.{rotate_left, w32}
use Rattle.std.proofs.lemmas.Bool.{cases_eq, cases_lt}
use Rattle.std.proofs.lemmas.List.Elements.{All-nil, All-cons, All-head, All-tail, All-append}
use Rattle.std.proofs.Math.Nat.{mod-eq_of_lt, zero-mod, pow-suc}
use Rattle.p3_field.specs.Ring.{Ring, RingLaws, of_nat, sub}
use Rattle.p3_field.specs.Poly.{tabulate, total}
use Rattle.p3_field.specs.Laws.Algebra.{add_cancel, one_mul, mul_zero, zero_mul, of_nat_add, of_nat_mul}
use Rattle.p3_field.specs.Laws.Sums.{total_same, total_scale}
use Rattle.p3_field.specs.Laws.Coset.{mul_cancel}
use Rattle.p3_field.specs.Laws.Roots.{sub_zero, sub_self, field_no_zero_divisors}
use Rattle.p3_field.specs.Laws.Solver.{expressions, var, solve}
use Rattle.air_core.specs.declared.cells.Cell.{Cell}
use Rattle.air_core.specs.declared.cells.ExtCell.{ExtCell}
use Rattle.air_core.specs.Tree.{Tree, Reading, eval_tree, difference, bool_tree}
use Rattle.air_gadgets.specs.Gadgets.{difference_of_three, difference_of_four, with_high, zero_or_minus, zero_to_minus_twice, packed_bits, xor_shift_bit, xor_shift_trees, rotated_place}
use Rattle.air_gadgets.specs.Words.{PrimeFieldLaws, cells_reading, Vanish, HaveNumbers, AreBits, limbs_word, limb, bits_number, bits_word, Add2Means, Add3Means, PackMeans, PackSums, XorShiftMeans}
use Rattle.air_core.specs.Laws.Lists.{all_left, all_right, all_of_mapped, all_mapped}
use Rattle.air_gadgets.specs.Laws.Bits.{xor_value, of_one, bool_value}
use Rattle.air_gadgets.specs.Laws.Words.{turned_bit, turned_bits, xor_of_bits, low_limb, high_limb}

-- m - n as an element
abbrev pub gap : {A : Type 0} → Ring A → ℕ → ℕ → A
gap r m n = sub r (of_nat r m) (of_nat r n)

abbrev shifted_left : {A : Type 0} → Ring A → A → A → A → A
shifted_left r m n k = r.add (sub r m n) k

abbrev shifted_right : {A : Type 0} → Ring A → A → A → A → A
shifted_right r m n k = sub r (r.add m k) n

abbrev less_left : {A : Type 0} → Ring A → A → A → A → A
less_left r m n k = sub r (sub r m n) k

abbrev less_right : {A : Type 0} → Ring A → A → A → A → A
less_right r m n k = sub r m (r.add n k)

abbrev weighed_left : {A : Type 0} → Ring A → A → A → A → A → A → A
weighed_left r m n w p q = r.add (sub r m n) (r.mul w (sub r p q))

abbrev weighed_right : {A : Type 0} → Ring A → A → A → A → A → A → A
weighed_right r m n w p q = sub r (r.add m (r.mul w p)) (r.add n (r.mul w q))

module _ {A : Type 0} (r : Ring A) (L : RingLaws r) where
  gap_shifted : (m n k : ℕ) → r.add (gap r m n) (of_nat r k) ≡ gap r (m + k) n
  gap_shifted m n k =
      solve r L (of_nat r m ∷ of_nat r n ∷ of_nat r k ∷ []) (shifted_left expressions (var 0) (var 1) (var 2)) (shifted_right expressions (var 0) (var 1) (var 2)) refl
      ∙ ap (λ x. sub r x (of_nat r n)) (sym (of_nat_add r L m k))

  gap_less : (m n k : ℕ) → sub r (gap r m n) (of_nat r k) ≡ gap r m (n + k)
  gap_less m n k =
      solve r L (of_nat r m ∷ of_nat r n ∷ of_nat r k ∷ []) (less_left expressions (var 0) (var 1) (var 2)) (less_right expressions (var 0) (var 1) (var 2)) refl
      ∙ ap (sub r (of_nat r m)) (sym (of_nat_add r L n k))

  gap_weighed : (m n w p q : ℕ) → r.add (gap r m n) (r.mul (of_nat r w) (gap r p q)) ≡ gap r (m + w * p) (n + w * q)
  gap_weighed m n w p q =
      solve r L (of_nat r m ∷ of_nat r n ∷ of_nat r w ∷ of_nat r p ∷ of_nat r q ∷ [])
      (weighed_left expressions (var 0) (var 1) (var 2) (var 3) (var 4)) (weighed_right expressions (var 0) (var 1) (var 2) (var 3) (var 4)) refl
      ∙ cc (of_nat_add r L m (w * p), of_nat_add r L n (w * q), of_nat_mul r L w p, of_nat_mul r L w q)

-- m and some carry, at most K, of n each make up k, as elements
pub record Carried {A : Type 0} (r : Ring A) (K n m k : ℕ) : Type 0 where
  pub carry : ℕ
  pub most : carry ≤ K
  pub same : of_nat r (m + n * carry) ≡ of_nat r k

two_places : (Q : ℕ → Type 0) → Q 0 → Q 1 → (k : ℕ) → k < 2 → Q k
two_places Q a b zero h = a
two_places Q a b (suc zero) h = b
two_places Q a b (suc (suc k)) h = absurd (omega (arith, h))

word_modulo : (a0 a1 s0 s1 p q : ℕ) → a0 < 2 ^ 16 → a1 < 2 ^ 16 → a0 + 2 ^ 16 * p ≡ s0 → a1 + 2 ^ 16 * q ≡ p + s1 → a0 + 2 ^ 16 * a1 ≡ (s0 + 2 ^ 16 * s1) % 2 ^ 32
word_modulo a0 a1 s0 s1 p q b0 b1 e f =
    let g : s0 + 2 ^ 16 * s1 ≡ 2 ^ 32 * q + (a0 + 2 ^ 16 * a1) = omega arith in
    omega arith

low_carry : (a0 a1 s0 s1 : ℕ) → a0 < 2 ^ 16 → a1 < 2 ^ 16 → a0 + 2 ^ 16 * a1 ≡ (s0 + 2 ^ 16 * s1) % 2 ^ 32 → a0 + 2 ^ 16 * (s0 / 2 ^ 16) ≡ s0
low_carry a0 a1 s0 s1 b0 b1 h = omega arith

whole_carry : (a s : ℕ) → a ≡ s % 2 ^ 32 → a + 2 ^ 32 * (s / 2 ^ 32) ≡ s
whole_carry a s h = omega arith

module _ {A : Type 0} (r : Ring A) (inv : A → A) (order : ℕ) (canonical : A → ℕ) (P : PrimeFieldLaws r inv order canonical) where
  -- elements of numbers below the order
  pub same_number : (m n : ℕ) → m < order → n < order → of_nat r m ≡ of_nat r n → m ≡ n
  same_number m n a b e =
      sym (mod-eq_of_lt a) ∙ (sym (P.canonical_of m) ∙ (ap canonical e ∙ (P.canonical_of n ∙ mod-eq_of_lt b)))

  pub canonical_zero : canonical r.zero ≡ 0
  unfolding of_nat
  canonical_zero = P.canonical_of 0 ∙ zero-mod order

  pub zero_or_not : (x : A) → (x ≡ r.zero) ⊎ (x ≡ r.zero → ⊥)
  unfolding of_nat
  zero_or_not x = elim (cases_eq (canonical x) 0) [
    | inl e ↦ inl (sym (P.of_canonical x) ∙ ap (of_nat r) e)
    | inr d ↦ inr (λ h. d (ap canonical h ∙ canonical_zero))
  ]

  -- a product is zero where a factor is
  pub zero_factor : (x y : A) → r.mul x y ≡ r.zero → (x ≡ r.zero) ⊎ (y ≡ r.zero)
  zero_factor x y e = elim (zero_or_not x) [
    | inl h ↦ inl h
    | inr d ↦ inr (field_no_zero_divisors r P.ring_laws inv P.field_laws x y d e)
  ]

  -- x (x - 1) is zero only where x is zero or one
  pub value_bool : 2 ^ 20 < order → (x : A) → r.mul x (sub r x r.one) ≡ r.zero → canonical x < 2
  value_bool o x e = elim (zero_factor x (sub r x r.one) e) [
    | inl h ↦ let z : canonical x ≡ 0 = ap canonical h ∙ canonical_zero in omega (arith, z)
    | inr h ↦
        let one : x ≡ of_nat r 1 = sub_zero r P.ring_laws x r.one h ∙ sym (of_one r P.ring_laws) in
        let b : 1 < order = omega (arith, o) in
        let z : canonical x ≡ 1 = ap canonical one ∙ (P.canonical_of 1 ∙ mod-eq_of_lt b) in
        omega (arith, z)
  ]

  -- a number below the order that isn't zero is no zero
  not_zero : (n : ℕ) → 0 < n → n < order → of_nat r n ≡ r.zero → ⊥
  unfolding of_nat
  not_zero n a b e = let h : n ≡ 0 = same_number n 0 b (omega arith) e in omega (arith, h)

  gap_zero : (m n : ℕ) → gap r m n ≡ r.zero → of_nat r m ≡ of_nat r n
  gap_zero m n e = sub_zero r P.ring_laws (of_nat r m) (of_nat r n) e

  zero_gap : (m n : ℕ) → of_nat r m ≡ of_nat r n → gap r m n ≡ r.zero
  zero_gap m n e = sub_self r P.ring_laws (of_nat r m) (of_nat r n) e

  carried_at : (K n m k c l : ℕ) → c ≤ K → l ≡ m + n * c → of_nat r l ≡ of_nat r k → Carried r K n m k
  carried_at K n m k c l h e f = record { carry = c; most = h; same = ap (of_nat r) (sym e) ∙ f }

  -- m - k is zero, and m - k + l
  first_zero : (x : A) (n m k : ℕ) → x ≡ gap r m k → of_nat r (m + n * 0) ≡ of_nat r k → x ≡ r.zero
  first_zero x n m k e h = let f : m ≡ m + n * 0 = omega arith in e ∙ zero_gap m k (ap (of_nat r) f ∙ h)

  later_zero : (x : A) (m k l j : ℕ) → x ≡ gap r m k → j ≡ m + l → of_nat r j ≡ of_nat r k → r.add x (of_nat r l) ≡ r.zero
  later_zero x m k l j e f h =
      ap (λ v. r.add v (of_nat r l)) e ∙ (gap_shifted r P.ring_laws m k l ∙ zero_gap (m + l) k (ap (of_nat r) (sym f) ∙ h))

  zero_later : (x : A) (m k l : ℕ) → x ≡ gap r m k → r.add x (of_nat r l) ≡ r.zero → of_nat r (m + l) ≡ of_nat r k
  zero_later x m k l e h = gap_zero (m + l) k (sym (ap (λ v. r.add v (of_nat r l)) e ∙ gap_shifted r P.ring_laws m k l) ∙ h)

  -- x (x + n) is zero where x is no or one n below zero
  two_carried : (x : A) (n m k : ℕ) → x ≡ gap r m k → r.mul x (r.add x (of_nat r n)) ≡ r.zero → Carried r 1 n m k
  two_carried x n m k e z = elim (zero_factor x (r.add x (of_nat r n)) z) [
    | inl h ↦ carried_at 1 n m k 0 m (omega arith) (omega arith) (gap_zero m k (sym e ∙ h))
    | inr h ↦ carried_at 1 n m k 1 (m + n) (omega arith) (omega arith) (zero_later x m k n e h)
  ]

  carried_two : (x : A) (n m k : ℕ) → x ≡ gap r m k → Carried r 1 n m k → r.mul x (r.add x (of_nat r n)) ≡ r.zero
  carried_two x n m k e c = elim (cases_eq c.carry 0) [
    | inl h ↦ ap (λ v. r.mul v (r.add x (of_nat r n))) (first_zero x n m k e (ap (λ j. of_nat r (m + n * j)) (sym h) ∙ c.same)) ∙ zero_mul r P.ring_laws (r.add x (of_nat r n))
    | inr d ↦
        let one : c.carry ≡ 1 = omega (arith, c.most) in
        let sum : m + n * c.carry ≡ m + n = ap (λ j. m + n * j) one ∙ omega arith in
        ap (r.mul x) (later_zero x m k n (m + n * c.carry) e sum c.same) ∙ mul_zero r P.ring_laws x
  ]

  -- x (x + n) (x + 2n) likewise, for up to two n
  three_carried : (x : A) (n m k : ℕ) → x ≡ gap r m k → r.mul (r.mul x (r.add x (of_nat r n))) (r.add x (of_nat r (2 * n))) ≡ r.zero → Carried r 2 n m k
  three_carried x n m k e z = elim (zero_factor (r.mul x (r.add x (of_nat r n))) (r.add x (of_nat r (2 * n))) z) [
    | inl h ↦ let c = two_carried x n m k e h in record { carry = c.carry; most = omega (arith, c.most); same = c.same }
    | inr h ↦ carried_at 2 n m k 2 (m + 2 * n) (omega arith) (omega arith) (zero_later x m k (2 * n) e h)
  ]

  carried_three : (x : A) (n m k : ℕ) → x ≡ gap r m k → Carried r 2 n m k → r.mul (r.mul x (r.add x (of_nat r n))) (r.add x (of_nat r (2 * n))) ≡ r.zero
  carried_three x n m k e c = elim (cases_lt c.carry 2) [
    | inl h ↦
        ap (λ v. r.mul v (r.add x (of_nat r (2 * n)))) (carried_two x n m k e (record { carry = c.carry; most = omega (arith, h); same = c.same }))
        ∙ zero_mul r P.ring_laws (r.add x (of_nat r (2 * n)))
    | inr d ↦
        let two : c.carry ≡ 2 = omega (arith, c.most, d) in
        let sum : m + n * c.carry ≡ m + 2 * n = ap (λ j. m + n * j) two ∙ omega arith in
        ap (r.mul (r.mul x (r.add x (of_nat r n)))) (later_zero x m k (2 * n) (m + n * c.carry) e sum c.same)
        ∙ mul_zero r P.ring_laws (r.mul x (r.add x (of_nat r n)))
  ]

  -- equal low parts and a factor may go
  high_same : (a m n : ℕ) → 2 ^ 20 < order → of_nat r (a + 2 ^ 16 * m) ≡ of_nat r (a + 2 ^ 16 * n) → of_nat r m ≡ of_nat r n
  high_same a m n b e =
      let M = P.ring_laws in
      let w = 2 ^ 16 in
      let split = λ (j : ℕ). of_nat_add r M a (w * j) ∙ ap (r.add (of_nat r a)) (of_nat_mul r M w j) in
      mul_cancel r M (field_no_zero_divisors r M inv P.field_laws) (of_nat r w) (of_nat r m) (of_nat r n) (not_zero w (lit< tt) (omega arith))
      (add_cancel r M (of_nat r a) (r.mul (of_nat r w) (of_nat r m)) (r.mul (of_nat r w) (of_nat r n)) (sym (split m) ∙ (e ∙ split n)))

  -- up to two carries from the low limbs and from the whole words: the words agree modulo 2^32
  carried_word : (K a0 a1 s0 s1 : ℕ) → K ≤ 2 → 2 ^ 20 < order → a0 < 2 ^ 16 → a1 < 2 ^ 16 → s0 < 2 ^ 18 → s1 < 2 ^ 18
      → Carried r K (2 ^ 32) (a0 + 2 ^ 16 * a1) (s0 + 2 ^ 16 * s1) → Carried r K (2 ^ 16) a0 s0 → a0 + 2 ^ 16 * a1 ≡ (s0 + 2 ^ 16 * s1) % 2 ^ 32
  carried_word K a0 a1 s0 s1 k o b0 b1 c0 c1 all low =
      let p = low.carry in
      let q = all.carry in
      let here : a0 + 2 ^ 16 * p ≡ s0 = same_number (a0 + 2 ^ 16 * p) s0 (omega (arith, low.most)) (omega arith) low.same in
      let e : (a0 + 2 ^ 16 * a1) + 2 ^ 32 * q ≡ a0 + 2 ^ 16 * (a1 + 2 ^ 16 * q) = omega arith in
      let f : s0 + 2 ^ 16 * s1 ≡ a0 + 2 ^ 16 * (p + s1) = omega (arith, here) in
      let high : a1 + 2 ^ 16 * q ≡ p + s1 = same_number (a1 + 2 ^ 16 * q) (p + s1) (omega (arith, all.most)) (omega (arith, low.most))
      (high_same a0 (a1 + 2 ^ 16 * q) (p + s1) o (ap (of_nat r) (sym e) ∙ (all.same ∙ ap (of_nat r) f))) in
      word_modulo a0 a1 s0 s1 p q b0 b1 here high

  word_carried_low : (K a0 a1 s0 s1 : ℕ) → a0 < 2 ^ 16 → a1 < 2 ^ 16 → s0 + K < (K + 1) * 2 ^ 16
      → a0 + 2 ^ 16 * a1 ≡ (s0 + 2 ^ 16 * s1) % 2 ^ 32 → Carried r K (2 ^ 16) a0 s0
  word_carried_low K a0 a1 s0 s1 b0 b1 c0 h = record {
    carry = s0 / 2 ^ 16;
    most = omega arith;
    same = ap (of_nat r) (low_carry a0 a1 s0 s1 b0 b1 h);
  }

  word_carried : (K a0 a1 s0 s1 : ℕ) → a0 < 2 ^ 16 → a1 < 2 ^ 16 → s0 + K < (K + 1) * 2 ^ 16 → s1 + K < (K + 1) * 2 ^ 16
      → a0 + 2 ^ 16 * a1 ≡ (s0 + 2 ^ 16 * s1) % 2 ^ 32 → Carried r K (2 ^ 32) (a0 + 2 ^ 16 * a1) (s0 + 2 ^ 16 * s1)
  word_carried K a0 a1 s0 s1 b0 b1 c0 c1 h = record {
    carry = (s0 + 2 ^ 16 * s1) / 2 ^ 32;
    most = omega arith;
    same = ap (of_nat r) (whole_carry (a0 + 2 ^ 16 * a1) (s0 + 2 ^ 16 * s1) h);
  }

  module _ (at : Cell → A) (at_ext : ExtCell → A) where
    abbrev rd : Reading A A
    rd = cells_reading r at at_ext

    less_two_value : (x y z : A) (m n k : ℕ) → x ≡ of_nat r m → y ≡ of_nat r n → z ≡ of_nat r k → sub r (sub r x y) z ≡ gap r m (n + k)
    less_two_value x y z m n k e f g = cc (e, f, g, gap_less r P.ring_laws m n k)

    less_three_value : (x y z w : A) (m n k j : ℕ) → x ≡ of_nat r m → y ≡ of_nat r n → z ≡ of_nat r k → w ≡ of_nat r j → sub r (sub r (sub r x y) z) w ≡ gap r m (n + k + j)
    less_three_value x y z w m n k j e f g h =
        cc (less_two_value x y z m n k e f g, h, gap_less r P.ring_laws m (n + k) j)

    whole_value : (x y : A) (m n p q : ℕ) → x ≡ gap r m n → y ≡ gap r p q → r.add x (r.mul (of_nat r (2 ^ 16)) y) ≡ gap r (m + 2 ^ 16 * p) (n + 2 ^ 16 * q)
    whole_value x y m n p q e f = cc (e, f, gap_weighed r P.ring_laws m n (2 ^ 16) p q)

    two_vanish : (s t : Tree A) → eval_tree rd s ≡ r.zero → eval_tree rd t ≡ r.zero → Vanish r rd (s ∷ t ∷ [])
    two_vanish s t e f = let Q : Tree A → Type 0 = λ v. eval_tree rd v ≡ r.zero in All-cons Q s (t ∷ []) e (All-cons Q t [] f (All-nil Q))

    first_vanishes : (s t : Tree A) → Vanish r rd (s ∷ t ∷ []) → eval_tree rd s ≡ r.zero
    first_vanishes s t h = All-head (λ v. eval_tree rd v ≡ r.zero) s (t ∷ []) h

    second_vanishes : (s t : Tree A) → Vanish r rd (s ∷ t ∷ []) → eval_tree rd t ≡ r.zero
    second_vanishes s t h = let Q : Tree A → Type 0 = λ v. eval_tree rd v ≡ r.zero in All-head Q t [] (All-tail Q s (t ∷ []) h)

    pub add2_means : 2 ^ 20 < order → Add2Means r rd
    add2_means o s t u a b c ra rb rc hs ht hu =
        let L = P.ring_laws in
        let zero-lt : 0 < 2 = lit< tt in
        let one-lt : 1 < 2 = lit< tt in
        let low = less_two_value (eval_tree rd (s 0)) (eval_tree rd (t 0)) (eval_tree rd (u 0)) (a 0) (b 0) (c 0) (hs 0 zero-lt) (ht 0 zero-lt) (hu 0 zero-lt) in
        let high = less_two_value (eval_tree rd (s 1)) (eval_tree rd (t 1)) (eval_tree rd (u 1)) (a 1) (b 1) (c 1) (hs 1 one-lt) (ht 1 one-lt) (hu 1 one-lt) in
        let x = eval_tree rd (difference_of_three (s 0) (t 0) (u 0)) in
        let y = eval_tree rd (with_high r (difference_of_three (s 0) (t 0) (u 0)) (difference_of_three (s 1) (t 1) (u 1))) in
        let s0 = b 0 + c 0 in
        let s1 = b 1 + c 1 in
        let whole : y ≡ gap r (a 0 + 2 ^ 16 * a 1) (s0 + 2 ^ 16 * s1) = whole_value x (eval_tree rd (difference_of_three (s 1) (t 1) (u 1))) (a 0) s0 (a 1) s1 low high in
        let a0 : a 0 < 2 ^ 16 = ra 0 zero-lt in
        let a1 : a 1 < 2 ^ 16 = ra 1 one-lt in
        let b0 : b 0 < 2 ^ 16 = rb 0 zero-lt in
        let b1 : b 1 < 2 ^ 16 = rb 1 one-lt in
        let c0 : c 0 < 2 ^ 16 = rc 0 zero-lt in
        let c1 : c 1 < 2 ^ 16 = rc 1 one-lt in
        let first = zero_or_minus r (2 ^ 32) (with_high r (difference_of_three (s 0) (t 0) (u 0)) (difference_of_three (s 1) (t 1) (u 1))) in
        let second = zero_or_minus r (2 ^ 16) (difference_of_three (s 0) (t 0) (u 0)) in
        let sum : limbs_word b + limbs_word c ≡ s0 + 2 ^ 16 * s1 = omega arith in (
          λ v. carried_word 1 (a 0) (a 1) s0 s1 (omega arith) o a0 a1 (omega arith) (omega arith)
              (two_carried y (2 ^ 32) (a 0 + 2 ^ 16 * a 1) (s0 + 2 ^ 16 * s1) whole (first_vanishes first second v))
              (two_carried x (2 ^ 16) (a 0) s0 low (second_vanishes first second v))
              ∙ ap (λ n. n % 2 ^ 32) (sym sum),
          λ e.
              let f : a 0 + 2 ^ 16 * a 1 ≡ (s0 + 2 ^ 16 * s1) % 2 ^ 32 = e ∙ ap (λ n. n % 2 ^ 32) sum in
              two_vanish first second
              (carried_two y (2 ^ 32) (a 0 + 2 ^ 16 * a 1) (s0 + 2 ^ 16 * s1) whole (word_carried 1 (a 0) (a 1) s0 s1 a0 a1 (omega arith) (omega arith) f))
              (carried_two x (2 ^ 16) (a 0) s0 low (word_carried_low 1 (a 0) (a 1) s0 s1 a0 a1 (omega arith) f)),
        )

    pub add3_means : 2 ^ 20 < order → Add3Means r rd
    add3_means o s t u v a b c d ra rb rc rd' hs ht hu hv =
        let L = P.ring_laws in
        let zero-lt : 0 < 2 = lit< tt in
        let one-lt : 1 < 2 = lit< tt in
        let low = less_three_value (eval_tree rd (s 0)) (eval_tree rd (t 0)) (eval_tree rd (u 0)) (eval_tree rd (v 0)) (a 0) (b 0) (c 0) (d 0) (hs 0 zero-lt) (ht 0 zero-lt) (hu 0 zero-lt) (hv 0 zero-lt) in
        let high = less_three_value (eval_tree rd (s 1)) (eval_tree rd (t 1)) (eval_tree rd (u 1)) (eval_tree rd (v 1)) (a 1) (b 1) (c 1) (d 1) (hs 1 one-lt) (ht 1 one-lt) (hu 1 one-lt) (hv 1 one-lt) in
        let x = eval_tree rd (difference_of_four (s 0) (t 0) (u 0) (v 0)) in
        let y = eval_tree rd (with_high r (difference_of_four (s 0) (t 0) (u 0) (v 0)) (difference_of_four (s 1) (t 1) (u 1) (v 1))) in
        let s0 = b 0 + c 0 + d 0 in
        let s1 = b 1 + c 1 + d 1 in
        let whole : y ≡ gap r (a 0 + 2 ^ 16 * a 1) (s0 + 2 ^ 16 * s1) = whole_value x (eval_tree rd (difference_of_four (s 1) (t 1) (u 1) (v 1))) (a 0) s0 (a 1) s1 low high in
        let a0 : a 0 < 2 ^ 16 = ra 0 zero-lt in
        let a1 : a 1 < 2 ^ 16 = ra 1 one-lt in
        let b0 : b 0 < 2 ^ 16 = rb 0 zero-lt in
        let b1 : b 1 < 2 ^ 16 = rb 1 one-lt in
        let c0 : c 0 < 2 ^ 16 = rc 0 zero-lt in
        let c1 : c 1 < 2 ^ 16 = rc 1 one-lt in
        let d0 : d 0 < 2 ^ 16 = rd' 0 zero-lt in
        let d1 : d 1 < 2 ^ 16 = rd' 1 one-lt in
        let first = zero_to_minus_twice r (2 ^ 32) (with_high r (difference_of_four (s 0) (t 0) (u 0) (v 0)) (difference_of_four (s 1) (t 1) (u 1) (v 1))) in
        let second = zero_to_minus_twice r (2 ^ 16) (difference_of_four (s 0) (t 0) (u 0) (v 0)) in
        let sum : limbs_word b + limbs_word c + limbs_word d ≡ s0 + 2 ^ 16 * s1 = omega arith in (
          λ z. carried_word 2 (a 0) (a 1) s0 s1 (omega arith) o a0 a1 (omega arith) (omega arith)
              (three_carried y (2 ^ 32) (a 0 + 2 ^ 16 * a 1) (s0 + 2 ^ 16 * s1) whole (first_vanishes first second z))
              (three_carried x (2 ^ 16) (a 0) s0 low (second_vanishes first second z))
              ∙ ap (λ n. n % 2 ^ 32) (sym sum),
          λ e.
              let f : a 0 + 2 ^ 16 * a 1 ≡ (s0 + 2 ^ 16 * s1) % 2 ^ 32 = e ∙ ap (λ n. n % 2 ^ 32) sum in
              two_vanish first second
              (carried_three y (2 ^ 32) (a 0 + 2 ^ 16 * a 1) (s0 + 2 ^ 16 * s1) whole (word_carried 2 (a 0) (a 1) s0 s1 a0 a1 (omega arith) (omega arith) f))
              (carried_three x (2 ^ 16) (a 0) s0 low (word_carried_low 2 (a 0) (a 1) s0 s1 a0 a1 (omega arith) f)),
        )

    -- ---- bits

    -- the tree of packed bits is their number
    pub packed_value : (t : ℕ → Tree A) (f : ℕ → ℕ) (k n : ℕ) → ((i : ℕ) → k ≤ i → i < k + n → eval_tree rd (t i) ≡ of_nat r (f i)) → eval_tree rd (packed_bits r t k n) ≡ of_nat r (bits_number f k n)
    unfolding packed_bits bits_number
    packed_value t f k zero h = refl
    packed_value t f k (suc n) h =
        let here = h k (omega arith) (omega arith) in
        let rest = packed_value t f (suc k) n (λ i a b. h i (omega (arith, a)) (omega (arith, b))) in
        let N = bits_number f (suc k) n in
        cc (here, rest, of_nat_add r P.ring_laws (f k) (2 * N), of_nat_mul r P.ring_laws 2 N)

    pub pack_means : PackMeans r rd
    pack_means t f n h = packed_value t f 0 n (λ i a b. h i (omega (arith, b)))

    -- it is the sum of the packed values by powers of two
    packed_sum : (t : ℕ → Tree A) (k n : ℕ) → eval_tree rd (packed_bits r t k n) ≡ total r n (λ i. r.mul (of_nat r (2 ^ i)) (eval_tree rd (t (k + i))))
    unfolding packed_bits of_nat
    packed_sum t k zero = refl
    packed_sum t k (suc n) =
        let L = P.ring_laws in
        let two = of_nat r 2 in
        let first : r.mul (of_nat r (2 ^ 0)) (eval_tree rd (t (k + 0))) ≡ eval_tree rd (t k) =
        ap (λ v. r.mul v (eval_tree rd (t (k + 0)))) (L.add_zero r.one) ∙ (one_mul r L (eval_tree rd (t (k + 0))) ∙ ap (λ j. eval_tree rd (t j)) (add-zero k)) in
        let later : (i : ℕ) → i < n → r.mul (of_nat r (2 ^ suc i)) (eval_tree rd (t (k + suc i))) ≡ r.mul two (r.mul (of_nat r (2 ^ i)) (eval_tree rd (t (suc k + i)))) = λ i h.
        let power : 2 ^ suc i ≡ 2 * 2 ^ i = rw pow-suc (omega arith) in
        let at : k + suc i ≡ suc k + i = omega arith in
        (λ j. r.mul (of_nat r (power j)) (eval_tree rd (t (at j))))
        ∙ (ap (λ v. r.mul v (eval_tree rd (t (suc k + i)))) (of_nat_mul r L 2 (2 ^ i)) ∙ L.mul_assoc two (of_nat r (2 ^ i)) (eval_tree rd (t (suc k + i)))) in
        let terms : ℕ → A = λ i. r.mul (of_nat r (2 ^ i)) (eval_tree rd (t (suc k + i))) in
        let rest : total r n (λ i. r.mul (of_nat r (2 ^ suc i)) (eval_tree rd (t (k + suc i)))) ≡ r.mul two (eval_tree rd (packed_bits r t (suc k) n)) =
        total_same r L n (λ i. r.mul (of_nat r (2 ^ suc i)) (eval_tree rd (t (k + suc i)))) (λ i. r.mul two (terms i)) later
        ∙ (total_scale r L n two terms ∙ ap (r.mul two) (sym (packed_sum t (suc k) n))) in
        sym (λ j. r.add (first j) (rest j))

    pub pack_sums : PackSums r rd
    pack_sums t n =
        packed_sum t 0 n
        ∙ total_same r P.ring_laws n (λ i. r.mul (of_nat r (2 ^ i)) (eval_tree rd (t (0 + i)))) (λ i. r.mul (of_nat r (2 ^ i)) (eval_tree rd (t i)))
        (λ i h. ap (λ j. r.mul (of_nat r (2 ^ i)) (eval_tree rd (t j))) (zero-add i))

    -- the values of the xor's trees
    turned_values : (tb tc : ℕ → Tree A) (b c : ℕ → ℕ) (s : ℕ) → AreBits b → AreBits c → HaveNumbers r rd 32 tb b → HaveNumbers r rd 32 tc c
        → (i : ℕ) → i < 32 → eval_tree rd (xor_shift_bit r tb tc s i) ≡ of_nat r (turned_bit b c s i)
    turned_values tb tc b c s rb rc hb hc i lt =
        let place : rotated_place s i < 32 = omega arith in
        xor_value r P.ring_laws (eval_tree rd (tb i)) (eval_tree rd (tc (rotated_place s i))) (b i) (c (rotated_place s i)) (rb i lt) (rc (rotated_place s i) place) (hb i lt) (hc (rotated_place s i) place)

    -- the packed halves are the limbs of b xor (c rotated to the left by s)
    low_half : (tb tc : ℕ → Tree A) (b c : ℕ → ℕ) (s : ℕ) → AreBits b → AreBits c → HaveNumbers r rd 32 tb b → HaveNumbers r rd 32 tc c
        → eval_tree rd (packed_bits r (xor_shift_bit r tb tc s) 0 16) ≡ of_nat r (limb (bit_xor (bits_word b) (rotate_left w32 (bits_word c) s)) 0)
    low_half tb tc b c s rb rc hb hc =
        packed_value (xor_shift_bit r tb tc s) (turned_bit b c s) 0 16 (λ i a l. turned_values tb tc b c s rb rc hb hc i (omega (arith, l)))
        ∙ ap (of_nat r) (sym (ap (λ w. limb w 0) (xor_of_bits b c s rb rc) ∙ low_limb (turned_bit b c s) (turned_bits b c s 0 32)))

    high_half : (tb tc : ℕ → Tree A) (b c : ℕ → ℕ) (s : ℕ) → AreBits b → AreBits c → HaveNumbers r rd 32 tb b → HaveNumbers r rd 32 tc c
        → eval_tree rd (packed_bits r (xor_shift_bit r tb tc s) 16 16) ≡ of_nat r (limb (bit_xor (bits_word b) (rotate_left w32 (bits_word c) s)) 1)
    high_half tb tc b c s rb rc hb hc =
        packed_value (xor_shift_bit r tb tc s) (turned_bit b c s) 16 16 (λ i a l. turned_values tb tc b c s rb rc hb hc i (omega (arith, l)))
        ∙ ap (of_nat r) (sym (ap (λ w. limb w 1) (xor_of_bits b c s rb rc) ∙ high_limb (turned_bit b c s) (turned_bits b c s 0 32)))

    pub xor_shift_means : 2 ^ 20 < order → XorShiftMeans r rd
    unfolding xor_shift_trees
    xor_shift_means o ta tb tc b s rb hb =
        let Q : Tree A → Type 0 = λ v. eval_tree rd v ≡ r.zero in
        let f = xor_shift_bit r tb tc s in
        let bools = map (bool_tree r.one) (tabulate 32 tc) in
        let first = difference (ta 0) (packed_bits r f 0 16) in
        let second = difference (ta 1) (packed_bits r f 16 16) in (
          λ v.
              let c : ℕ → ℕ = λ k. canonical (eval_tree rd (tc k)) in
              let c_bits : AreBits c = λ k lt. value_bool o (eval_tree rd (tc k)) (all_of_mapped Q (bool_tree r.one) 32 tc (all_left Q bools (first ∷ second ∷ []) v) k lt) in
              let c_values : HaveNumbers r rd 32 tc c = λ k lt. sym (P.of_canonical (eval_tree rd (tc k))) in
              let halves = all_right Q bools (first ∷ second ∷ []) v in
              record {
                c = c;
                c_bits = c_bits;
                c_values = c_values;
                a_values = two_places (λ k. eval_tree rd (ta k) ≡ of_nat r (limb (bit_xor (bits_word b) (rotate_left w32 (bits_word c) s)) k))
                    (sub_zero r P.ring_laws (eval_tree rd (ta 0)) (eval_tree rd (packed_bits r f 0 16)) (first_vanishes first second halves) ∙ low_half tb tc b c s rb c_bits hb c_values)
                    (sub_zero r P.ring_laws (eval_tree rd (ta 1)) (eval_tree rd (packed_bits r f 16 16)) (second_vanishes first second halves) ∙ high_half tb tc b c s rb c_bits hb c_values);
              },
          λ x.
              All-append Q bools (first ∷ second ∷ [])
              (all_mapped Q (bool_tree r.one) 32 tc (λ k lt. bool_value r P.ring_laws (eval_tree rd (tc k)) (x.c k) (x.c_bits k lt) (x.c_values k lt)))
              (two_vanish first second
              (sub_self r P.ring_laws (eval_tree rd (ta 0)) (eval_tree rd (packed_bits r f 0 16)) (x.a_values 0 (lit< tt) ∙ sym (low_half tb tc b x.c s rb x.c_bits hb x.c_values)))
              (sub_self r P.ring_laws (eval_tree rd (ta 1)) (eval_tree rd (packed_bits r f 16 16)) (x.a_values 1 (lit< tt) ∙ sym (high_half tb tc b x.c s rb x.c_bits hb x.c_values)))),
        )
