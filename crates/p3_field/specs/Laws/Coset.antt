-- Elements of a given order, and the points of their cosets.
use Rattle.std.proofs.Common.{◌≡◌, ℕ, zero, suc, ◌+◌, ◌-◌, ◌*◌, ◌/◌, ◌%◌, ◌^◌, ◌≤◌, ◌<◌, inl, inr, sym, ◌∙◌, ap, arith}
use Rattle.std.proofs.Math.Nat.{pow-suc}
use Rattle.std.proofs.lemmas.Bool.{cases_eq}
use Rattle.p3_field.specs.Domain.{coset_point}
use Rattle.p3_field.specs.Ring.{Ring, RingLaws, pow, sub}
use Rattle.p3_field.specs.Field.{TwoAdicLaws}
use Rattle.p3_field.specs.Laws.Algebra.{one_mul, neg_mul_neg, pow_add, pow_square, pow_one, mul_swap, mul_neg}
use Rattle.p3_field.specs.Laws.Order.{one_pow}
use Rattle.p3_field.specs.Poly.{Apart, total}
use Rattle.p3_field.specs.Laws.Sums.{geometric_sum}
use Rattle.p3_field.specs.Laws.Roots.{NoZeroDivisors, sub_zero, sub_self}

-- `n` is the least positive number with h^n = 1
pub record HasOrder {A : Type 0} (r : Ring A) (n : ℕ) (h : A) : Type 0 where
  pub full : pow r h n ≡ r.one
  pub least : (j : ℕ) → 0 < j → j < n → pow r h j ≡ r.one → ⊥

multiple_below : (N m j : ℕ) → N * m ≡ j → 0 < j → j < N → ⊥
multiple_below N zero j e a b = omega arith
multiple_below N (suc m) j e a b = omega arith

pub double_power : (k : ℕ) → 2 ^ suc k ≡ 2 ^ k + 2 ^ k
double_power k = rw pow-suc (omega arith)

twice_multiple : (k m j : ℕ) → 2 ^ suc k * m ≡ j → 2 ^ k * m + 2 ^ k * m ≡ j
twice_multiple k m j p = omega (arith, ap (λ z. z * m) (double_power k), p)

next_multiple : (k m t j : ℕ) → 2 ^ suc k * m ≡ t → t + t ≡ j → 2 ^ suc (suc k) * m ≡ j
next_multiple k m t j p q = omega (arith, ap (λ z. z * m) (double_power (suc k)), p, q)

module _ {A : Type 0} (r : Ring A) (L : RingLaws r) where
  pub pow_mul : (x y : A) (n : ℕ) → pow r (r.mul x y) n ≡ r.mul (pow r x n) (pow r y n)
  unfolding pow
  pow_mul x y zero = sym (L.mul_one r.one)
  pow_mul x y (suc n) = ap (r.mul (r.mul x y)) (pow_mul x y n) ∙ mul_swap r L x y (pow r x n) (pow r y n)

  minus_one_even : (h : A) → pow r h 1 ≡ r.neg r.one → (r.neg r.one ≡ r.one → ⊥) → (j : ℕ) → pow r h j ≡ r.one → (m : ℕ) × (2 * m ≡ j)
  minus_one_even h e d j f =
      let m = j / 2 in
      let minus : h ≡ r.neg r.one = sym (pow_one r L h) ∙ e in
      let square : r.mul h h ≡ r.one = cc (minus, neg_mul_neg r L r.one r.one, L.mul_one r.one) in
      let even : pow r h (m + m) ≡ r.one = sym (pow_square r L h m) ∙ (ap (λ v. pow r v m) square ∙ one_pow r L m) in
      elim (cases_eq (j % 2) 1) [
        | inl o ↦
            let k : (m + m) + 1 ≡ j = omega arith in
            absurd (d (cc (pow_add r L h (m + m) 1, k, even, f, one_mul r L (pow r h 1), e)))
        | inr o ↦ (m, omega arith)
      ]

  square_half : (h : A) (k : ℕ) (c : A) → pow r h (2 ^ suc k) ≡ c → pow r (r.mul h h) (2 ^ k) ≡ c
  square_half h k c e = pow_square r L h (2 ^ k) ∙ (ap (pow r h) (sym (double_power k)) ∙ e)

  square_full : (h : A) (j : ℕ) → pow r h j ≡ r.one → pow r (r.mul h h) j ≡ r.one
  square_full h j f = pow_square r L h j ∙ cc (pow_add r L h j j, f, L.mul_one r.one)

  square_low : (h : A) (t j : ℕ) → t + t ≡ j → pow r h j ≡ r.one → pow r (r.mul h h) t ≡ r.one
  square_low h t j e f = pow_square r L h t ∙ (ap (pow r h) e ∙ f)

  -- where h^(2^k) = -1, only the multiples of 2^(k+1) give 1
  pub two_power_divides : (k : ℕ) (h : A) → pow r h (2 ^ k) ≡ r.neg r.one → (r.neg r.one ≡ r.one → ⊥) → (j : ℕ) → pow r h j ≡ r.one → (m : ℕ) × (2 ^ suc k * m ≡ j)
  two_power_divides zero h e d j f = minus_one_even h e d j f
  two_power_divides (suc k) h e d j f =
      let g = r.mul h h in
      let half : pow r g (2 ^ k) ≡ r.neg r.one = square_half h k (r.neg r.one) e in
      let (m, p) = two_power_divides k g half d j (square_full h j f) in
      let t = 2 ^ k * m in
      let twice : t + t ≡ j = twice_multiple k m j p in
      let (m', p') = two_power_divides k g half d t (square_low h t j twice f) in
      (m', next_multiple k m' t j p' twice)

  pub two_power_order : (k : ℕ) (h : A) → pow r h (2 ^ k) ≡ r.neg r.one → (r.neg r.one ≡ r.one → ⊥) → HasOrder r (2 ^ suc k) h
  two_power_order k h e d =
      let s : 2 ^ suc k ≡ 2 ^ k + 2 ^ k = rw pow-suc (omega arith) in
      record {
        full = ap (pow r h) s ∙ cc (pow_add r L h (2 ^ k) (2 ^ k), e, neg_mul_neg r L r.one r.one, L.mul_one r.one);
        least = λ j a b f. let (m, p) = two_power_divides k h e d j f in multiple_below (2 ^ suc k) m j p a b;
      }

  one_order : (h : A) → h ≡ r.one → HasOrder r 1 h
  one_order h e = record { full = pow_one r L h ∙ e; least = λ j a b f. omega arith }

  half_root : (top : ℕ) (gen : ℕ → A) → TwoAdicLaws r top gen → (k : ℕ) → k < top → pow r (gen (suc k)) (2 ^ k) ≡ gen 1
  half_root top gen T zero h = pow_one r L (gen 1)
  half_root top gen T (suc k) h =
      let s : 2 ^ suc k ≡ 2 ^ k + 2 ^ k = rw pow-suc (omega arith) in
      let a : suc k + 1 ≡ suc (suc k) = omega arith in
      let square : r.mul (gen (suc (suc k))) (gen (suc (suc k))) ≡ gen (suc k) = ap (λ j. r.mul (gen j) (gen j)) (sym a) ∙ T.gen_square (suc k) h in
      ap (pow r (gen (suc (suc k)))) s ∙ (sym (pow_square r L (gen (suc (suc k))) (2 ^ k)) ∙ (ap (λ v. pow r v (2 ^ k)) square ∙ half_root top gen T k (omega arith)))

  -- the generator `gen k` of a two-adic field has order 2^k
  pub two_adic_order : (top : ℕ) (gen : ℕ → A) → TwoAdicLaws r top gen → (k : ℕ) → k ≤ top → HasOrder r (2 ^ k) (gen k)
  two_adic_order top gen T zero h = one_order (gen zero) T.gen_zero
  two_adic_order top gen T (suc k) h =
      let minus : gen 1 ≡ r.neg r.one = T.gen_one (omega arith) in
      two_power_order k (gen (suc k)) (half_root top gen T k h ∙ minus) (λ e. T.minus_one_differs (omega arith) (minus ∙ e))

  -- the powers below the order differ
  pub power_apart : (n : ℕ) (h : A) → HasOrder r n h → Apart n (pow r h)
  power_apart n h O = λ i j a b e.
      let d : (j - i) + i ≡ j = omega arith in
      let k : i + (n - i) ≡ n = omega arith in
      let D = pow r h (j - i) in let I = pow r h i in let K = pow r h (n - i) in
      O.least (j - i) (omega arith) (omega arith)
      (cc (pow_add r L h (j - i) i, d, pow_add r L h i (n - i), k, O.full, e, L.mul_assoc D I K, L.mul_one D))

  module _ (N : NoZeroDivisors r) where
    pub mul_cancel : (s x y : A) → (s ≡ r.zero → ⊥) → r.mul s x ≡ r.mul s y → x ≡ y
    mul_cancel s x y n e =
        sub_zero r L x y (N s (sub r x y) n (cc (L.mul_add s x (r.neg y), mul_neg r L s y, e, L.add_neg (r.mul s y))))

    pub coset_apart : (n : ℕ) (s h : A) → HasOrder r n h → (s ≡ r.zero → ⊥) → Apart n (coset_point r s h)
    coset_apart n s h O nz = λ i j a b e. power_apart n h O i j a b (mul_cancel s (pow r h i) (pow r h j) nz e)

    -- the powers of a root of unity other than 1 add up to zero
    pub root_sum : (n : ℕ) (w : A) → pow r w n ≡ r.one → (w ≡ r.one → ⊥) → total r n (λ j. pow r w j) ≡ r.zero
    root_sum n w e d =
        let S = total r n (λ j. pow r w j) in
        N (sub r w r.one) S (λ z. d (sub_zero r L w r.one z)) (geometric_sum r L n w ∙ sub_self r L (pow r w n) r.one e)
