-- Cosets within cosets: the steps of a radix-2 transform and the split of a domain into cosets.
use Rattle.std.proofs.Common.{◌≡◌, ℕ, zero, suc, ◌+◌, ◌*◌, ◌<◌, List, [], ◌∷◌, refl, sym, ◌∙◌, ap, arith}
use Rattle.std.proofs.Math.Nat.{mul-lt-mul_of_pos_left}
use Rattle.p3_field.specs.Domain.{coset_point}
use Rattle.p3_field.specs.Ring.{Ring, RingLaws, pow, sub}
use Rattle.p3_field.specs.Poly.{eval_poly, even_part, odd_part}
use Rattle.p3_field.specs.Laws.Algebra.{mul_zero, mul_neg, mul_swap, pow_add, neg_mul, neg_mul_neg, neg_unique}
use Rattle.p3_field.specs.Laws.Order.{pow_times}
use Rattle.p3_field.specs.Laws.Solver.{expressions, var, solve}
use Rattle.p3_field.specs.Laws.Roots.{NoZeroDivisors, sub_zero, sub_self}
use Rattle.p3_field.specs.Laws.Coset.{HasOrder, pow_mul}

abbrev square_left : {A : Type 0} → Ring A → A → A
square_left r x = r.mul (sub r x r.one) (r.add x r.one)

abbrev square_right : {A : Type 0} → Ring A → A → A
square_right r x = sub r (r.mul x x) r.one

scaled_positive : (k j : ℕ) → 0 < k → 0 < j → 0 < k * j
scaled_positive zero j h p = absurd (omega arith)
scaled_positive (suc k) j h p = omega arith

-- the two sides of one step, with e and o the values at x^2 of the rest's parts
abbrev parts_left : {A : Type 0} → Ring A → A → A → A → A → A → A
parts_left r x c d e o = r.add c (r.mul x (r.add d (r.mul x (r.add e (r.mul x o)))))

abbrev parts_right : {A : Type 0} → Ring A → A → A → A → A → A → A
parts_right r x c d e o = r.add (r.add c (r.mul (r.mul x x) e)) (r.mul x (r.add d (r.mul (r.mul x x) o)))

module _ {A : Type 0} (r : Ring A) (L : RingLaws r) where
  parts_step : (x c d e o : A) → parts_left r x c d e o ≡ parts_right r x c d e o
  parts_step x c d e o = solve r L (x ∷ c ∷ d ∷ e ∷ o ∷ [])
      (parts_left expressions (var 0) (var 1) (var 2) (var 3) (var 4)) (parts_right expressions (var 0) (var 1) (var 2) (var 3) (var 4)) refl

  -- f(x) = E(x^2) + x O(x^2)
  pub eval_parts : (f : List A) (x : A) → eval_poly r f x ≡ r.add (eval_poly r (even_part f) (r.mul x x)) (r.mul x (eval_poly r (odd_part f) (r.mul x x)))
  eval_parts [] x = cc (mul_zero r L x, L.add_zero r.zero)
  eval_parts (c ∷ []) x = cc (mul_zero r L (r.mul x x), L.add_zero c)
  eval_parts (c ∷ d ∷ cs) x =
      ap (λ w. r.add c (r.mul x (r.add d (r.mul x w)))) (eval_parts cs x)
      ∙ parts_step x c d (eval_poly r (even_part cs) (r.mul x x)) (eval_poly r (odd_part cs) (r.mul x x))

  square_split : (x : A) → square_left r x ≡ square_right r x
  square_split x = solve r L (x ∷ []) (square_left expressions (var 0)) (square_right expressions (var 0)) refl

  -- the k-th power of an element of order k n has order n
  pub order_power : (k n : ℕ) (h : A) → 0 < k → HasOrder r (k * n) h → HasOrder r n (pow r h k)
  order_power k n h pos O = record {
    full = sym (pow_times r L h k n) ∙ O.full;
    least = λ j a b e. O.least (k * j) (scaled_positive k j pos a) (mul-lt-mul_of_pos_left b pos) (pow_times r L h k j ∙ e);
  }

  pub square_point : (s h : A) (i : ℕ) → r.mul (coset_point r s h i) (coset_point r s h i) ≡ coset_point r (r.mul s s) (r.mul h h) i
  square_point s h i = mul_swap r L s (pow r h i) s (pow r h i) ∙ ap (r.mul (r.mul s s)) (sym (pow_mul r L h h i))

  pub opposite_point : (s h : A) (m i : ℕ) → pow r h m ≡ r.neg r.one → coset_point r s h (i + m) ≡ r.neg (coset_point r s h i)
  opposite_point s h m i e =
      let H = pow r h i in
      cc (pow_add r L h i m, e, mul_neg r L H r.one, L.mul_one H, mul_neg r L s H)

  -- one step of the transform: the values at point i and at the opposite one from the values of the two parts
  pub butterfly_first : (f : List A) (s h : A) (i : ℕ) → let q = coset_point r (r.mul s s) (r.mul h h) i in
      eval_poly r f (coset_point r s h i) ≡ r.add (eval_poly r (even_part f) q) (r.mul (coset_point r s h i) (eval_poly r (odd_part f) q))
  butterfly_first f s h i =
      let x = coset_point r s h i in
      eval_parts f x ∙ ap (λ w. r.add (eval_poly r (even_part f) w) (r.mul x (eval_poly r (odd_part f) w))) (square_point s h i)

  pub butterfly_second : (f : List A) (s h : A) (m i : ℕ) → pow r h m ≡ r.neg r.one → let q = coset_point r (r.mul s s) (r.mul h h) i in
      eval_poly r f (coset_point r s h (i + m)) ≡ sub r (eval_poly r (even_part f) q) (r.mul (coset_point r s h i) (eval_poly r (odd_part f) q))
  butterfly_second f s h m i e =
      let x = coset_point r s h i in
      let q = coset_point r (r.mul s s) (r.mul h h) i in
      let y : coset_point r s h (i + m) ≡ r.neg x = opposite_point s h m i e in
      let z : r.mul (r.neg x) (r.neg x) ≡ q = neg_mul_neg r L x x ∙ square_point s h i in
      ap (eval_poly r f) y ∙ (eval_parts f (r.neg x)
      ∙ (ap (λ w. r.add (eval_poly r (even_part f) w) (r.mul (r.neg x) (eval_poly r (odd_part f) w))) z
      ∙ ap (r.add (eval_poly r (even_part f) q)) (neg_mul r L x (eval_poly r (odd_part f) q))))

  -- point j + k i of a coset is point i of the j-th of k cosets
  pub row_of_coset : (s h : A) (k j i : ℕ) → coset_point r s h (j + k * i) ≡ coset_point r (coset_point r s h j) (pow r h k) i
  row_of_coset s h k j i =
      let J = pow r h j in let K = pow r (pow r h k) i in
      cc (pow_add r L h j (k * i), pow_times r L h k i, L.mul_assoc s J K)

  -- its n-th power
  pub row_power : (s h : A) (k n j : ℕ) → pow r (coset_point r s h j) n ≡ coset_point r (pow r s n) (pow r h n) j
  row_power s h k n j =
      let c : j * n ≡ n * j = omega arith in
      pow_mul r L s (pow r h j) n ∙ ap (r.mul (pow r s n)) (sym (pow_times r L h j n) ∙ (ap (pow r h) c ∙ pow_times r L h n j))

  module _ (N : NoZeroDivisors r) where
    -- half way round an element of even order is -1
    pub order_half : (m : ℕ) (h : A) → 0 < m → HasOrder r (m + m) h → pow r h m ≡ r.neg r.one
    order_half m h pos O =
        let H = pow r h m in
        let square : r.mul H H ≡ r.one = sym (pow_add r L h m m) ∙ O.full in
        let z : r.mul (sub r H r.one) (r.add H r.one) ≡ r.zero = square_split H ∙ sub_self r L (r.mul H H) r.one square in
        let w : r.add H r.one ≡ r.zero = N (sub r H r.one) (r.add H r.one) (λ e. O.least m pos (omega arith) (sub_zero r L H r.one e)) z in
        neg_unique r L r.one H (L.add_comm r.one H ∙ w)
