-- Sums of finitely many terms, and geometric sums.
use Rattle.std.proofs.Common.{◌≡◌, ◌≢◌, ℕ, zero, suc, ◌<◌, [], ◌∷◌, refl, sym, ◌∙◌, ap, arith}
use Rattle.p3_field.specs.Ring.{Ring, RingLaws, pow, of_nat, sub}
use Rattle.p3_field.specs.Poly.{eval_poly, tabulate, total}
use Rattle.p3_field.specs.Laws.Algebra.{zero_add, mul_zero, add_swap}
use Rattle.p3_field.specs.Laws.Solver.{expressions, var, solve}

-- the two sides of one step of the geometric sum, `s` the sum so far
abbrev geometric_left : {A : Type 0} → Ring A → A → A → A
geometric_left r w s = r.mul (sub r w r.one) (r.add r.one (r.mul w s))

abbrev geometric_right : {A : Type 0} → Ring A → A → A → A
geometric_right r w s = r.add (sub r w r.one) (r.mul w (r.mul (sub r w r.one) s))

abbrev telescope_left : {A : Type 0} → Ring A → A → A → A
telescope_left r w p = r.add (sub r w r.one) (r.mul w (sub r p r.one))

abbrev telescope_right : {A : Type 0} → Ring A → A → A → A
telescope_right r w p = sub r (r.mul w p) r.one

module _ {A : Type 0} (r : Ring A) (L : RingLaws r) where
  pub total_same : (n : ℕ) (t u : ℕ → A) → ((i : ℕ) → i < n → t i ≡ u i) → total r n t ≡ total r n u
  total_same zero t u h = refl
  total_same (suc n) t u h = cc (h zero (omega arith), total_same n (λ i. t (suc i)) (λ i. u (suc i)) (λ i k. h (suc i) (omega arith)))

  pub total_zero : (n : ℕ) (t : ℕ → A) → ((i : ℕ) → i < n → t i ≡ r.zero) → total r n t ≡ r.zero
  total_zero zero t h = refl
  total_zero (suc n) t h = cc (h zero (omega arith), total_zero n (λ i. t (suc i)) (λ i k. h (suc i) (omega arith)), L.add_zero r.zero)

  pub total_add : (n : ℕ) (t u : ℕ → A) → total r n (λ i. r.add (t i) (u i)) ≡ r.add (total r n t) (total r n u)
  total_add zero t u = sym (L.add_zero r.zero)
  total_add (suc n) t u =
      let T = total r n (λ i. t (suc i)) in let U = total r n (λ i. u (suc i)) in
      ap (r.add (r.add (t zero) (u zero))) (total_add n (λ i. t (suc i)) (λ i. u (suc i))) ∙ add_swap r L (t zero) (u zero) T U

  pub total_scale : (n : ℕ) (a : A) (t : ℕ → A) → total r n (λ i. r.mul a (t i)) ≡ r.mul a (total r n t)
  total_scale zero a t = sym (mul_zero r L a)
  total_scale (suc n) a t =
      ap (r.add (r.mul a (t zero))) (total_scale n a (λ i. t (suc i))) ∙ sym (L.mul_add a (t zero) (total r n (λ i. t (suc i))))

  -- the order of two sums does not matter
  pub total_swap : (m n : ℕ) (t : ℕ → ℕ → A) → total r m (λ i. total r n (λ j. t i j)) ≡ total r n (λ j. total r m (λ i. t i j))
  total_swap zero n t = sym (total_zero n (λ j. r.zero) (λ j k. refl))
  total_swap (suc m) n t =
      ap (r.add (total r n (λ j. t zero j))) (total_swap m n (λ i j. t (suc i) j))
      ∙ sym (total_add n (λ j. t zero j) (λ j. total r m (λ i. t (suc i) j)))

  -- a sum with one term that may differ from zero
  pub total_only : (n k : ℕ) (t : ℕ → A) → k < n → ((i : ℕ) → i < n → i ≢ k → t i ≡ r.zero) → total r n t ≡ t k
  total_only zero k t h z = absurd (omega arith)
  total_only (suc n) zero t h z =
      ap (r.add (t zero)) (total_zero n (λ i. t (suc i)) (λ i k. z (suc i) (omega arith) (omega arith))) ∙ L.add_zero (t zero)
  total_only (suc n) (suc k) t h z =
      cc (z zero (omega arith) (omega arith), total_only n k (λ i. t (suc i)) (omega arith) (λ i j e. z (suc i) (omega arith) (omega arith)), zero_add r L (t (suc k)))

  pub total_ones : (n : ℕ) → total r n (λ i. r.one) ≡ of_nat r n
  unfolding of_nat
  total_ones zero = refl
  total_ones (suc n) = ap (r.add r.one) (total_ones n)

  pub eval_tabulate : (n : ℕ) (t : ℕ → A) (x : A) → eval_poly r (tabulate n t) x ≡ total r n (λ j. r.mul (t j) (pow r x j))
  unfolding pow
  eval_tabulate zero t x = refl
  eval_tabulate (suc n) t x =
      let u : ℕ → A = λ j. t (suc j) in
      let one : t zero ≡ r.mul (t zero) r.one = sym (L.mul_one (t zero)) in
      let step : r.mul x (eval_poly r (tabulate n u) x) ≡ total r n (λ j. r.mul (u j) (r.mul x (pow r x j))) =
      ap (r.mul x) (eval_tabulate n u x) ∙ (sym (total_scale n x (λ j. r.mul (u j) (pow r x j)))
      ∙ total_same n (λ j. r.mul x (r.mul (u j) (pow r x j))) (λ j. r.mul (u j) (r.mul x (pow r x j)))
      (λ j k. cc (L.mul_assoc x (u j) (pow r x j), L.mul_comm x (u j), L.mul_assoc (u j) x (pow r x j)))) in
      cc (one, step)

  geometric_step : (w s : A) → geometric_left r w s ≡ geometric_right r w s
  geometric_step w s = solve r L (w ∷ s ∷ []) (geometric_left expressions (var 0) (var 1)) (geometric_right expressions (var 0) (var 1)) refl

  telescope : (w p : A) → telescope_left r w p ≡ telescope_right r w p
  telescope w p = solve r L (w ∷ p ∷ []) (telescope_left expressions (var 0) (var 1)) (telescope_right expressions (var 0) (var 1)) refl

  -- (w - 1) (1 + w + .. + w^(n-1)) = w^n - 1
  pub geometric_sum : (n : ℕ) (w : A) → r.mul (sub r w r.one) (total r n (λ j. pow r w j)) ≡ sub r (pow r w n) r.one
  unfolding pow
  geometric_sum zero w = cc (mul_zero r L (sub r w r.one), L.add_neg r.one)
  geometric_sum (suc n) w =
      let S = total r n (λ j. pow r w j) in
      ap (λ v. r.mul (sub r w r.one) (r.add r.one v)) (total_scale n w (λ j. pow r w j))
      ∙ (geometric_step w S ∙ (ap (λ v. r.add (sub r w r.one) (r.mul w v)) (geometric_sum n w) ∙ telescope w (pow r w n)))
