-- Division by X - a.
use Rattle.std.proofs.Common.{◌≡◌, ℕ, zero, suc, List, [], ◌∷◌, length, refl, ◌∙◌, ap}
use Rattle.p3_field.specs.Ring.{Ring, RingLaws, sub}
use Rattle.p3_field.specs.Poly.{eval_poly, DegreeBelow, IsZeroPoly, tail_values, quotient}
use Rattle.p3_field.specs.Laws.Algebra.{mul_zero}
use Rattle.p3_field.specs.Laws.Solver.{expressions, var, solve}
use Rattle.p3_field.specs.Laws.Coeffs.{degree_zero, zero_degree, degree_tail, degree_cons}
use Rattle.p3_field.specs.Laws.Values.{eval_zero}

-- the two sides of one step, `t` the quotient's value so far and `v` the tail's value at `a`
abbrev step_left : {A : Type 0} → Ring A → A → A → A → A → A → A
step_left r x a d t v = r.mul x (r.add d (r.add (r.mul (sub r x a) t) (r.mul a v)))

abbrev step_right : {A : Type 0} → Ring A → A → A → A → A → A → A
step_right r x a d t v = r.add (r.mul (sub r x a) (r.add (r.add d (r.mul a v)) (r.mul x t))) (r.mul a (r.add d (r.mul a v)))

module _ {A : Type 0} (r : Ring A) (L : RingLaws r) where
  pub length_tail_values : (f : List A) (a : A) → length (tail_values r f a) ≡ length f
  length_tail_values [] a = refl
  length_tail_values (c ∷ cs) a = ap suc (length_tail_values cs a)

  pub tail_values_zero : (f : List A) (a : A) → IsZeroPoly r f → IsZeroPoly r (tail_values r f a)
  tail_values_zero [] a z i = refl
  tail_values_zero (c ∷ cs) a z zero = eval_zero r L (c ∷ cs) a z
  tail_values_zero (c ∷ cs) a z (suc i) = tail_values_zero cs a (λ k. z (suc k)) i

  -- and back
  pub zero_tail_values : (f : List A) (a : A) → IsZeroPoly r (tail_values r f a) → IsZeroPoly r f
  zero_tail_values [] a z i = refl
  zero_tail_values (d ∷ ds) a z zero =
      let rest : IsZeroPoly r ds = zero_tail_values ds a (λ k. z (suc k)) in
      cc (z zero, eval_zero r L ds a rest, mul_zero r L a, L.add_zero d)
  zero_tail_values (d ∷ ds) a z (suc i) = zero_tail_values ds a (λ k. z (suc k)) i

  degree_tail_values : (n : ℕ) (f : List A) (a : A) → DegreeBelow r n f → DegreeBelow r n (tail_values r f a)
  degree_tail_values zero f a d = degree_zero r L zero (tail_values r f a) (tail_values_zero f a (zero_degree r L f d))
  degree_tail_values (suc n) [] a d = λ i k. refl
  degree_tail_values (suc n) (c ∷ cs) a d =
      degree_cons r L n (eval_poly r (c ∷ cs) a) (tail_values r cs a) (degree_tail_values n cs a (degree_tail r L n c cs d))

  pub degree_quotient : (n : ℕ) (f : List A) (a : A) → DegreeBelow r (suc n) f → DegreeBelow r n (quotient r f a)
  degree_quotient n [] a d = λ i k. refl
  degree_quotient n (c ∷ cs) a d = degree_tail_values n cs a (degree_tail r L n c cs d)

  divide_step : (x a d t v : A) → step_left r x a d t v ≡ step_right r x a d t v
  divide_step x a d t v =
      solve r L (x ∷ a ∷ d ∷ t ∷ v ∷ [])
      (step_left expressions (var 0) (var 1) (var 2) (var 3) (var 4)) (step_right expressions (var 0) (var 1) (var 2) (var 3) (var 4)) refl

  pub divide_tail : (f : List A) (a x : A) → r.mul x (eval_poly r f x) ≡ r.add (r.mul (sub r x a) (eval_poly r (tail_values r f a) x)) (r.mul a (eval_poly r f a))
  divide_tail [] a x = cc (mul_zero r L x, mul_zero r L a, mul_zero r L (sub r x a), L.add_zero r.zero)
  divide_tail (d ∷ ds) a x =
      ap (λ w. r.mul x (r.add d w)) (divide_tail ds a x) ∙ divide_step x a d (eval_poly r (tail_values r ds a) x) (eval_poly r ds a)

  -- f(x) = (x - a) q(x) + f(a)
  pub divide : (f : List A) (a x : A) → eval_poly r f x ≡ r.add (r.mul (sub r x a) (eval_poly r (quotient r f a) x)) (eval_poly r f a)
  divide [] a x = cc (mul_zero r L (sub r x a), L.add_zero r.zero)
  divide (c ∷ cs) a x =
      let Q = r.mul (sub r x a) (eval_poly r (tail_values r cs a) x) in let V = r.mul a (eval_poly r cs a) in
      cc (divide_tail cs a x, L.add_comm c (r.add Q V), L.add_assoc Q V c, L.add_comm V c)

  -- (x - z) q(x) = f(x) - f(z)
  pub opening_quotient : (f : List A) (z x : A) → r.mul (sub r x z) (eval_poly r (quotient r f z) x) ≡ sub r (eval_poly r f x) (eval_poly r f z)
  opening_quotient f z x =
      let Q = r.mul (sub r x z) (eval_poly r (quotient r f z) x) in let V = eval_poly r f z in
      cc (divide f z x, L.add_assoc Q V (r.neg V), L.add_neg V, L.add_zero Q)
