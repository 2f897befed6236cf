-- The values of sums, products, shifts and parts.
use Rattle.std.proofs.Common.{◌≡◌, ℕ, zero, suc, List, [], ◌∷◌, ◌++◌, length, refl, sym, ◌∙◌, ap}
use Rattle.p3_field.specs.Ring.{Ring, RingLaws, pow, sub}
use Rattle.p3_field.specs.Poly.{eval_poly, IsZeroPoly, SamePoly, add_poly, scale_poly, neg_poly, sub_poly, mul_poly, shift_arg, raise}
use Rattle.p3_field.specs.Laws.Algebra.{zero_add, one_mul, add_mul, add_swap, mul_zero, zero_mul, neg_zero, neg_add, mul_neg}

module _ {A : Type 0} (r : Ring A) (L : RingLaws r) where
  pub eval_zero : (f : List A) (x : A) → IsZeroPoly r f → eval_poly r f x ≡ r.zero
  eval_zero [] x z = refl
  eval_zero (c ∷ cs) x z = cc (z zero, eval_zero cs x (λ i. z (suc i)), mul_zero r L x, L.add_zero r.zero)

  pub eval_same : (f g : List A) (x : A) → SamePoly r f g → eval_poly r f x ≡ eval_poly r g x
  eval_same [] g x s = sym (eval_zero g x (λ i. sym (s i)))
  eval_same (c ∷ cs) [] x s = eval_zero (c ∷ cs) x s
  eval_same (c ∷ cs) (d ∷ ds) x s = cc (s zero, eval_same cs ds x (λ i. s (suc i)))

  pub eval_add : (f g : List A) (x : A) → eval_poly r (add_poly r f g) x ≡ r.add (eval_poly r f x) (eval_poly r g x)
  eval_add [] g x = sym (zero_add r L (eval_poly r g x))
  eval_add (c ∷ cs) [] x = sym (L.add_zero (eval_poly r (c ∷ cs) x))
  eval_add (c ∷ cs) (d ∷ ds) x =
      let C = eval_poly r cs x in let D = eval_poly r ds x in
      cc (eval_add cs ds x, L.mul_add x C D, add_swap r L c d (r.mul x C) (r.mul x D))

  pub eval_scale : (a : A) (f : List A) (x : A) → eval_poly r (scale_poly r a f) x ≡ r.mul a (eval_poly r f x)
  eval_scale a [] x = sym (mul_zero r L a)
  eval_scale a (c ∷ cs) x =
      let C = eval_poly r cs x in
      cc (eval_scale a cs x, L.mul_add a c (r.mul x C), L.mul_assoc x a C, L.mul_comm x a, L.mul_assoc a x C)

  pub eval_neg : (f : List A) (x : A) → eval_poly r (neg_poly r f) x ≡ r.neg (eval_poly r f x)
  eval_neg [] x = sym (neg_zero r L)
  eval_neg (c ∷ cs) x =
      let C = eval_poly r cs x in
      cc (eval_neg cs x, neg_add r L c (r.mul x C), mul_neg r L x C)

  pub eval_sub : (f g : List A) (x : A) → eval_poly r (sub_poly r f g) x ≡ sub r (eval_poly r f x) (eval_poly r g x)
  eval_sub f g x = eval_add f (neg_poly r g) x ∙ ap (r.add (eval_poly r f x)) (eval_neg g x)

  pub eval_mul : (f g : List A) (x : A) → eval_poly r (mul_poly r f g) x ≡ r.mul (eval_poly r f x) (eval_poly r g x)
  eval_mul [] g x = sym (zero_mul r L (eval_poly r g x))
  eval_mul (c ∷ cs) g x =
      let C = eval_poly r cs x in let G = eval_poly r g x in
      cc (
        eval_add (scale_poly r c g) (r.zero ∷ mul_poly r cs g) x,
        eval_scale c g x,
        eval_mul cs g x,
        zero_add r L (r.mul x (r.mul C G)),
        add_mul r L c (r.mul x C) G,
        L.mul_assoc x C G,
      )

  -- f(hX) at x
  pub eval_shift_arg : (h : A) (f : List A) (x : A) → eval_poly r (shift_arg r h f) x ≡ eval_poly r f (r.mul h x)
  eval_shift_arg h [] x = refl
  eval_shift_arg h (c ∷ cs) x =
      let V = eval_poly r cs (r.mul h x) in
      cc (eval_scale h (shift_arg r h cs) x, eval_shift_arg h cs x, L.mul_assoc x h V, L.mul_comm x h)

  pub eval_append : (f g : List A) (x : A) → eval_poly r (f ++ g) x ≡ r.add (eval_poly r f x) (r.mul (pow r x (length f)) (eval_poly r g x))
  unfolding pow
  eval_append [] g x = let G = eval_poly r g x in cc (one_mul r L G, zero_add r L G)
  eval_append (c ∷ cs) g x =
      let C = eval_poly r cs x in let G = eval_poly r g x in let P = pow r x (length cs) in
      cc (eval_append cs g x, L.mul_add x C (r.mul P G), L.mul_assoc x P G, L.add_assoc c (r.mul x C) (r.mul x (r.mul P G)))

  pub eval_raise : (n : ℕ) (f : List A) (x : A) → eval_poly r (raise r n f) x ≡ r.mul (pow r x n) (eval_poly r f x)
  unfolding pow
  eval_raise zero f x = sym (one_mul r L (eval_poly r f x))
  eval_raise (suc n) f x =
      let P = pow r x n in let F = eval_poly r f x in
      cc (eval_raise n f x, L.mul_assoc x P F, zero_add r L (r.mul x (r.mul P F)))
