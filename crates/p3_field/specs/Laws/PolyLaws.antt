-- Polynomials are a commutative ring, up to zeros at the end.
use Rattle.std.proofs.Common.{◌⊎◌, inl, inr, ◌≡◌, ℕ, zero, suc, List, [], ◌∷◌, refl, sym, ◌∙◌, ap}
use Rattle.p3_field.specs.Domain.{binomial}
use Rattle.p3_field.specs.Ring.{Ring, RingLaws}
use Rattle.p3_field.specs.Laws.Algebra.{zero_add, one_mul, mul_zero, zero_mul, add_swap, neg_mul}
use Rattle.p3_field.specs.Poly.{eval_poly, coeff, IsZeroPoly, SamePoly, add_poly, scale_poly, mul_poly, raise, tail_values, quotient}
use Rattle.p3_field.specs.Laws.Coeffs.{coeff_add, coeff_scale, coeff_sub}
use Rattle.p3_field.specs.Laws.Binomials.{times_binomial}

module _ {A : Type 0} (r : Ring A) (L : RingLaws r) where
  pub same_add : (f f' g g' : List A) → SamePoly r f f' → SamePoly r g g' → SamePoly r (add_poly r f g) (add_poly r f' g')
  same_add f f' g g' e d = λ i. cc (coeff_add r L f g i, coeff_add r L f' g' i, e i, d i)

  pub same_scale : (a : A) (f f' : List A) → SamePoly r f f' → SamePoly r (scale_poly r a f) (scale_poly r a f')
  same_scale a f f' e = λ i. cc (coeff_scale r L a f i, coeff_scale r L a f' i, e i)

  pub add_poly_comm : (f g : List A) → SamePoly r (add_poly r f g) (add_poly r g f)
  add_poly_comm f g = λ i. cc (coeff_add r L f g i, coeff_add r L g f i, L.add_comm (coeff r f i) (coeff r g i))

  pub add_poly_assoc : (f g h : List A) → SamePoly r (add_poly r (add_poly r f g) h) (add_poly r f (add_poly r g h))
  add_poly_assoc f g h = λ i. cc (
    coeff_add r L (add_poly r f g) h i,
    coeff_add r L f g i,
    coeff_add r L f (add_poly r g h) i,
    coeff_add r L g h i,
    L.add_assoc (coeff r f i) (coeff r g i) (coeff r h i),
  )

  -- the first coefficient and the others of a product
  pub mul_first : (c : A) (cs g : List A) → coeff r (mul_poly r (c ∷ cs) g) 0 ≡ r.mul c (coeff r g 0)
  mul_first c cs g = coeff_add r L (scale_poly r c g) (r.zero ∷ mul_poly r cs g) 0 ∙ (L.add_zero (coeff r (scale_poly r c g) 0) ∙ coeff_scale r L c g 0)

  pub mul_next : (c : A) (cs g : List A) (i : ℕ) → coeff r (mul_poly r (c ∷ cs) g) (suc i) ≡ r.add (r.mul c (coeff r g (suc i))) (coeff r (mul_poly r cs g) i)
  mul_next c cs g i = coeff_add r L (scale_poly r c g) (r.zero ∷ mul_poly r cs g) (suc i) ∙ ap (λ v. r.add v (coeff r (mul_poly r cs g) i)) (coeff_scale r L c g (suc i))

  -- equal factors have equal products
  pub same_mul_right : (f g g' : List A) → SamePoly r g g' → SamePoly r (mul_poly r f g) (mul_poly r f g')
  same_mul_right [] g g' e i = refl
  same_mul_right (c ∷ cs) g g' e zero = cc (mul_first c cs g, mul_first c cs g', e 0)
  same_mul_right (c ∷ cs) g g' e (suc i) = cc (mul_next c cs g i, mul_next c cs g' i, e (suc i), same_mul_right cs g g' e i)

  -- a product by its second factor
  mul_first_right : (f : List A) (d : A) (ds : List A) → coeff r (mul_poly r f (d ∷ ds)) 0 ≡ r.mul (coeff r f 0) d
  mul_first_right [] d ds = sym (zero_mul r L d)
  mul_first_right (c ∷ cs) d ds = mul_first c cs (d ∷ ds)

  mul_next_right : (f : List A) (d : A) (ds : List A) (i : ℕ) → coeff r (mul_poly r f (d ∷ ds)) (suc i) ≡ r.add (r.mul (coeff r f (suc i)) d) (coeff r (mul_poly r f ds) i)
  mul_next_right [] d ds i = cc (zero_mul r L d, L.add_zero r.zero)
  mul_next_right (c ∷ cs) d ds zero =
      cc (mul_next c cs (d ∷ ds) 0, mul_first_right cs d ds, mul_first c cs ds, L.add_comm (r.mul c (coeff r ds 0)) (r.mul (coeff r cs 0) d))
  mul_next_right (c ∷ cs) d ds (suc i) =
      let X = r.mul c (coeff r ds (suc i)) in let Y = r.mul (coeff r cs (suc i)) d in let Z = coeff r (mul_poly r cs ds) i in
      cc (mul_next c cs (d ∷ ds) (suc i), mul_next_right cs d ds i, mul_next c cs ds i, L.add_assoc X Y Z, L.add_comm X Y, L.add_assoc Y X Z)

  mul_poly_empty : (f : List A) → IsZeroPoly r (mul_poly r f [])
  mul_poly_empty [] i = refl
  mul_poly_empty (c ∷ cs) zero = mul_first c cs [] ∙ mul_zero r L c
  mul_poly_empty (c ∷ cs) (suc i) = cc (mul_next c cs [] i, mul_zero r L c, mul_poly_empty cs i, L.add_zero r.zero)

  pub mul_poly_comm : (f g : List A) → SamePoly r (mul_poly r f g) (mul_poly r g f)
  mul_poly_comm [] g i = sym (mul_poly_empty g i)
  mul_poly_comm (c ∷ cs) g zero = cc (mul_first c cs g, mul_first_right g c cs, L.mul_comm c (coeff r g 0))
  mul_poly_comm (c ∷ cs) g (suc i) = cc (mul_next c cs g i, mul_next_right g c cs i, L.mul_comm c (coeff r g (suc i)), mul_poly_comm cs g i)

  pub same_mul_left : (f f' g : List A) → SamePoly r f f' → SamePoly r (mul_poly r f g) (mul_poly r f' g)
  same_mul_left f f' g e = λ i. mul_poly_comm f g i ∙ (same_mul_right g f f' e i ∙ mul_poly_comm g f' i)

  pub mul_poly_add : (f g h : List A) → SamePoly r (mul_poly r f (add_poly r g h)) (add_poly r (mul_poly r f g) (mul_poly r f h))
  mul_poly_add [] g h i = refl
  mul_poly_add (c ∷ cs) g h zero =
      let f = c ∷ cs in
      cc (
        mul_first c cs (add_poly r g h),
        coeff_add r L g h 0,
        coeff_add r L (mul_poly r f g) (mul_poly r f h) 0,
        mul_first c cs g,
        mul_first c cs h,
        L.mul_add c (coeff r g 0) (coeff r h 0),
      )
  mul_poly_add (c ∷ cs) g h (suc i) =
      let f = c ∷ cs in
      let a = r.mul c (coeff r g (suc i)) in let b = r.mul c (coeff r h (suc i)) in
      let x = coeff r (mul_poly r cs g) i in let y = coeff r (mul_poly r cs h) i in
      cc (
        mul_next c cs (add_poly r g h) i,
        coeff_add r L g h (suc i),
        coeff_add r L (mul_poly r f g) (mul_poly r f h) (suc i),
        mul_next c cs g i,
        mul_next c cs h i,
        L.mul_add c (coeff r g (suc i)) (coeff r h (suc i)),
        mul_poly_add cs g h i,
        coeff_add r L (mul_poly r cs g) (mul_poly r cs h) i,
        add_swap r L a b x y,
      )

  pub add_mul_poly : (f g h : List A) → SamePoly r (mul_poly r (add_poly r f g) h) (add_poly r (mul_poly r f h) (mul_poly r g h))
  add_mul_poly f g h = λ i.
      mul_poly_comm (add_poly r f g) h i ∙ (mul_poly_add h f g i
      ∙ same_add (mul_poly r h f) (mul_poly r f h) (mul_poly r h g) (mul_poly r g h) (mul_poly_comm h f) (mul_poly_comm h g) i)

  pub scale_mul_poly : (a : A) (f g : List A) → SamePoly r (mul_poly r (scale_poly r a f) g) (scale_poly r a (mul_poly r f g))
  scale_mul_poly a [] g i = refl
  scale_mul_poly a (c ∷ cs) g zero =
      cc (mul_first (r.mul a c) (scale_poly r a cs) g, coeff_scale r L a (mul_poly r (c ∷ cs) g) 0, mul_first c cs g, L.mul_assoc a c (coeff r g 0))
  scale_mul_poly a (c ∷ cs) g (suc i) =
      let x = coeff r g (suc i) in let y = coeff r (mul_poly r cs g) i in
      cc (
        mul_next (r.mul a c) (scale_poly r a cs) g i,
        coeff_scale r L a (mul_poly r (c ∷ cs) g) (suc i),
        mul_next c cs g i,
        L.mul_assoc a c x,
        scale_mul_poly a cs g i,
        coeff_scale r L a (mul_poly r cs g) i,
        L.mul_add a (r.mul c x) y,
      )

  -- X f times g is X times f g
  shifted_mul : (f g : List A) → SamePoly r (mul_poly r (r.zero ∷ f) g) (r.zero ∷ mul_poly r f g)
  shifted_mul f g zero = mul_first r.zero f g ∙ zero_mul r L (coeff r g 0)
  shifted_mul f g (suc i) = cc (mul_next r.zero f g i, zero_mul r L (coeff r g (suc i)), zero_add r L (coeff r (mul_poly r f g) i))

  same_cons : (c : A) (f g : List A) → SamePoly r f g → SamePoly r (c ∷ f) (c ∷ g)
  same_cons c f g e zero = refl
  same_cons c f g e (suc i) = e i

  pub mul_poly_assoc : (f g h : List A) → SamePoly r (mul_poly r (mul_poly r f g) h) (mul_poly r f (mul_poly r g h))
  mul_poly_assoc [] g h i = refl
  mul_poly_assoc (c ∷ cs) g h i =
      let G = scale_poly r c g in let P = mul_poly r cs g in let K = mul_poly r g h in
      add_mul_poly G (r.zero ∷ P) h i
      ∙ same_add (mul_poly r G h) (scale_poly r c K) (mul_poly r (r.zero ∷ P) h) (r.zero ∷ mul_poly r cs K)
      (scale_mul_poly c g h)
      (λ j. shifted_mul P h j ∙ same_cons r.zero (mul_poly r P h) (mul_poly r cs K) (λ k. mul_poly_assoc cs g h k) j) i

  pub one_mul_poly : (f : List A) → SamePoly r (mul_poly r (r.one ∷ []) f) f
  one_mul_poly f zero = mul_first r.one [] f ∙ one_mul r L (coeff r f 0)
  one_mul_poly f (suc i) = cc (mul_next r.one [] f i, one_mul r L (coeff r f (suc i)), L.add_zero (coeff r f (suc i)))

  raise_mul : (n : ℕ) (f g : List A) → SamePoly r (mul_poly r (raise r n f) g) (raise r n (mul_poly r f g))
  raise_mul zero f g i = refl
  raise_mul (suc n) f g i = shifted_mul (raise r n f) g i ∙ same_cons r.zero (mul_poly r (raise r n f) g) (raise r n (mul_poly r f g)) (raise_mul n f g) i

  same_raise : (n : ℕ) (f g : List A) → SamePoly r f g → SamePoly r (raise r n f) (raise r n g)
  same_raise zero f g e = e
  same_raise (suc n) f g e = same_cons r.zero (raise r n f) (raise r n g) (same_raise n f g e)

  constant_mul : (c : A) (f : List A) (i : ℕ) → coeff r (mul_poly r (c ∷ []) f) i ≡ r.mul c (coeff r f i)
  constant_mul c f zero = mul_first c [] f
  constant_mul c f (suc i) = mul_next c [] f i ∙ L.add_zero (r.mul c (coeff r f (suc i)))

  -- the list X^n - c times q
  pub binomial_mul : (n : ℕ) (c : A) (q : List A) → SamePoly r (mul_poly r (binomial r n c) q) (times_binomial r n c q)
  binomial_mul n c q = λ i.
      let U = r.neg c ∷ [] in let X = raise r n (r.one ∷ []) in
      let a : coeff r (mul_poly r X q) i ≡ coeff r (raise r n q) i =
      raise_mul n (r.one ∷ []) q i ∙ same_raise n (mul_poly r (r.one ∷ []) q) q (one_mul_poly q) i in
      cc (
        add_mul_poly U X q i,
        coeff_add r L (mul_poly r U q) (mul_poly r X q) i,
        a,
        constant_mul (r.neg c) q i,
        neg_mul r L c (coeff r q i),
        coeff_sub r L (raise r n q) (scale_poly r c q) i,
        coeff_scale r L c q i,
        L.add_comm (r.neg (r.mul c (coeff r q i))) (coeff r (raise r n q) i),
      )

  -- the values at `a` of a list's tails: the first is the list's own, and each is a coefficient and a times the next
  first_tail_value : (f : List A) (a : A) → coeff r (tail_values r f a) 0 ≡ eval_poly r f a
  first_tail_value [] a = refl
  first_tail_value (d ∷ ds) a = refl

  next_tail_value : (f : List A) (a : A) (i : ℕ) → coeff r (tail_values r f a) i ≡ r.add (coeff r f i) (r.mul a (coeff r (tail_values r f a) (suc i)))
  next_tail_value [] a i = cc (mul_zero r L a, L.add_zero r.zero)
  next_tail_value (d ∷ ds) a zero = ap (λ v. r.add d (r.mul a v)) (sym (first_tail_value ds a))
  next_tail_value (d ∷ ds) a (suc i) = next_tail_value ds a i

  -- a product with c + e X
  linear_mul_first : (c e : A) (f : List A) → coeff r (mul_poly r (c ∷ e ∷ []) f) 0 ≡ r.mul c (coeff r f 0)
  linear_mul_first c e f = mul_first c (e ∷ []) f

  linear_mul_next : (c e : A) (f : List A) (i : ℕ) → coeff r (mul_poly r (c ∷ e ∷ []) f) (suc i) ≡ r.add (r.mul c (coeff r f (suc i))) (r.mul e (coeff r f i))
  linear_mul_next c e f i = mul_next c (e ∷ []) f i ∙ ap (r.add (r.mul c (coeff r f (suc i)))) (constant_mul e f i)

  -- f = (X - a) q + f(a), coefficient by coefficient
  pub divide_poly : (f : List A) (a : A) → SamePoly r f (add_poly r (mul_poly r (r.neg a ∷ r.one ∷ []) (quotient r f a)) (eval_poly r f a ∷ []))
  divide_poly [] a zero = sym (L.add_zero r.zero)
  divide_poly [] a (suc zero) = refl
  divide_poly [] a (suc (suc i)) = refl
  divide_poly (c ∷ cs) a zero =
      let V = eval_poly r cs a in
      let P = mul_poly r (r.neg a ∷ r.one ∷ []) (tail_values r cs a) in
      let M = r.mul a V in
      cc (
        coeff_add r L P (r.add c M ∷ []) 0,
        linear_mul_first (r.neg a) r.one (tail_values r cs a),
        first_tail_value cs a,
        neg_mul r L a V,
        L.add_comm c M,
        L.add_assoc (r.neg M) M c,
        L.add_comm (r.neg M) M,
        L.add_neg M,
        zero_add r L c,
      )
  divide_poly (c ∷ cs) a (suc i) =
      let T = tail_values r cs a in
      let P = mul_poly r (r.neg a ∷ r.one ∷ []) T in
      let U = coeff r T i in let V = coeff r T (suc i) in let M = r.mul a V in let D = coeff r cs i in
      cc (
        coeff_add r L P (eval_poly r (c ∷ cs) a ∷ []) (suc i),
        L.add_zero (coeff r P (suc i)),
        linear_mul_next (r.neg a) r.one T i,
        neg_mul r L a V,
        one_mul r L U,
        next_tail_value cs a i,
        L.add_comm D M,
        L.add_assoc (r.neg M) M D,
        L.add_comm (r.neg M) M,
        L.add_neg M,
        zero_add r L D,
      )

  -- a polynomial that is zero at `a` is X - a times its quotient
  pub divide_root : (f : List A) (a : A) → eval_poly r f a ≡ r.zero → SamePoly r f (mul_poly r (r.neg a ∷ r.one ∷ []) (quotient r f a))
  divide_root f a z i =
      let P = mul_poly r (r.neg a ∷ r.one ∷ []) (quotient r f a) in
      divide_poly f a i ∙ (coeff_add r L P (eval_poly r f a ∷ []) i ∙ (ap (r.add (coeff r P i)) (nothing (eval_poly r f a) z i) ∙ L.add_zero (coeff r P i)))
    where
      nothing : (v : A) → v ≡ r.zero → (i : ℕ) → coeff r (v ∷ []) i ≡ r.zero
      nothing v e zero = e
      nothing v e (suc i) = refl

  -- X / s - a times s q is X - s a times q, where t s = 1
  pub shifted_linear : (s t a : A) (q : List A) → r.mul t s ≡ r.one
      → SamePoly r (mul_poly r (r.neg a ∷ t ∷ []) (scale_poly r s q)) (mul_poly r (r.neg (r.mul s a) ∷ r.one ∷ []) q)
  shifted_linear s t a q e zero =
      let Q = coeff r q 0 in
      cc (
        linear_mul_first (r.neg a) t (scale_poly r s q),
        linear_mul_first (r.neg (r.mul s a)) r.one q,
        coeff_scale r L s q 0,
        neg_mul r L a (r.mul s Q),
        neg_mul r L (r.mul s a) Q,
        L.mul_comm s a,
        L.mul_assoc a s Q,
      )
  shifted_linear s t a q e (suc i) =
      let Q = coeff r q i in let R = coeff r q (suc i) in
      cc (
        linear_mul_next (r.neg a) t (scale_poly r s q) i,
        linear_mul_next (r.neg (r.mul s a)) r.one q i,
        coeff_scale r L s q i,
        coeff_scale r L s q (suc i),
        neg_mul r L a (r.mul s R),
        neg_mul r L (r.mul s a) R,
        L.mul_comm s a,
        L.mul_assoc a s R,
        L.mul_assoc t s Q,
        e,
      )

  module _ (N : (x y : A) → (x ≡ r.zero → ⊥) → r.mul x y ≡ r.zero → y ≡ r.zero) where
    first_cancels : (c : A) (cs g : List A) → (c ≡ r.zero → ⊥) → IsZeroPoly r (mul_poly r (c ∷ cs) g) → IsZeroPoly r g
    first_cancels c cs [] n z i = refl
    first_cancels c cs (d ∷ ds) n z zero = N c d n (sym (mul_first c cs (d ∷ ds)) ∙ z 0)
    first_cancels c cs (d ∷ ds) n z (suc i) =
        let d0 : d ≡ r.zero = N c d n (sym (mul_first c cs (d ∷ ds)) ∙ z 0) in
        let rest : IsZeroPoly r (mul_poly r (c ∷ cs) ds) = λ k.
        let X = coeff r (c ∷ cs) (suc k) in let Y = coeff r (mul_poly r (c ∷ cs) ds) k in
        cc (mul_next_right (c ∷ cs) d ds k, z (suc k), d0, mul_zero r L X, zero_add r L Y) in
        first_cancels c cs ds n rest i

    -- a product of polynomials is zero only where one of them is
    pub poly_no_zero_divisors : ((x : A) → (x ≡ r.zero) ⊎ (x ≡ r.zero → ⊥)) → (f g : List A) → IsZeroPoly r (mul_poly r f g) → IsZeroPoly r f ⊎ IsZeroPoly r g
    poly_no_zero_divisors dec [] g z = inl (λ i. refl)
    poly_no_zero_divisors dec (c ∷ cs) g z = elim (dec c) [
      | inr n ↦ inr (first_cancels c cs g n z)
      | inl e ↦ after_zero c cs g e (poly_no_zero_divisors dec cs g (λ i.
          let X = coeff r (mul_poly r cs g) i in let Y = coeff r g (suc i) in
          cc (mul_next c cs g i, z (suc i), e, zero_mul r L Y, zero_add r L X)))
    ]
      where
        after_zero : (c : A) (cs g : List A) → c ≡ r.zero → IsZeroPoly r cs ⊎ IsZeroPoly r g → IsZeroPoly r (c ∷ cs) ⊎ IsZeroPoly r g
        after_zero c cs g e (inr y) = inr y
        after_zero c cs g e (inl x) = inl (λ i. cons_zero c cs e x i)
          where
            cons_zero : (c : A) (cs : List A) → c ≡ r.zero → IsZeroPoly r cs → (i : ℕ) → coeff r (c ∷ cs) i ≡ r.zero
            cons_zero c cs e x zero = e
            cons_zero c cs e x (suc i) = x i
