-- The coefficients of sums, products and shifts, and the degree bounds that follow.
use Rattle.std.proofs.Common.{◌≡◌, ℕ, zero, suc, ◌+◌, ◌-◌, ◌≤◌, ◌<◌, List, [], ◌∷◌, ◌++◌, length, take, drop, refl, sym, ◌∙◌, ap, arith}
use Rattle.std.proofs.lemmas.List.{get_or_past, get_or-append_right}
use Rattle.p3_field.specs.Ring.{Ring, RingLaws, pow, sub}
use Rattle.p3_field.specs.Laws.Algebra.{zero_add, one_mul, mul_zero, neg_zero}
use Rattle.p3_field.specs.Poly.{coeff, DegreeBelow, IsZeroPoly, SamePoly, add_poly, scale_poly, neg_poly, sub_poly, mul_poly, shift_arg, raise}

module _ {A : Type 0} (r : Ring A) (L : RingLaws r) where
  pub coeff_add : (f g : List A) (i : ℕ) → coeff r (add_poly r f g) i ≡ r.add (coeff r f i) (coeff r g i)
  coeff_add [] g i = sym (zero_add r L (coeff r g i))
  coeff_add (c ∷ cs) [] i = sym (L.add_zero (coeff r (c ∷ cs) i))
  coeff_add (c ∷ cs) (d ∷ ds) zero = refl
  coeff_add (c ∷ cs) (d ∷ ds) (suc i) = coeff_add cs ds i

  pub coeff_scale : (a : A) (f : List A) (i : ℕ) → coeff r (scale_poly r a f) i ≡ r.mul a (coeff r f i)
  coeff_scale a [] i = sym (mul_zero r L a)
  coeff_scale a (c ∷ cs) zero = refl
  coeff_scale a (c ∷ cs) (suc i) = coeff_scale a cs i

  pub coeff_neg : (f : List A) (i : ℕ) → coeff r (neg_poly r f) i ≡ r.neg (coeff r f i)
  coeff_neg [] i = sym (neg_zero r L)
  coeff_neg (c ∷ cs) zero = refl
  coeff_neg (c ∷ cs) (suc i) = coeff_neg cs i

  pub coeff_sub : (f g : List A) (i : ℕ) → coeff r (sub_poly r f g) i ≡ sub r (coeff r f i) (coeff r g i)
  coeff_sub f g i = coeff_add f (neg_poly r g) i ∙ ap (r.add (coeff r f i)) (coeff_neg g i)

  pub coeff_shift_arg : (h : A) (f : List A) (i : ℕ) → coeff r (shift_arg r h f) i ≡ r.mul (pow r h i) (coeff r f i)
  unfolding pow
  coeff_shift_arg h [] i = sym (mul_zero r L (pow r h i))
  coeff_shift_arg h (c ∷ cs) zero = sym (one_mul r L c)
  coeff_shift_arg h (c ∷ cs) (suc i) =
      coeff_scale h (shift_arg r h cs) i ∙ (ap (r.mul h) (coeff_shift_arg h cs i) ∙ sym (L.mul_assoc h (pow r h i) (coeff r cs i)))

  pub coeff_raise_below : (n : ℕ) (f : List A) (i : ℕ) → i < n → coeff r (raise r n f) i ≡ r.zero
  coeff_raise_below zero f i h = absurd (omega arith)
  coeff_raise_below (suc n) f zero h = refl
  coeff_raise_below (suc n) f (suc i) h = coeff_raise_below n f i (omega arith)

  pub coeff_raise : (n : ℕ) (f : List A) (i : ℕ) → n ≤ i → coeff r (raise r n f) i ≡ coeff r f (i - n)
  coeff_raise zero f i h = let e : i ≡ i - zero = omega arith in ap (coeff r f) e
  coeff_raise (suc n) f zero h = absurd (omega arith)
  coeff_raise (suc n) f (suc i) h = let e : i - n ≡ suc i - suc n = omega arith in coeff_raise n f i (omega arith) ∙ ap (coeff r f) e

  pub coeff_take : (n : ℕ) (f : List A) (i : ℕ) → i < n → coeff r (take n f) i ≡ coeff r f i
  coeff_take zero f i h = absurd (omega arith)
  coeff_take (suc n) [] i h = refl
  coeff_take (suc n) (c ∷ cs) zero h = refl
  coeff_take (suc n) (c ∷ cs) (suc i) h = coeff_take n cs i (omega arith)

  pub coeff_take_past : (n : ℕ) (f : List A) (i : ℕ) → n ≤ i → coeff r (take n f) i ≡ r.zero
  coeff_take_past zero f i h = refl
  coeff_take_past (suc n) [] i h = refl
  coeff_take_past (suc n) (c ∷ cs) zero h = absurd (omega arith)
  coeff_take_past (suc n) (c ∷ cs) (suc i) h = coeff_take_past n cs i (omega arith)

  pub coeff_drop : (n : ℕ) (f : List A) (i : ℕ) → coeff r (drop n f) i ≡ coeff r f (n + i)
  coeff_drop zero f i = let e : i ≡ zero + i = omega arith in ap (coeff r f) e
  coeff_drop (suc n) [] i = refl
  coeff_drop (suc n) (c ∷ cs) i = let e : suc (n + i) ≡ suc n + i = omega arith in coeff_drop n cs i ∙ ap (coeff r (c ∷ cs)) e

  pub degree_more : (n m : ℕ) (f : List A) → n ≤ m → DegreeBelow r n f → DegreeBelow r m f
  degree_more n m f h d = λ i k. d i (omega arith)

  pub degree_length : (f : List A) → DegreeBelow r (length f) f
  degree_length f = λ i k. get_or_past f i r.zero k

  -- a list of length at most `n`
  pub degree_length_le : (n : ℕ) (f : List A) → length f ≤ n → DegreeBelow r n f
  degree_length_le n f h = degree_more (length f) n f h (degree_length f)

  pub degree_zero : (n : ℕ) (f : List A) → IsZeroPoly r f → DegreeBelow r n f
  degree_zero n f z = λ i k. z i

  pub zero_degree : (f : List A) → DegreeBelow r 0 f → IsZeroPoly r f
  zero_degree f d = λ i. d i (omega arith)

  pub degree_add : (n : ℕ) (f g : List A) → DegreeBelow r n f → DegreeBelow r n g → DegreeBelow r n (add_poly r f g)
  degree_add n f g d e = λ i k. cc (coeff_add f g i, d i k, e i k, L.add_zero r.zero)

  pub degree_scale : (n : ℕ) (a : A) (f : List A) → DegreeBelow r n f → DegreeBelow r n (scale_poly r a f)
  degree_scale n a f d = λ i k. cc (coeff_scale a f i, d i k, mul_zero r L a)

  pub degree_neg : (n : ℕ) (f : List A) → DegreeBelow r n f → DegreeBelow r n (neg_poly r f)
  degree_neg n f d = λ i k. cc (coeff_neg f i, d i k, neg_zero r L)

  pub degree_sub : (n : ℕ) (f g : List A) → DegreeBelow r n f → DegreeBelow r n g → DegreeBelow r n (sub_poly r f g)
  degree_sub n f g d e = degree_add n f (neg_poly r g) d (degree_neg n g e)

  pub degree_shift_arg : (n : ℕ) (h : A) (f : List A) → DegreeBelow r n f → DegreeBelow r n (shift_arg r h f)
  degree_shift_arg n h f d = λ i k. cc (coeff_shift_arg h f i, d i k, mul_zero r L (pow r h i))

  pub degree_raise : (k n : ℕ) (f : List A) → DegreeBelow r n f → DegreeBelow r (k + n) (raise r k f)
  degree_raise k n f d = λ i h. coeff_raise k f i (omega arith) ∙ d (i - k) (omega arith)

  pub degree_append : (n : ℕ) (f g : List A) → DegreeBelow r n g → DegreeBelow r (length f + n) (f ++ g)
  degree_append n f g d = λ i h. get_or-append_right f g (length f) i r.zero refl (omega arith) ∙ d (i - length f) (omega arith)

  pub degree_tail : (n : ℕ) (c : A) (cs : List A) → DegreeBelow r (suc n) (c ∷ cs) → DegreeBelow r n cs
  degree_tail n c cs d = λ i k. d (suc i) (omega arith)

  pub degree_cons : (n : ℕ) (c : A) (cs : List A) → DegreeBelow r n cs → DegreeBelow r (suc n) (c ∷ cs)
  degree_cons n c cs d zero h = absurd (omega arith)
  degree_cons n c cs d (suc i) h = d i (omega arith)

  scale_zero : (c : A) (g : List A) → c ≡ r.zero → IsZeroPoly r (scale_poly r c g)
  scale_zero c g e = λ i. cc (coeff_scale c g i, e, L.mul_comm r.zero (coeff r g i), mul_zero r L (coeff r g i))

  pub zero_mul_poly : (f g : List A) → IsZeroPoly r f → IsZeroPoly r (mul_poly r f g)
  zero_mul_poly [] g z i = refl
  zero_mul_poly (c ∷ cs) g z zero = cc (coeff_add (scale_poly r c g) (r.zero ∷ mul_poly r cs g) zero, scale_zero c g (z zero) zero, L.add_zero r.zero)
  zero_mul_poly (c ∷ cs) g z (suc i) =
      cc (coeff_add (scale_poly r c g) (r.zero ∷ mul_poly r cs g) (suc i), scale_zero c g (z zero) (suc i), zero_mul_poly cs g (λ k. z (suc k)) i, L.add_zero r.zero)

  pub degree_mul : (m n : ℕ) (f g : List A) → DegreeBelow r m f → DegreeBelow r (suc n) g → DegreeBelow r (m + n) (mul_poly r f g)
  degree_mul zero n f g d e = degree_zero (zero + n) (mul_poly r f g) (zero_mul_poly f g (zero_degree f d))
  degree_mul (suc m) n [] g d e = λ i k. refl
  degree_mul (suc m) n (c ∷ cs) g d e =
      degree_add (suc m + n) (scale_poly r c g) (r.zero ∷ mul_poly r cs g)
      (degree_more (suc n) (suc m + n) (scale_poly r c g) (omega arith) (degree_scale (suc n) c g e))
      (degree_more (suc (m + n)) (suc m + n) (r.zero ∷ mul_poly r cs g) (omega arith)
      (degree_cons (m + n) r.zero (mul_poly r cs g) (degree_mul m n cs g (degree_tail m c cs d) e)))

  pub length_add : (f g : List A) (n : ℕ) → length f ≤ n → length g ≡ n → length (add_poly r f g) ≡ n
  length_add [] g n h e = e
  length_add (c ∷ cs) [] n h e = omega arith
  length_add (c ∷ cs) (d ∷ ds) zero h e = absurd (omega arith)
  length_add (c ∷ cs) (d ∷ ds) (suc n) h e = ap suc (length_add cs ds n (omega arith) (omega arith))

  pub length_scale : (a : A) (f : List A) → length (scale_poly r a f) ≡ length f
  length_scale a [] = refl
  length_scale a (c ∷ cs) = ap suc (length_scale a cs)

  pub length_neg : (f : List A) → length (neg_poly r f) ≡ length f
  length_neg [] = refl
  length_neg (c ∷ cs) = ap suc (length_neg cs)

  pub length_shift_arg : (h : A) (f : List A) → length (shift_arg r h f) ≡ length f
  length_shift_arg h [] = refl
  length_shift_arg h (c ∷ cs) = ap suc (length_scale h (shift_arg r h cs) ∙ length_shift_arg h cs)

  -- lists of one length with the same coefficients are one list
  pub same_length : (f g : List A) → length f ≡ length g → SamePoly r f g → f ≡ g
  same_length [] [] e s = refl
  same_length [] (d ∷ ds) e s = absurd (omega arith)
  same_length (c ∷ cs) [] e s = absurd (omega arith)
  same_length (c ∷ cs) (d ∷ ds) e s = cc (s zero, same_length cs ds (omega arith) (λ i. s (suc i)))
