-- Polynomials over a ring, read over a larger ring.
use Rattle.std.proofs.Common.{◌≡◌, ℕ, zero, suc, List, [], ◌∷◌, map, refl, sym, ◌∙◌, ap}
use Rattle.p3_field.specs.Domain.{coset_point}
use Rattle.p3_field.specs.Ring.{Ring, RingLaws, pow, of_nat, sub}
use Rattle.p3_field.specs.Poly.{eval_poly, coeff, Apart, DegreeBelow, SamePoly, add_poly, scale_poly, neg_poly, sub_poly, mul_poly, shift_arg, raise, tail_values, quotient}
use Rattle.p3_field.specs.Field.{RingHom, FieldLaws}
use Rattle.p3_field.specs.Laws.Algebra.{neg_unique, zero_mul}
use Rattle.p3_field.specs.Laws.Values.{eval_same}
use Rattle.p3_field.specs.Laws.Roots.{sub_zero}
use Rattle.p3_field.specs.Laws.Coset.{HasOrder}
use Rattle.p3_field.specs.Laws.Transform.{Inverses}
use Rattle.p3_field.specs.Laws.Binomials.{times_binomial, eval_times_binomial}

module _ {A B : Type 0} (r : Ring A) (L : RingLaws r) (s : Ring B) (M : RingLaws s) (f : A → B) (H : RingHom r s f) where
  pub hom_neg : (x : A) → f (r.neg x) ≡ s.neg (f x)
  hom_neg x = neg_unique s M (f x) (f (r.neg x)) (sym (H.keeps_add x (r.neg x)) ∙ (ap f (L.add_neg x) ∙ H.keeps_zero))

  pub hom_pow : (x : A) (n : ℕ) → f (pow r x n) ≡ pow s (f x) n
  unfolding pow
  hom_pow x zero = H.keeps_one
  hom_pow x (suc n) = H.keeps_mul x (pow r x n) ∙ ap (s.mul (f x)) (hom_pow x n)

  pub coeff_map : (g : List A) (i : ℕ) → coeff s (map f g) i ≡ f (coeff r g i)
  coeff_map [] i = sym H.keeps_zero
  coeff_map (c ∷ cs) zero = refl
  coeff_map (c ∷ cs) (suc i) = coeff_map cs i

  pub same_poly_map : (g h : List A) → SamePoly r g h → SamePoly s (map f g) (map f h)
  same_poly_map g h e = λ i. coeff_map g i ∙ (ap f (e i) ∙ sym (coeff_map h i))

  pub degree_map : (n : ℕ) (g : List A) → DegreeBelow r n g → DegreeBelow s n (map f g)
  degree_map n g d = λ i k. coeff_map g i ∙ (ap f (d i k) ∙ H.keeps_zero)

  pub map_add : (g h : List A) → map f (add_poly r g h) ≡ add_poly s (map f g) (map f h)
  map_add [] h = refl
  map_add (c ∷ cs) [] = refl
  map_add (c ∷ cs) (d ∷ ds) = cc (H.keeps_add c d, map_add cs ds)

  pub map_scale : (a : A) (g : List A) → map f (scale_poly r a g) ≡ scale_poly s (f a) (map f g)
  map_scale a [] = refl
  map_scale a (c ∷ cs) = cc (H.keeps_mul a c, map_scale a cs)

  pub map_neg : (g : List A) → map f (neg_poly r g) ≡ neg_poly s (map f g)
  map_neg [] = refl
  map_neg (c ∷ cs) = cc (hom_neg c, map_neg cs)

  pub map_sub : (g h : List A) → map f (sub_poly r g h) ≡ sub_poly s (map f g) (map f h)
  map_sub g h = map_add g (neg_poly r h) ∙ ap (add_poly s (map f g)) (map_neg h)

  pub map_raise : (n : ℕ) (g : List A) → map f (raise r n g) ≡ raise s n (map f g)
  map_raise zero g = refl
  map_raise (suc n) g = cc (H.keeps_zero, map_raise n g)

  pub map_mul : (g h : List A) → map f (mul_poly r g h) ≡ mul_poly s (map f g) (map f h)
  map_mul [] h = refl
  map_mul (c ∷ cs) h =
      map_add (scale_poly r c h) (r.zero ∷ mul_poly r cs h)
      ∙ cc (map_scale c h, H.keeps_zero, map_mul cs h)

  pub map_shift_arg : (a : A) (g : List A) → map f (shift_arg r a g) ≡ shift_arg s (f a) (map f g)
  map_shift_arg a [] = refl
  map_shift_arg a (c ∷ cs) = cc (map_scale a (shift_arg r a cs), map_shift_arg a cs)

  -- the value at a point of the small ring
  pub map_eval : (g : List A) (x : A) → eval_poly s (map f g) (f x) ≡ f (eval_poly r g x)
  map_eval [] x = sym H.keeps_zero
  map_eval (c ∷ cs) x = cc (map_eval cs x, H.keeps_add c (r.mul x (eval_poly r cs x)), H.keeps_mul x (eval_poly r cs x))

  map_tail_values : (g : List A) (a : A) → map f (tail_values r g a) ≡ tail_values s (map f g) (f a)
  map_tail_values [] a = refl
  map_tail_values (d ∷ ds) a = cc (map_tail_values ds a, map_eval ds a, H.keeps_add d (r.mul a (eval_poly r ds a)), H.keeps_mul a (eval_poly r ds a))

  pub map_quotient : (g : List A) (a : A) → map f (quotient r g a) ≡ quotient s (map f g) (f a)
  map_quotient [] a = refl
  map_quotient (c ∷ cs) a = map_tail_values cs a

  pub map_times_binomial : (n : ℕ) (c : A) (q : List A) → map f (times_binomial r n c q) ≡ times_binomial s n (f c) (map f q)
  map_times_binomial n c q = map_sub (raise r n q) (scale_poly r c q) ∙ cc (map_raise n q, map_scale c q)

  -- a multiple of X^n - c has the value (x^n - c) q(x) in the large ring too
  pub extended_multiple : (n : ℕ) (c : A) (g q : List A) (x : B) → SamePoly r g (times_binomial r n c q)
      → eval_poly s (map f g) x ≡ s.mul (sub s (pow s x n) (f c)) (eval_poly s (map f q) x)
  extended_multiple n c g q x e =
      eval_same s M (map f g) (map f (times_binomial r n c q)) x (same_poly_map g (times_binomial r n c q) e)
      ∙ (ap (λ l. eval_poly s l x) (map_times_binomial n c q) ∙ eval_times_binomial s M n (f c) (map f q) x)

  pub hom_of_nat : (n : ℕ) → f (of_nat r n) ≡ of_nat s n
  unfolding of_nat
  hom_of_nat zero = H.keeps_zero
  hom_of_nat (suc n) = cc (H.keeps_add r.one (of_nat r n), H.keeps_one, hom_of_nat n)

  pub hom_inverses : (n : ℕ) (t h m u g : A) → Inverses r n t h m u g → Inverses s n (f t) (f h) (f m) (f u) (f g)
  hom_inverses n t h m u g I = record {
    of_size = cc (H.keeps_mul m (of_nat r n), hom_of_nat n, I.of_size, H.keeps_one);
    of_shift = cc (H.keeps_mul u t, I.of_shift, H.keeps_one);
    of_root = cc (H.keeps_mul g h, I.of_root, H.keeps_one);
  }

  module _ (inv : A → A) (W : FieldLaws r inv) (one : s.one ≡ s.zero → ⊥) where
    -- what differs in a field differs in every larger ring
    pub hom_differs : (x y : A) → (x ≡ y → ⊥) → f x ≡ f y → ⊥
    hom_differs x y n e =
        let d = sub r x y in
        let unit : r.mul d (inv d) ≡ r.one = W.mul_inv d (λ z. n (sub_zero r L x y z)) in
        let gone : f d ≡ s.zero = cc (H.keeps_add x (r.neg y), hom_neg y, e, M.add_neg (f y)) in
        one (cc (H.keeps_mul d (inv d), unit, H.keeps_one, gone, zero_mul s M (f (inv d))))

    pub hom_apart : (n : ℕ) (p : ℕ → A) → Apart n p → Apart n (λ i. f (p i))
    hom_apart n p a = λ i j k l e. hom_differs (p i) (p j) (a i j k l) e

    pub hom_order : (n : ℕ) (h : A) → HasOrder r n h → HasOrder s n (f h)
    hom_order n h O = record {
      full = sym (hom_pow h n) ∙ (ap f O.full ∙ H.keeps_one);
      least = λ j a b e. hom_differs (pow r h j) r.one (O.least j a b) (hom_pow h j ∙ (e ∙ sym H.keeps_one));
    }

  pub hom_coset_point : (t h : A) (i : ℕ) → f (coset_point r t h i) ≡ coset_point s (f t) (f h) i
  hom_coset_point t h i = H.keeps_mul t (pow r h i) ∙ ap (s.mul (f t)) (hom_pow h i)
