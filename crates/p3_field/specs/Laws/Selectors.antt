-- The values of a domain's polynomials, read over a larger ring: the vanishing polynomial is zero on the domain
-- alone, and the selectors by quotients, by sums of powers and by products.
use Rattle.std.proofs.Common.{◌≡◌, ℕ, zero, suc, ◌+◌, ◌*◌, ◌^◌, ◌≤◌, ◌<◌, ◌⊎◌, List, [], ◌∷◌, map, refl, sym, ◌∙◌, ap, arith}
use Rattle.std.proofs.lemmas.Nat.{pow_pos}
use Rattle.p3_field.specs.Ring.{Ring, RingLaws, pow, sub}
use Rattle.p3_field.specs.Field.{FieldLaws, RingHom, TwoAdicLaws}
use Rattle.p3_field.specs.Poly.{eval_poly, coeff, SamePoly, total, quotient, scale_poly, mul_poly, raise}
use Rattle.p3_field.specs.Domain.{CosetData, point, binomial, scaled_binomial, vanishing_polynomial, first_selector, last_selector, transition_selector}
use Rattle.p3_field.specs.Laws.Algebra.{zero_add, one_mul, mul_zero, neg_mul, add_mul}
use Rattle.p3_field.specs.Laws.Order.{one_pow, pow_times}
use Rattle.p3_field.specs.Laws.Values.{eval_scale}
use Rattle.p3_field.specs.Laws.Sums.{total_scale}
use Rattle.p3_field.specs.Laws.Roots.{NoZeroDivisors, sub_zero, sub_self}
use Rattle.p3_field.specs.Laws.Coset.{HasOrder, two_adic_order, pow_mul, double_power}
use Rattle.p3_field.specs.Laws.Binomials.{coset_only}
use Rattle.p3_field.specs.Laws.PolyLaws.{divide_root, shifted_linear}
use Rattle.p3_field.specs.Laws.Division.{opening_quotient}
use Rattle.p3_field.specs.Laws.Extended.{hom_neg, hom_pow, map_scale, map_add, map_raise, map_quotient, hom_order, hom_differs, hom_coset_point}
use Rattle.p3_field.specs.Laws.Own.{own_hom}
use Rattle.p3_field.specs.Laws.TwoAdic.{eval_scaled_binomial, root_not_zero}

-- (1 + u) (1 + u^2) .. (1 + u^(2^(k-1)))
unfoldable pub doubling_product : {A : Type 0} → Ring A → ℕ → A → A
doubling_product r zero u = r.one
doubling_product r (suc k) u = r.mul (doubling_product r k u) (r.add r.one (pow r u (2 ^ k)))

module _ {A : Type 0} (r : Ring A) (L : RingLaws r) where
  -- the sum of n powers is that of the first m and u^m times that of the others
  powers_append : (m n : ℕ) (u : A) → total r (m + n) (λ i. pow r u i) ≡ r.add (total r m (λ i. pow r u i)) (r.mul (pow r u m) (total r n (λ i. pow r u i)))
  unfolding pow
  powers_append zero n u =
      let e : zero + n ≡ n = omega arith in
      let S = total r n (λ i. pow r u i) in
      ap (λ k. total r k (λ i. pow r u i)) e ∙ cc (zero_add r L S, one_mul r L S, zero_add r L (r.mul r.one S))
  powers_append (suc m) n u =
      let e : suc m + n ≡ suc (m + n) = omega arith in
      let S = total r n (λ i. pow r u i) in let M = total r m (λ i. pow r u i) in let P = pow r u m in
      ap (λ k. total r k (λ i. pow r u i)) e
      ∙ (ap (r.add r.one) (total_scale r L (m + n) u (λ i. pow r u i) ∙ ap (r.mul u) (powers_append m n u))
      ∙ cc (L.mul_add u M (r.mul P S), L.mul_assoc u P S, L.add_assoc r.one (r.mul u M) (r.mul u (r.mul P S)), total_scale r L m u (λ i. pow r u i)))

  -- the product of the 1 + u^(2^j) is the sum of the powers below 2^k
  pub doubling_product_sum : (k : ℕ) (u : A) → doubling_product r k u ≡ total r (2 ^ k) (λ i. pow r u i)
  unfolding doubling_product pow
  doubling_product_sum zero u = sym (L.add_zero r.one)
  doubling_product_sum (suc k) u =
      let S = total r (2 ^ k) (λ i. pow r u i) in let P = pow r u (2 ^ k) in
      ap (λ x. r.mul x (r.add r.one P)) (doubling_product_sum k u)
      ∙ (cc (L.mul_add S r.one P, L.mul_one S, L.mul_comm S P, powers_append (2 ^ k) (2 ^ k) u)
      ∙ ap (λ n. total r n (λ i. pow r u i)) (sym (double_power k)))

module _ {A B : Type 0} (r : Ring A) (L : RingLaws r) (s : Ring B) (M : RingLaws s) (f : A → B) (H : RingHom r s f) where
  pub map_binomial : (n : ℕ) (c : A) → map f (binomial r n c) ≡ binomial s n (f c)
  map_binomial n c =
      map_add r L s M f H (r.neg c ∷ []) (raise r n (r.one ∷ []))
      ∙ cc (hom_neg r L s M f H c, map_raise r L s M f H n (r.one ∷ []), H.keeps_one)

  map_scaled_binomial : (n : ℕ) (a t : A) → map f (scaled_binomial r n a t) ≡ scaled_binomial s n (f a) (f t)
  map_scaled_binomial n a t =
      map_scale r L s M f H (pow r t n) (binomial r n (pow r a n))
      ∙ cc (map_binomial n (pow r a n), hom_pow r L s M f H t n, hom_pow r L s M f H a n)

  module _ (inv : A → A) (W : FieldLaws r inv) where
    -- 1 / shift times the shift
    unit_of_shift : (a : A) → (a ≡ r.zero → ⊥) → s.mul (f (inv a)) (f a) ≡ s.one
    unit_of_shift a nz = sym (H.keeps_mul (inv a) a) ∙ (ap f (L.mul_comm (inv a) a ∙ W.mul_inv a nz) ∙ H.keeps_one)

    -- The vanishing polynomial at x is (x / s)^n - 1
    pub vanishing_value : (d : CosetData A) (x : B) → (d.shift ≡ r.zero → ⊥) → eval_poly s (map f (vanishing_polynomial r inv d)) x ≡ sub s (pow s (s.mul (f (inv d.shift)) x) (2 ^ d.log_size)) s.one
    unfolding vanishing_polynomial
    vanishing_value d x nz =
        ap (λ l. eval_poly s l x) (map_scaled_binomial (2 ^ d.log_size) d.shift (inv d.shift))
        ∙ eval_scaled_binomial s M (2 ^ d.log_size) (f d.shift) (f (inv d.shift)) x (unit_of_shift d.shift nz)

    -- The vanishing polynomial is zero where (x / s)^n = 1
    vanishing_root : (d : CosetData A) (x : B) → (d.shift ≡ r.zero → ⊥) → pow s (s.mul (f (inv d.shift)) x) (2 ^ d.log_size) ≡ s.one → eval_poly s (map f (vanishing_polynomial r inv d)) x ≡ s.zero
    vanishing_root d x nz e = vanishing_value d x nz ∙ sub_self s M (pow s (s.mul (f (inv d.shift)) x) (2 ^ d.log_size)) s.one e

    -- (x / s - a) Q = the vanishing polynomial, where Q is s times the vanishing polynomial divided by X -
    -- s a, and a^n = 1
    quotient_value : (d : CosetData A) (a : A) (x : B) → (d.shift ≡ r.zero → ⊥) → pow s (f a) (2 ^ d.log_size) ≡ s.one
        → s.mul (sub s (s.mul (f (inv d.shift)) x) (f a)) (eval_poly s (map f (scale_poly r d.shift (quotient r (vanishing_polynomial r inv d) (r.mul d.shift a)))) x) ≡ eval_poly s (map f (vanishing_polynomial r inv d)) x
    quotient_value d a x nz e =
        let S = f d.shift in let t = f (inv d.shift) in let b = f a in
        let V = map f (vanishing_polynomial r inv d) in
        let p = f (r.mul d.shift a) in
        let q = eval_poly s (quotient s V p) x in
        let mapped : eval_poly s (map f (scale_poly r d.shift (quotient r (vanishing_polynomial r inv d) (r.mul d.shift a)))) x ≡ s.mul S q =
        ap (λ l. eval_poly s l x) (map_scale r L s M f H d.shift (quotient r (vanishing_polynomial r inv d) (r.mul d.shift a)) ∙ ap (scale_poly s S) (map_quotient r L s M f H (vanishing_polynomial r inv d) (r.mul d.shift a)))
        ∙ eval_scale s M S (quotient s V p) x in
        let unit : s.mul t S ≡ s.one = unit_of_shift d.shift nz in
        let at : p ≡ s.mul S b = H.keeps_mul d.shift a in
        let down : s.mul t p ≡ b = cc (at, M.mul_assoc t S b, unit, one_mul s M b) in
        let root : eval_poly s V p ≡ s.zero = vanishing_root d p nz (ap (λ z. pow s z (2 ^ d.log_size)) down ∙ e) in
        let turn : s.mul (sub s (s.mul t x) b) S ≡ sub s x p =
        cc (add_mul s M (s.mul t x) (s.neg b) S, M.mul_comm (s.mul t x) S, M.mul_assoc S t x, M.mul_comm S t, unit, one_mul s M x, neg_mul s M b S, M.mul_comm b S, at) in
        let division : s.mul (sub s x p) q ≡ eval_poly s V x = opening_quotient s M V p x ∙ cc (root, sub_zero_right s M (eval_poly s V x)) in
        ap (s.mul (sub s (s.mul t x) b)) mapped ∙ (sym (M.mul_assoc (sub s (s.mul t x) b) S q) ∙ (ap (λ z. s.mul z q) turn ∙ division))
      where
        sub_zero_right : {B : Type 0} (s : Ring B) (M : RingLaws s) (y : B) → sub s y s.zero ≡ y
        sub_zero_right s M y = cc (M.add_neg s.zero, zero_add s M (s.neg s.zero), M.add_zero y)

    -- (x / s - 1) first = the vanishing polynomial
    pub first_selector_value : (d : CosetData A) (x : B) → (d.shift ≡ r.zero → ⊥)
        → s.mul (sub s (s.mul (f (inv d.shift)) x) s.one) (eval_poly s (map f (first_selector r inv d)) x) ≡ eval_poly s (map f (vanishing_polynomial r inv d)) x
    unfolding first_selector
    first_selector_value d x nz =
        let u = s.mul (f (inv d.shift)) x in
        let full : pow s (f r.one) (2 ^ d.log_size) ≡ s.one = ap (λ z. pow s z (2 ^ d.log_size)) H.keeps_one ∙ one_pow s M (2 ^ d.log_size) in
        let whole = quotient_value d r.one x nz full in
        let one : f r.one ≡ s.one = H.keeps_one in
        let at : r.mul d.shift r.one ≡ d.shift = L.mul_one d.shift in
        cc (whole, one, at)

    -- trans = x / s - 1 / h
    pub transition_selector_value : (root : ℕ → A) (d : CosetData A) (x : B)
        → eval_poly s (map f (transition_selector r inv root d)) x ≡ sub s (s.mul (f (inv d.shift)) x) (f (inv (root d.log_size)))
    unfolding transition_selector
    transition_selector_value root d x =
        let g = f (inv (root d.log_size)) in let t = f (inv d.shift) in
        cc (hom_neg r L s M f H (inv (root d.log_size)), mul_zero s M x, M.add_zero t, M.mul_comm x t, M.add_comm (s.neg g) (s.mul t x))

    module _ (top : ℕ) (root : ℕ → A) (T : TwoAdicLaws r top root) where
      unit_of_root : (k : ℕ) → k ≤ top → r.mul (root k) (inv (root k)) ≡ r.one
      unit_of_root k h = W.mul_inv (root k) (root_not_zero r L inv W (2 ^ k) (root k) (pow_pos k) (two_adic_order r L top root T k h))

      inverse_root_full : (k : ℕ) → k ≤ top → pow r (inv (root k)) (2 ^ k) ≡ r.one
      inverse_root_full k h =
          let G = pow r (inv (root k)) (2 ^ k) in
          let O = two_adic_order r L top root T k h in
          let product : r.mul (pow r (root k) (2 ^ k)) G ≡ r.one = sym (pow_mul r L (root k) (inv (root k)) (2 ^ k)) ∙ (ap (λ z. pow r z (2 ^ k)) (unit_of_root k h) ∙ one_pow r L (2 ^ k)) in
          cc (product, O.full, one_mul r L G)

      -- (x / s - 1 / h) last = the vanishing polynomial
      pub last_selector_value : (d : CosetData A) (x : B) → (d.shift ≡ r.zero → ⊥) → d.log_size ≤ top
          → s.mul (sub s (s.mul (f (inv d.shift)) x) (f (inv (root d.log_size)))) (eval_poly s (map f (last_selector r inv root d)) x) ≡ eval_poly s (map f (vanishing_polynomial r inv d)) x
      unfolding last_selector
      last_selector_value d x nz h =
          quotient_value d (inv (root d.log_size)) x nz
          (sym (hom_pow r L s M f H (inv (root d.log_size)) (2 ^ d.log_size)) ∙ (ap f (inverse_root_full d.log_size h) ∙ H.keeps_one))

      -- the points are roots of the vanishing polynomial
      pub vanishing_polynomial_vanishes : (d : CosetData A) (i : ℕ) → (d.shift ≡ r.zero → ⊥) → d.log_size ≤ top → eval_poly s (map f (vanishing_polynomial r inv d)) (f (point r root d i)) ≡ s.zero
      vanishing_polynomial_vanishes d i nz h =
          let t = f (inv d.shift) in let n = 2 ^ d.log_size in let K = pow r (root d.log_size) i in
          let O = two_adic_order r L top root T d.log_size h in
          let down : s.mul t (f (point r root d i)) ≡ f K = cc (H.keeps_mul d.shift K, M.mul_assoc t (f d.shift) (f K), unit_of_shift d.shift nz, one_mul s M (f K)) in
          let c : i * n ≡ n * i = omega arith in
          let full : pow r K n ≡ r.one = sym (pow_times r L (root d.log_size) i n) ∙ (ap (pow r (root d.log_size)) c ∙ (pow_times r L (root d.log_size) n i ∙ (ap (λ z. pow r z i) O.full ∙ one_pow r L i))) in
          vanishing_root d (f (point r root d i)) nz (ap (λ z. pow s z n) down ∙ (sym (hom_pow r L s M f H K n) ∙ (ap f full ∙ H.keeps_one)))

      -- The vanishing polynomial has no other roots, in the larger ring either
      pub vanishing_only_there : ((x y : B) → (x ≡ y) ⊎ (x ≡ y → ⊥)) → (s.one ≡ s.zero → ⊥) → NoZeroDivisors s → (d : CosetData A) (x : B) → (d.shift ≡ r.zero → ⊥) → d.log_size ≤ top
          → eval_poly s (map f (vanishing_polynomial r inv d)) x ≡ s.zero → (i : ℕ) × (i < 2 ^ d.log_size) × (x ≡ f (point r root d i))
      vanishing_only_there dec one N d x nz h e =
          let n = 2 ^ d.log_size in let t = f (inv d.shift) in let S = f d.shift in
          let O : HasOrder s n (f (root d.log_size)) = hom_order r L s M f H inv W one n (root d.log_size) (two_adic_order r L top root T d.log_size h) in
          let zero : f r.zero ≡ s.zero = H.keeps_zero in
          let shift : S ≡ s.zero → ⊥ = λ z. hom_differs r L s M f H inv W one d.shift r.zero nz (z ∙ sym zero) in
          let full : pow s (s.mul t x) n ≡ s.one = sub_zero s M (pow s (s.mul t x) n) s.one (sym (vanishing_value d x nz) ∙ e) in
          let up : s.mul S (s.mul t x) ≡ x = cc (M.mul_assoc S t x, M.mul_comm S t, unit_of_shift d.shift nz, one_mul s M x) in
          let power : pow s x n ≡ pow s S n = ap (λ z. pow s z n) (sym up) ∙ (pow_mul s M S (s.mul t x) n ∙ (ap (s.mul (pow s S n)) full ∙ M.mul_one (pow s S n))) in
          let found = coset_only s M N dec one n S (f (root d.log_size)) x (pow_pos d.log_size) O shift power in
          (found.0, found.1, found.2 ∙ sym (hom_coset_point r L s M f H d.shift (root d.log_size) found.0))

pub scale_one : {A : Type 0} (r : Ring A) (L : RingLaws r) (g : List A) → scale_poly r r.one g ≡ g
scale_one r L [] = refl
scale_one r L (c ∷ cs) = cc (one_mul r L c, scale_one r L cs)

module _ {A : Type 0} (r : Ring A) (L : RingLaws r) (inv : A → A) (W : FieldLaws r inv) where
  -- X / s - a times s q, where q is the vanishing polynomial divided by X - s a, and a^n = 1
  quotient_divides : (d : CosetData A) (a p : A) → (d.shift ≡ r.zero → ⊥) → p ≡ r.mul d.shift a → pow r a (2 ^ d.log_size) ≡ r.one
      → SamePoly r (mul_poly r (r.neg a ∷ inv d.shift ∷ []) (scale_poly r d.shift (quotient r (vanishing_polynomial r inv d) p))) (vanishing_polynomial r inv d)
  unfolding vanishing_polynomial
  quotient_divides d a p nz at e i =
      let s = d.shift in let t = inv s in let V = vanishing_polynomial r inv d in
      let unit : r.mul t s ≡ r.one = L.mul_comm t s ∙ W.mul_inv s nz in
      let down : r.mul t p ≡ a = cc (at, L.mul_assoc t s a, unit, one_mul r L a) in
      let root : eval_poly r V p ≡ r.zero =
      eval_scaled_binomial r L (2 ^ d.log_size) s t p unit ∙ sub_self r L (pow r (r.mul t p) (2 ^ d.log_size)) r.one (ap (λ z. pow r z (2 ^ d.log_size)) down ∙ e) in
      shifted_linear r L s t a (quotient r V p) unit i
      ∙ (ap (λ z. coeff r (mul_poly r (r.neg z ∷ r.one ∷ []) (quotient r V p)) i) (sym at) ∙ sym (divide_root r L V p root i))

  -- X / s - 1 times the selector of the first row is the vanishing polynomial
  pub first_selector_divides : (d : CosetData A) → (d.shift ≡ r.zero → ⊥)
      → SamePoly r (mul_poly r (r.neg r.one ∷ inv d.shift ∷ []) (first_selector r inv d)) (vanishing_polynomial r inv d)
  unfolding first_selector
  first_selector_divides d nz = quotient_divides d r.one d.shift nz (sym (L.mul_one d.shift)) (one_pow r L (2 ^ d.log_size))

  -- X / s - 1 / h times the selector of the last row is the vanishing polynomial
  pub last_selector_divides : (top : ℕ) (root : ℕ → A) → TwoAdicLaws r top root → (d : CosetData A) → (d.shift ≡ r.zero → ⊥) → d.log_size ≤ top
      → SamePoly r (mul_poly r (transition_selector r inv root d) (last_selector r inv root d)) (vanishing_polynomial r inv d)
  unfolding last_selector transition_selector
  last_selector_divides top root T d nz h =
      let g = inv (root d.log_size) in
      quotient_divides d g (r.mul d.shift g) nz refl (inverse_root_full r L r L (λ x. x) (own_hom r) inv W top root T d.log_size h)
