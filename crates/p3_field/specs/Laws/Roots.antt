-- A polynomial of degree below n has fewer than n roots, unless it is zero; so n values determine it.
use Rattle.std.proofs.Common.{◌≡◌, ℕ, zero, suc, ◌<◌, inl, inr, List, [], ◌∷◌, length, get_or, refl, sym, ◌∙◌, arith}
use Rattle.std.proofs.lemmas.Bool.{cases_lt}
use Rattle.p3_field.specs.Ring.{Ring, RingLaws, sub}
use Rattle.p3_field.specs.Poly.{eval_poly, coeff, DegreeBelow, IsZeroPoly, SamePoly, Apart, quotient, sub_poly}
use Rattle.p3_field.specs.Field.{FieldLaws}
use Rattle.p3_field.specs.Laws.Algebra.{zero_add, one_mul, mul_zero}
use Rattle.p3_field.specs.Laws.Coeffs.{zero_degree, degree_more, degree_sub, degree_length_le, coeff_sub, same_length}
use Rattle.p3_field.specs.Laws.Values.{eval_zero, eval_sub}
use Rattle.p3_field.specs.Laws.Division.{divide, degree_quotient, zero_tail_values}

-- what is not zero may be cancelled
abbrev pub NoZeroDivisors : {A : Type 0} → Ring A → Type 0
NoZeroDivisors {A} r = (x y : A) → (x ≡ r.zero → ⊥) → r.mul x y ≡ r.zero → y ≡ r.zero

-- each of p 0, .., p (n - 1) is a root of f
abbrev pub RootsAt : {A : Type 0} → Ring A → ℕ → (ℕ → A) → List A → Type 0
RootsAt r n p f = (i : ℕ) → i < n → eval_poly r f (p i) ≡ r.zero

module _ {A : Type 0} (r : Ring A) (L : RingLaws r) where
  pub sub_zero : (x y : A) → sub r x y ≡ r.zero → x ≡ y
  sub_zero x y e = cc (e, L.add_assoc x (r.neg y) y, L.add_comm (r.neg y) y, L.add_neg y, L.add_zero x, zero_add r L y)

  pub sub_self : (x y : A) → x ≡ y → sub r x y ≡ r.zero
  sub_self x y e = cc (e, L.add_neg y)

  pub field_no_zero_divisors : (inv : A → A) → FieldLaws r inv → NoZeroDivisors r
  field_no_zero_divisors inv W = λ x y n e.
      cc (e, L.mul_assoc (inv x) x y, L.mul_comm (inv x) x, W.mul_inv x n, one_mul r L y, mul_zero r L (inv x))

  -- a polynomial with the root `a` and the quotient zero is zero
  pub zero_quotient : (f : List A) (a : A) → eval_poly r f a ≡ r.zero → IsZeroPoly r (quotient r f a) → IsZeroPoly r f
  zero_quotient [] a e z i = refl
  zero_quotient (c ∷ cs) a e z zero = cc (e, eval_zero r L cs a (zero_tail_values r L cs a z), mul_zero r L a, L.add_zero c)
  zero_quotient (c ∷ cs) a e z (suc i) = zero_tail_values r L cs a z i

  module _ (N : NoZeroDivisors r) where
    -- a root of f other than `a` is a root of the quotient
    pub quotient_root : (f : List A) (a x : A) → (x ≡ a → ⊥) → eval_poly r f a ≡ r.zero → eval_poly r f x ≡ r.zero → eval_poly r (quotient r f a) x ≡ r.zero
    quotient_root f a x n e h =
        let Q = eval_poly r (quotient r f a) x in
        N (sub r x a) Q (λ z. n (sub_zero x a z)) (cc (divide r L f a x, e, h, L.add_zero (r.mul (sub r x a) Q)))

    pub root_count : (n : ℕ) (p : ℕ → A) (f : List A) → Apart n p → DegreeBelow r n f → RootsAt r n p f → IsZeroPoly r f
    root_count zero p f a d h = zero_degree r L f d
    root_count (suc n) p f a d h =
        let top : eval_poly r f (p n) ≡ r.zero = h n (omega arith) in
        let q : IsZeroPoly r (quotient r f (p n)) =
        root_count n p (quotient r f (p n)) (λ i j k l. a i j k (omega arith)) (degree_quotient r L n f (p n) d)
        (λ i k. quotient_root f (p n) (p i) (a i n k (omega arith)) top (h i (omega arith))) in
        zero_quotient f (p n) top q

    -- a polynomial of degree below m with a coefficient that is not zero has fewer than m roots
    pub few_roots : (n m : ℕ) (p : ℕ → A) (f : List A) → Apart n p → DegreeBelow r m f → RootsAt r n p f → (k : ℕ) → (coeff r f k ≡ r.zero → ⊥) → n < m
    few_roots n m p f a d h k nz = elim (cases_lt n m) [
      | inl t ↦ t
      | inr t ↦ absurd (nz (root_count n p f a (degree_more r L m n f t d) h k))
    ]

    -- the same of a list of roots
    pub few_roots_list : (xs f : List A) → Apart (length xs) (λ i. get_or xs i r.zero) → RootsAt r (length xs) (λ i. get_or xs i r.zero) f
        → (IsZeroPoly r f → ⊥) → length xs < length f
    few_roots_list xs f a h nz = elim (cases_lt (length xs) (length f)) [
      | inl t ↦ t
      | inr t ↦ absurd (nz (root_count (length xs) (λ i. get_or xs i r.zero) f a (degree_length_le r L (length xs) f t) h))
    ]

    -- two polynomials of degree below n that agree at n points are the same
    pub same_values : (n : ℕ) (p : ℕ → A) (f g : List A) → Apart n p → DegreeBelow r n f → DegreeBelow r n g
        → ((i : ℕ) → i < n → eval_poly r f (p i) ≡ eval_poly r g (p i)) → SamePoly r f g
    same_values n p f g a d e h =
        let z : IsZeroPoly r (sub_poly r f g) = root_count n p (sub_poly r f g) a (degree_sub r L n f g d e)
        (λ i k. eval_sub r L f g (p i) ∙ sub_self (eval_poly r f (p i)) (eval_poly r g (p i)) (h i k)) in
        λ i. sub_zero (coeff r f i) (coeff r g i) (sym (coeff_sub r L f g i) ∙ z i)

    pub same_values_list : (n : ℕ) (p : ℕ → A) (f g : List A) → Apart n p → length f ≡ n → length g ≡ n
        → ((i : ℕ) → i < n → eval_poly r f (p i) ≡ eval_poly r g (p i)) → f ≡ g
    same_values_list n p f g a d e h =
        same_length r L f g (d ∙ sym e) (same_values n p f g a (degree_length_le r L n f (omega arith)) (degree_length_le r L n g (omega arith)) h)
