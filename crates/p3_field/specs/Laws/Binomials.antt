-- The polynomial X^n - c: its roots on a coset, and division by it.
use Rattle.std.proofs.Common.{◌≡◌, ℕ, zero, suc, ◌+◌, ◌-◌, ◌*◌, ◌≤◌, ◌<◌, ◌⊎◌, inl, inr, List, [], ◌∷◌, length, take, drop, refl, sym, ◌∙◌, ap, arith}
use Rattle.std.proofs.lemmas.Bool.{cases_eq, cases_lt}
use Rattle.p3_field.specs.Domain.{binomial, coset_point}
use Rattle.p3_field.specs.Ring.{Ring, RingLaws, pow, sub}
use Rattle.p3_field.specs.Poly.{eval_poly, coeff, DegreeBelow, IsZeroPoly, SamePoly, Apart, add_poly, scale_poly, sub_poly, raise}
use Rattle.p3_field.specs.Laws.Algebra.{zero_add, mul_zero, zero_mul, add_mul, neg_mul, neg_zero}
use Rattle.p3_field.specs.Laws.Order.{one_pow, pow_times}
use Rattle.p3_field.specs.Laws.Solver.{expressions, var, solve}
use Rattle.p3_field.specs.Laws.Coeffs.{coeff_add, coeff_scale, coeff_sub, coeff_raise, coeff_raise_below, coeff_take, coeff_take_past, coeff_drop, degree_add, degree_scale, degree_more, degree_length, degree_length_le, degree_raise}
use Rattle.p3_field.specs.Laws.Values.{eval_add, eval_scale, eval_sub, eval_raise, eval_same}
use Rattle.p3_field.specs.Laws.Roots.{NoZeroDivisors, RootsAt, sub_self, root_count}
use Rattle.p3_field.specs.Laws.Coset.{HasOrder, coset_apart, pow_mul}

-- (X^n - c) q
abbrev pub times_binomial : {A : Type 0} → Ring A → ℕ → A → List A → List A
times_binomial r n c q = sub_poly r (raise r n q) (scale_poly r c q)

-- f modulo X^n - c, for f of at most k blocks of n coefficients
abbrev pub block_remainder : {A : Type 0} → Ring A → ℕ → A → ℕ → List A → List A
block_remainder r n c zero f = []
block_remainder r n c (suc k) f = add_poly r (take n f) (scale_poly r c (block_remainder r n c k (drop n f)))

-- the quotient of such an f by X^n - c
abbrev pub block_quotient : {A : Type 0} → Ring A → ℕ → A → ℕ → List A → List A
block_quotient r n c zero f = []
block_quotient r n c (suc k) f = add_poly r (block_remainder r n c k (drop n f)) (raise r n (block_quotient r n c k (drop n f)))

abbrev pub quotient_by_binomial : {A : Type 0} → Ring A → ℕ → A → List A → List A
quotient_by_binomial r n c f = block_quotient r n c (length f) f

abbrev pub remainder_by_binomial : {A : Type 0} → Ring A → ℕ → A → List A → List A
remainder_by_binomial r n c f = block_remainder r n c (length f) f

-- `x`, then p 0, p 1, ..
abbrev first_then : {A : Type 0} → A → (ℕ → A) → ℕ → A
first_then x p zero = x
first_then x p (suc i) = p i

-- the two sides at a place below n, and at a place from n on
abbrev low_left : {A : Type 0} → Ring A → A → A → A → A
low_left r c f u = r.add (sub r r.zero (r.mul c (r.add u r.zero))) (r.add f (r.mul c u))

abbrev high_left : {A : Type 0} → Ring A → A → A → A → A → A → A
high_left r c u v y z = r.add (sub r (r.add u v) (r.mul c (r.add y z))) (r.add r.zero (r.mul c y))

abbrev high_right : {A : Type 0} → Ring A → A → A → A → A → A
high_right r c u v z = r.add (sub r v (r.mul c z)) u

module _ {A : Type 0} (r : Ring A) (L : RingLaws r) where
  pub eval_binomial : (n : ℕ) (c x : A) → eval_poly r (binomial r n c) x ≡ sub r (pow r x n) c
  eval_binomial n c x =
      let P = pow r x n in
      cc (
        eval_add r L (r.neg c ∷ []) (raise r n (r.one ∷ [])) x,
        eval_raise r L n (r.one ∷ []) x,
        mul_zero r L x,
        L.add_zero (r.neg c),
        L.add_zero r.one,
        L.mul_one P,
        L.add_comm P (r.neg c),
      )

  pub eval_times_binomial : (n : ℕ) (c : A) (q : List A) (x : A) → eval_poly r (times_binomial r n c q) x ≡ r.mul (sub r (pow r x n) c) (eval_poly r q x)
  eval_times_binomial n c q x =
      let P = pow r x n in let Q = eval_poly r q x in
      cc (eval_sub r L (raise r n q) (scale_poly r c q) x, eval_raise r L n q x, eval_scale r L c q x, add_mul r L P (r.neg c) Q, neg_mul r L c Q)

  pub degree_binomial : (n : ℕ) (c : A) → DegreeBelow r (suc n) (binomial r n c)
  degree_binomial n c =
      degree_add r L (suc n) (r.neg c ∷ []) (raise r n (r.one ∷ []))
      (degree_length_le r L (suc n) (r.neg c ∷ []) (omega arith))
      (degree_more r L (n + 1) (suc n) (raise r n (r.one ∷ [])) (omega arith) (degree_raise r L n 1 (r.one ∷ []) (degree_length r L (r.one ∷ []))))

  pub top_binomial : (n : ℕ) (c : A) → 0 < n → coeff r (binomial r n c) n ≡ r.one
  top_binomial zero c h = absurd (omega arith)
  top_binomial (suc n) c h =
      let V = r.one ∷ [] in
      let z : zero ≡ suc n - suc n = omega arith in
      let top : coeff r (raise r (suc n) V) (suc n) ≡ r.one = coeff_raise r L (suc n) V (suc n) (omega arith) ∙ ap (coeff r V) (sym z) in
      coeff_add r L (r.neg c ∷ []) (raise r (suc n) V) (suc n) ∙ (ap (r.add r.zero) top ∙ zero_add r L r.one)

  -- the points of the coset are roots
  pub coset_point_power : (n : ℕ) (s h : A) (i : ℕ) → HasOrder r n h → pow r (coset_point r s h i) n ≡ pow r s n
  coset_point_power n s h i O =
      let H = pow r (pow r h i) n in
      let full : H ≡ r.one = sym (pow_times r L h i n) ∙ (let c : i * n ≡ n * i = omega arith in ap (pow r h) c ∙ (pow_times r L h n i ∙ (ap (λ v. pow r v i) O.full ∙ one_pow r L i))) in
      cc (pow_mul r L s (pow r h i) n, full, L.mul_one (pow r s n))

  pub coset_vanishes : (n : ℕ) (s h : A) (i : ℕ) → HasOrder r n h → eval_poly r (binomial r n (pow r s n)) (coset_point r s h i) ≡ r.zero
  coset_vanishes n s h i O =
      eval_binomial n (pow r s n) (coset_point r s h i) ∙ sub_self r L (pow r (coset_point r s h i) n) (pow r s n) (coset_point_power n s h i O)

  -- either x is one of the n points, or it differs from each
  find_point : ((x y : A) → (x ≡ y) ⊎ (x ≡ y → ⊥)) → (n : ℕ) (p : ℕ → A) (x : A) → ((i : ℕ) × (i < n) × (x ≡ p i)) ⊎ ((i : ℕ) → i < n → x ≡ p i → ⊥)
  find_point dec zero p x = inr (λ i h e. omega arith)
  find_point dec (suc n) p x = elim (dec x (p n)) [
    | inl e ↦ inl (n, omega arith, e)
    | inr d ↦ elim (find_point dec n p x) [
      | inl t ↦ inl (t.0, omega arith, t.2)
      | inr a ↦ inr (λ i h e. elim (cases_eq i n) [
        | inl s ↦ d (e ∙ ap p s)
        | inr s ↦ a i (omega arith) e
      ])
    ]
  ]

  low_side : (c f u : A) → low_left r c f u ≡ f
  low_side c f u = solve r L (c ∷ f ∷ u ∷ []) (low_left expressions (var 0) (var 1) (var 2)) (var 1) refl

  high_side : (c u v y z : A) → high_left r c u v y z ≡ high_right r c u v z
  high_side c u v y z = solve r L (c ∷ u ∷ v ∷ y ∷ z ∷ [])
      (high_left expressions (var 0) (var 1) (var 2) (var 3) (var 4)) (high_right expressions (var 0) (var 1) (var 2) (var 4)) refl

  coeff_times_binomial : (n : ℕ) (c : A) (q : List A) (i : ℕ) → coeff r (times_binomial r n c q) i ≡ sub r (coeff r (raise r n q) i) (r.mul c (coeff r q i))
  coeff_times_binomial n c q i = coeff_sub r L (raise r n q) (scale_poly r c q) i ∙ ap (sub r (coeff r (raise r n q) i)) (coeff_scale r L c q i)

  -- one block more: `R` and `Q` for the rest of f after its first block
  divide_low : (n : ℕ) (c : A) (f R Q : List A) (i : ℕ) → i < n
      → r.add (coeff r (times_binomial r n c (add_poly r R (raise r n Q))) i) (coeff r (add_poly r (take n f) (scale_poly r c R)) i) ≡ coeff r f i
  divide_low n c f R Q i h =
      let q = add_poly r R (raise r n Q) in
      cc (
        coeff_times_binomial n c q i,
        coeff_raise_below r L n q i h,
        coeff_add r L R (raise r n Q) i,
        coeff_raise_below r L n Q i h,
        coeff_add r L (take n f) (scale_poly r c R) i,
        coeff_take r L n f i h,
        coeff_scale r L c R i,
        low_side c (coeff r f i) (coeff r R i),
      )

  divide_high : (n : ℕ) (c : A) (f R Q : List A) (i : ℕ) → n ≤ i
      → coeff r (drop n f) (i - n) ≡ r.add (coeff r (times_binomial r n c Q) (i - n)) (coeff r R (i - n))
      → r.add (coeff r (times_binomial r n c (add_poly r R (raise r n Q))) i) (coeff r (add_poly r (take n f) (scale_poly r c R)) i) ≡ coeff r f i
  divide_high n c f R Q i h e =
      let q = add_poly r R (raise r n Q) in
      let j = i - n in
      let k : n + j ≡ i = omega arith in
      let d : coeff r (drop n f) j ≡ coeff r f i = coeff_drop r L n f j ∙ ap (coeff r f) k in
      cc (
        d,
        e,
        coeff_times_binomial n c Q j,
        coeff_times_binomial n c q i,
        coeff_raise r L n q i h,
        coeff_add r L R (raise r n Q) j,
        coeff_add r L R (raise r n Q) i,
        coeff_raise r L n Q i h,
        coeff_add r L (take n f) (scale_poly r c R) i,
        coeff_take_past r L n f i h,
        coeff_scale r L c R i,
        high_side c (coeff r R j) (coeff r (raise r n Q) j) (coeff r R i) (coeff r Q j),
      )

  coeff_raise_empty : (n i : ℕ) → coeff r (raise r n []) i ≡ r.zero
  coeff_raise_empty n i = elim (cases_lt i n) [ inl h ↦ coeff_raise_below r L n [] i h | inr h ↦ coeff_raise r L n [] i h ]

  pub divide_by_blocks : (n : ℕ) (c : A) (k : ℕ) (f : List A) → DegreeBelow r (k * n) f
      → SamePoly r f (add_poly r (times_binomial r n c (block_quotient r n c k f)) (block_remainder r n c k f))
  divide_by_blocks n c zero f d i =
      cc (
        d i (omega arith),
        coeff_add r L (times_binomial r n c []) [] i,
        coeff_times_binomial n c [] i,
        coeff_raise_empty n i,
        mul_zero r L c,
        neg_zero r L,
        L.add_zero r.zero,
      )
  divide_by_blocks n c (suc k) f d i =
      let g = drop n f in
      let Q = block_quotient r n c k g in let R = block_remainder r n c k g in
      let q = add_poly r R (raise r n Q) in let m = add_poly r (take n f) (scale_poly r c R) in
      let low : DegreeBelow r (k * n) g = λ j h. coeff_drop r L n f j ∙ d (n + j) (omega arith) in
      let rest : (j : ℕ) → coeff r g j ≡ r.add (coeff r (times_binomial r n c Q) j) (coeff r R j) =
      λ j. divide_by_blocks n c k g low j ∙ coeff_add r L (times_binomial r n c Q) R j in
      sym (coeff_add r L (times_binomial r n c q) m i ∙ (elim (cases_lt i n) [
        | inl h ↦ divide_low n c f R Q i h
        | inr h ↦ divide_high n c f R Q i h (rest (i - n))
      ]))

  pub degree_remainder : (n : ℕ) (c : A) (k : ℕ) (f : List A) → DegreeBelow r n (block_remainder r n c k f)
  degree_remainder n c zero f = λ i h. refl
  degree_remainder n c (suc k) f =
      let R = block_remainder r n c k (drop n f) in
      degree_add r L n (take n f) (scale_poly r c R) (λ i h. coeff_take_past r L n f i h) (degree_scale r L n c R (degree_remainder n c k (drop n f)))

  degree_drop : (n m : ℕ) (f : List A) → DegreeBelow r m f → DegreeBelow r (m - n) (drop n f)
  degree_drop n m f d = λ i h. coeff_drop r L n f i ∙ d (n + i) (omega arith)

  degree_take : (n m : ℕ) (f : List A) → DegreeBelow r m f → DegreeBelow r m (take n f)
  degree_take n m f d = λ i h. elim (cases_lt i n) [
    | inl a ↦ coeff_take r L n f i a ∙ d i h
    | inr a ↦ coeff_take_past r L n f i a
  ]

  remainder_keeps : (n m : ℕ) (c : A) (k : ℕ) (f : List A) → DegreeBelow r m f → DegreeBelow r m (block_remainder r n c k f)
  remainder_keeps n m c zero f d = λ i h. refl
  remainder_keeps n m c (suc k) f d =
      let R = block_remainder r n c k (drop n f) in
      degree_add r L m (take n f) (scale_poly r c R) (degree_take n m f d)
      (degree_scale r L m c R (degree_more r L (m - n) m R (omega arith) (remainder_keeps n (m - n) c k (drop n f) (degree_drop n m f d))))

  raise_lower : (n m : ℕ) (f : List A) → DegreeBelow r (m - n) f → DegreeBelow r m (raise r n f)
  raise_lower n m f d = λ i h. elim (cases_lt i n) [
    | inl a ↦ coeff_raise_below r L n f i a
    | inr a ↦ coeff_raise r L n f i a ∙ d (i - n) (omega arith)
  ]

  pub degree_block_quotient : (n m : ℕ) (c : A) (k : ℕ) (f : List A) → DegreeBelow r m f → DegreeBelow r (m - n) (block_quotient r n c k f)
  degree_block_quotient n m c zero f d = λ i h. refl
  degree_block_quotient n m c (suc k) f d =
      let g = drop n f in
      let R = block_remainder r n c k g in let Q = block_quotient r n c k g in
      let e : DegreeBelow r (m - n) g = degree_drop n m f d in
      degree_add r L (m - n) R (raise r n Q) (remainder_keeps n (m - n) c k g e) (raise_lower n (m - n) Q (degree_block_quotient n (m - n) c k g e))

  enough_blocks : (n : ℕ) (f : List A) → 0 < n → DegreeBelow r (length f * n) f
  enough_blocks zero f h = absurd (omega arith)
  enough_blocks (suc n) f h = degree_length_le r L (length f * suc n) f (omega arith)

  -- f = (X^n - c) q + m, coefficient by coefficient
  pub divide_by_binomial : (n : ℕ) (c : A) (f : List A) → 0 < n
      → SamePoly r f (add_poly r (times_binomial r n c (quotient_by_binomial r n c f)) (remainder_by_binomial r n c f))
  divide_by_binomial n c f h = divide_by_blocks n c (length f) f (enough_blocks n f h)

  pub degree_quotient_by_binomial : (n m : ℕ) (c : A) (f : List A) → DegreeBelow r m f → DegreeBelow r (m - n) (quotient_by_binomial r n c f)
  degree_quotient_by_binomial n m c f d = degree_block_quotient n m c (length f) f d

  -- f(x) = (x^n - c) q(x) + m(x)
  pub divide_by_binomial_value : (n : ℕ) (c : A) (f : List A) (x : A) → 0 < n
      → eval_poly r f x ≡ r.add (r.mul (sub r (pow r x n) c) (eval_poly r (quotient_by_binomial r n c f) x)) (eval_poly r (remainder_by_binomial r n c f) x)
  divide_by_binomial_value n c f x h =
      let q = quotient_by_binomial r n c f in let m = remainder_by_binomial r n c f in let T = times_binomial r n c q in
      eval_same r L f (add_poly r T m) x (divide_by_binomial n c f h)
      ∙ (eval_add r L T m x ∙ ap (λ v. r.add v (eval_poly r m x)) (eval_times_binomial n c q x))

  remainder_root : (n : ℕ) (c : A) (f : List A) (x : A) → 0 < n → pow r x n ≡ c → eval_poly r f x ≡ r.zero → eval_poly r (remainder_by_binomial r n c f) x ≡ r.zero
  remainder_root n c f x h e z =
      let M = eval_poly r (remainder_by_binomial r n c f) x in let Q = eval_poly r (quotient_by_binomial r n c f) x in
      cc (divide_by_binomial_value n c f x h, sub_self r L (pow r x n) c e, zero_mul r L Q, zero_add r L M, z)

  module _ (N : NoZeroDivisors r) where
    -- a polynomial that is zero at n points with x^n = c is X^n - c times the quotient
    pub binomial_divides : (n : ℕ) (c : A) (p : ℕ → A) (f : List A) → 0 < n → Apart n p → ((i : ℕ) → i < n → pow r (p i) n ≡ c) → RootsAt r n p f
        → SamePoly r f (times_binomial r n c (quotient_by_binomial r n c f))
    binomial_divides n c p f h a e roots =
        let q = quotient_by_binomial r n c f in let m = remainder_by_binomial r n c f in
        let T = times_binomial r n c q in
        let zero_m : IsZeroPoly r m = root_count r L N n p m a (degree_remainder n c (length f) f)
        (λ i k. remainder_root n c f (p i) h (e i k) (roots i k)) in
        λ i. cc (divide_by_binomial n c f h i, coeff_add r L T m i, zero_m i, L.add_zero (coeff r T i))

    -- the points of the coset are the only x with x^n = s^n
    pub coset_only : ((x y : A) → (x ≡ y) ⊎ (x ≡ y → ⊥)) → (r.one ≡ r.zero → ⊥) → (n : ℕ) (s h x : A) → 0 < n → HasOrder r n h → (s ≡ r.zero → ⊥)
        → pow r x n ≡ pow r s n → (i : ℕ) × (i < n) × (x ≡ coset_point r s h i)
    coset_only dec one n s h x pos O nz e =
        let p = coset_point r s h in
        let V = binomial r n (pow r s n) in
        elim (find_point dec n p x) [
          | inl t ↦ t
          | inr d ↦ absurd (one (sym (top_binomial n (pow r s n) pos) ∙ root_count r L N (suc n) (first_then x p) V (apart n x p d (coset_apart r L N n s h O nz)) (degree_binomial n (pow r s n))
              (λ i k. all_roots n x s h V (eval_binomial n (pow r s n) x ∙ sub_self r L (pow r x n) (pow r s n) e) (λ j. coset_vanishes n s h j O) i) n))
        ]
      where
        apart : (n : ℕ) (x : A) (p : ℕ → A) → ((i : ℕ) → i < n → x ≡ p i → ⊥) → Apart n p → Apart (suc n) (first_then x p)
        apart n x p d a zero zero h k e = omega arith
        apart n x p d a zero (suc j) h k e = d j (omega arith) e
        apart n x p d a (suc i) zero h k e = omega arith
        apart n x p d a (suc i) (suc j) h k e = a i j (omega arith) (omega arith) e

        all_roots : (n : ℕ) (x s h : A) (V : List A) → eval_poly r V x ≡ r.zero → ((j : ℕ) → eval_poly r V (coset_point r s h j) ≡ r.zero)
            → (i : ℕ) → eval_poly r V (first_then x (coset_point r s h) i) ≡ r.zero
        all_roots n x s h V e f zero = e
        all_roots n x s h V e f (suc j) = f j

    -- so a polynomial that is zero on the coset is a multiple of X^n - s^n
    pub coset_divides : (n : ℕ) (s h : A) (f : List A) → 0 < n → HasOrder r n h → (s ≡ r.zero → ⊥) → RootsAt r n (coset_point r s h) f
        → SamePoly r f (times_binomial r n (pow r s n) (quotient_by_binomial r n (pow r s n) f))
    coset_divides n s h f pos O nz roots =
        binomial_divides n (pow r s n) (coset_point r s h) f pos (coset_apart r L N n s h O nz) (λ i k. coset_point_power n s h i O) roots
