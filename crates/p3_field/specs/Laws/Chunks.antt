-- A polynomial of degree below k n from its remainders on k cosets of n points.
use Rattle.std.proofs.Common.{◌≡◌, ◌≢◌, ℕ, zero, suc, ◌+◌, ◌-◌, ◌*◌, ◌/◌, ◌%◌, ◌<◌, inl, inr, List, [], ◌∷◌, refl, sym, ◌∙◌, ap, arith}
use Rattle.std.proofs.Math.Nat.{div-lt_iff_lt-mul, div-add-mod}
use Rattle.std.proofs.lemmas.Bool.{cases_eq, cases_lt}
use Rattle.p3_field.specs.Ring.{Ring, RingLaws, pow, sub}
use Rattle.p3_field.specs.Poly.{eval_poly, DegreeBelow, SamePoly, Apart, add_poly, scale_poly, mul_poly, raise, total, sum_polys}
use Rattle.p3_field.specs.Laws.Algebra.{one_mul, mul_zero, zero_mul}
use Rattle.p3_field.specs.Laws.Coeffs.{degree_add, degree_sub, degree_scale, degree_mul, degree_more, degree_raise, degree_length}
use Rattle.p3_field.specs.Laws.Values.{eval_add, eval_scale, eval_mul}
use Rattle.p3_field.specs.Laws.Sums.{total_only, total_same}
use Rattle.p3_field.specs.Laws.Roots.{NoZeroDivisors, sub_self, same_values}
use Rattle.p3_field.specs.Laws.Binomials.{times_binomial, eval_times_binomial}

-- (y - c 0) .. (y - c (m - 1))
abbrev pub factors : {A : Type 0} → Ring A → ℕ → (ℕ → A) → A → A
factors r zero c y = r.one
factors r (suc m) c y = r.mul (sub r y (c m)) (factors r m c y)

-- the product of y - c l over l < k but for l = j
abbrev pub others : {A : Type 0} → Ring A → ℕ → ℕ → (ℕ → A) → A → A
others r k j c y = r.mul (factors r j c y) (factors r (k - suc j) (λ l. c (suc j + l)) y)

-- these at y = X^n
abbrev pub factors_poly : {A : Type 0} → Ring A → ℕ → ℕ → (ℕ → A) → List A
factors_poly r n zero c = r.one ∷ []
factors_poly r n (suc m) c = times_binomial r n (c m) (factors_poly r n m c)

abbrev pub others_poly : {A : Type 0} → Ring A → ℕ → ℕ → ℕ → (ℕ → A) → List A
others_poly r n k j c = mul_poly r (factors_poly r n j c) (factors_poly r n (k - suc j) (λ l. c (suc j + l)))

-- the sum of e j (others j) (q j): what has the remainders q j, where e j is 1 / (others j at c j)
abbrev pub recomposed : {A : Type 0} → Ring A → ℕ → ℕ → (ℕ → A) → (ℕ → A) → (ℕ → List A) → List A
recomposed r n k c e q = sum_polys r k (λ j. scale_poly r (e j) (mul_poly r (q j) (others_poly r n k j c)))

-- point m of k rows of n points
abbrev row_point : {A : Type 0} → ℕ → (ℕ → ℕ → A) → ℕ → A
row_point n p m = p (m / n) (m % n)

module _ {A : Type 0} (r : Ring A) (L : RingLaws r) where
  pub eval_sum_polys : (k : ℕ) (t : ℕ → List A) (x : A) → eval_poly r (sum_polys r k t) x ≡ total r k (λ j. eval_poly r (t j) x)
  eval_sum_polys zero t x = refl
  eval_sum_polys (suc k) t x = eval_add r L (t zero) (sum_polys r k (λ j. t (suc j))) x ∙ ap (r.add (eval_poly r (t zero) x)) (eval_sum_polys k (λ j. t (suc j)) x)

  pub degree_sum_polys : (k n : ℕ) (t : ℕ → List A) → ((j : ℕ) → j < k → DegreeBelow r n (t j)) → DegreeBelow r n (sum_polys r k t)
  degree_sum_polys zero n t d = λ i h. refl
  degree_sum_polys (suc k) n t d =
      degree_add r L n (t zero) (sum_polys r k (λ j. t (suc j))) (d zero (omega arith)) (degree_sum_polys k n (λ j. t (suc j)) (λ j h. d (suc j) (omega arith)))

  eval_factors_poly : (n m : ℕ) (c : ℕ → A) (x : A) → eval_poly r (factors_poly r n m c) x ≡ factors r m c (pow r x n)
  eval_factors_poly n zero c x = cc (mul_zero r L x, L.add_zero r.one)
  eval_factors_poly n (suc m) c x =
      eval_times_binomial r L n (c m) (factors_poly r n m c) x ∙ ap (r.mul (sub r (pow r x n) (c m))) (eval_factors_poly n m c x)

  eval_others_poly : (n k j : ℕ) (c : ℕ → A) (x : A) → eval_poly r (others_poly r n k j c) x ≡ others r k j c (pow r x n)
  eval_others_poly n k j c x =
      let d : ℕ → A = λ l. c (suc j + l) in
      eval_mul r L (factors_poly r n j c) (factors_poly r n (k - suc j) d) x ∙ cc (eval_factors_poly n j c x, eval_factors_poly n (k - suc j) d x)

  degree_factors_poly : (n m : ℕ) (c : ℕ → A) → DegreeBelow r (suc (m * n)) (factors_poly r n m c)
  degree_factors_poly n zero c = degree_more r L 1 (suc (zero * n)) (r.one ∷ []) (omega arith) (degree_length r L (r.one ∷ []))
  degree_factors_poly n (suc m) c =
      let g = factors_poly r n m c in
      let d : DegreeBelow r (suc (m * n)) g = degree_factors_poly n m c in
      degree_sub r L (suc (suc m * n)) (raise r n g) (scale_poly r (c m) g)
      (degree_more r L (n + suc (m * n)) (suc (suc m * n)) (raise r n g) (omega arith) (degree_raise r L n (suc (m * n)) g d))
      (degree_more r L (suc (m * n)) (suc (suc m * n)) (scale_poly r (c m) g) (omega arith) (degree_scale r L (suc (m * n)) (c m) g d))

  -- a polynomial of degree below n times the others
  degree_chunk : (n k j : ℕ) (c : ℕ → A) (f : List A) → j < k → DegreeBelow r n f → DegreeBelow r (k * n) (mul_poly r f (others_poly r n k j c))
  degree_chunk n k j c f h d =
      let a = k - suc j in
      let e : k ≡ j + suc a = omega arith in
      let u : k * n ≡ (j + suc a) * n = ap (λ z. z * n) e in
      let v : (j + suc a) * n ≡ n + (j * n + a * n) = omega arith in
      let g = others_poly r n k j c in
      let dg : DegreeBelow r (suc (j * n + a * n)) g =
      degree_more r L (suc (j * n) + a * n) (suc (j * n + a * n)) g (omega arith)
      (degree_mul r L (suc (j * n)) (a * n) (factors_poly r n j c) (factors_poly r n a (λ l. c (suc j + l))) (degree_factors_poly n j c) (degree_factors_poly n a (λ l. c (suc j + l)))) in
      degree_more r L (n + (j * n + a * n)) (k * n) (mul_poly r f g) (omega (arith, u, v)) (degree_mul r L n (j * n + a * n) f g d dg)

  factors_zero : (m : ℕ) (c : ℕ → A) (y : A) (l : ℕ) → l < m → y ≡ c l → factors r m c y ≡ r.zero
  factors_zero zero c y l h e = absurd (omega arith)
  factors_zero (suc m) c y l h e = elim (cases_eq l m) [
    | inl s ↦ ap (λ w. r.mul w (factors r m c y)) (sub_self r L y (c m) (e ∙ ap c s)) ∙ zero_mul r L (factors r m c y)
    | inr s ↦ ap (r.mul (sub r y (c m))) (factors_zero m c y l (omega arith) e) ∙ mul_zero r L (sub r y (c m))
  ]

  others_zero : (k j : ℕ) (c : ℕ → A) (y : A) (l : ℕ) → l < k → l ≢ j → y ≡ c l → others r k j c y ≡ r.zero
  others_zero k j c y l h d e =
      let F = factors r j c y in let b : ℕ → A = λ i. c (suc j + i) in let G = factors r (k - suc j) b y in
      elim (cases_lt l j) [
        | inl a ↦ ap (λ w. r.mul w G) (factors_zero j c y l a e) ∙ zero_mul r L G
        | inr a ↦
            let i : l ≡ suc j + (l - suc j) = omega arith in
            ap (r.mul F) (factors_zero (k - suc j) b y (l - suc j) (omega arith) (e ∙ ap c i)) ∙ mul_zero r L F
      ]

  pub recomposed_value : (n k : ℕ) (c e : ℕ → A) (q : ℕ → List A) (x : A)
      → eval_poly r (recomposed r n k c e q) x ≡ total r k (λ j. r.mul (e j) (r.mul (eval_poly r (q j) x) (others r k j c (pow r x n))))
  recomposed_value n k c e q x =
      eval_sum_polys k (λ j. scale_poly r (e j) (mul_poly r (q j) (others_poly r n k j c))) x
      ∙ total_same r L k (λ j. eval_poly r (scale_poly r (e j) (mul_poly r (q j) (others_poly r n k j c))) x) (λ j. r.mul (e j) (r.mul (eval_poly r (q j) x) (others r k j c (pow r x n))))
      (λ j h. cc (eval_scale r L (e j) (mul_poly r (q j) (others_poly r n k j c)) x, eval_mul r L (q j) (others_poly r n k j c) x, eval_others_poly n k j c x))

  -- on coset j it has the values of q j
  pub recomposed_on_coset : (n k : ℕ) (c e : ℕ → A) (q : ℕ → List A) (j : ℕ) (x : A) → j < k → pow r x n ≡ c j → r.mul (e j) (others r k j c (c j)) ≡ r.one
      → eval_poly r (recomposed r n k c e q) x ≡ eval_poly r (q j) x
  recomposed_on_coset n k c e q j x h at unit =
      let Q = eval_poly r (q j) x in let O = others r k j c (c j) in
      let t : ℕ → A = λ i. r.mul (e i) (r.mul (eval_poly r (q i) x) (others r k i c (pow r x n))) in
      let other : (i : ℕ) → i < k → i ≢ j → t i ≡ r.zero =
      λ i a d. cc (others_zero k i c (pow r x n) j h (λ z. d (sym z)) at, mul_zero r L (eval_poly r (q i) x), mul_zero r L (e i)) in
      let own : others r k j c (pow r x n) ≡ O = ap (others r k j c) at in
      recomposed_value n k c e q x ∙ (total_only r L k j t h other
      ∙ cc (own, L.mul_comm Q O, L.mul_assoc (e j) O Q, unit, one_mul r L Q))

  -- rows of points on different cosets are all apart
  rows_apart : (n k : ℕ) (c : ℕ → A) (p : ℕ → ℕ → A) → 0 < n → Apart k c → ((j : ℕ) → j < k → Apart n (p j)) → ((j i : ℕ) → j < k → i < n → pow r (p j i) n ≡ c j)
      → Apart (k * n) (row_point n p)
  rows_apart n k c p pos apart own at i j a b e =
      let I = i / n in let J = j / n in
      let di : n * I + i % n ≡ i = div-add-mod i n in
      let dj : n * J + j % n ≡ j = div-add-mod j n in
      let ri : i % n < n = omega arith in
      let rj : j % n < n = omega arith in
      let Jk : J < k = (div-lt_iff_lt-mul pos).1 b in
      let Ik : I < k = (div-lt_iff_lt-mul pos).1 (omega arith) in
      let same : c I ≡ c J = sym (at I (i % n) Ik ri) ∙ (ap (λ w. pow r w n) e ∙ at J (j % n) Jk rj) in
      elim (cases_eq I J) [
        | inl s ↦
            let less : i % n < j % n = omega (arith, ap (λ z. n * z) s, di, dj, a) in
            own J Jk (i % n) (j % n) less rj (ap (λ z. p z (i % n)) (sym s) ∙ e)
        | inr d ↦ elim (cases_lt I J) [
          | inl l ↦ apart I J l Jk same
          | inr l ↦ apart J I (omega arith) Ik (sym same)
        ]
      ]

  module _ (N : NoZeroDivisors r) where
    -- a polynomial is recomposed from those of degree below n that agree with it on each coset
    pub chunks_recompose : (n k : ℕ) (c e : ℕ → A) (p : ℕ → ℕ → A) (f : List A) (q : ℕ → List A) → 0 < n → Apart k c → ((j : ℕ) → j < k → Apart n (p j))
        → ((j i : ℕ) → j < k → i < n → pow r (p j i) n ≡ c j) → ((j : ℕ) → j < k → r.mul (e j) (others r k j c (c j)) ≡ r.one)
        → DegreeBelow r (k * n) f → ((j : ℕ) → j < k → DegreeBelow r n (q j)) → ((j i : ℕ) → j < k → i < n → eval_poly r (q j) (p j i) ≡ eval_poly r f (p j i))
        → SamePoly r f (recomposed r n k c e q)
    chunks_recompose n k c e p f q pos apart own at unit df dq agree =
        let g = recomposed r n k c e q in
        let dg : DegreeBelow r (k * n) g = degree_sum_polys k (k * n) (λ j. scale_poly r (e j) (mul_poly r (q j) (others_poly r n k j c)))
        (λ j h. degree_scale r L (k * n) (e j) (mul_poly r (q j) (others_poly r n k j c)) (degree_chunk n k j c (q j) h (dq j h))) in
        same_values r L N (k * n) (row_point n p) f g (rows_apart n k c p pos apart own at) df dg
        (λ m h.
        let J = m / n in let i = m % n in
        let Jk : J < k = (div-lt_iff_lt-mul pos).1 h in
        let ri : i < n = omega arith in
        sym (recomposed_on_coset n k c e q J (p J i) Jk (at J i Jk ri) (unit J Jk) ∙ agree J i Jk ri))
