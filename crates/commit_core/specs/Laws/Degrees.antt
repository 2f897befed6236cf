-- Degrees of a domain's polynomials: the vanishing one, the selectors, and the interpolants of columns that repeat.
use Rattle.std.proofs.Common.{◌≡◌, ℕ, zero, suc, ◌+◌, ◌-◌, ◌*◌, ◌/◌, ◌%◌, ◌^◌, ◌<◌, ◌≤◌, inl, inr}
use Rattle.std.proofs.Common.{List, [], ◌∷◌, length, get_or, refl, sym, ◌∙◌, ap, subst, arith}
use Rattle.std.proofs.Math.Nat.{mul_comm, mul-div_cancel_left}
use Rattle.std.proofs.lemmas.Bool.{cases_lt}
use Rattle.std.proofs.lemmas.Nat.{pow-add, pow_pos}
use Rattle.std.proofs.lemmas.Nat.Gcd.{le_of_dvd}
use Rattle.p3_field.specs.Ring.{Ring, RingLaws, pow}
use Rattle.p3_field.specs.Field.{FieldLaws, TwoAdicLaws}
use Rattle.p3_field.specs.Poly.{eval_poly, Apart, DegreeBelow, coeff, quotient, raise}
use Rattle.p3_field.specs.Domain.{CosetData, IsInterpolant, point, vanishing_polynomial, binomial, first_selector, last_selector, transition_selector}
use Rattle.p3_field.specs.Newton.{newton}
use Rattle.p3_field.specs.Laws.Coeffs.{coeff_raise, coeff_raise_below, degree_cons, degree_length_le, degree_more, degree_raise, degree_scale}
use Rattle.p3_field.specs.Laws.Division.{degree_quotient}
use Rattle.p3_field.specs.Laws.Interpolants.{interpolant_exists, interpolant_unique, points_apart}
use Rattle.p3_field.specs.Laws.Own.{own_hom}
use Rattle.p3_field.specs.Laws.Roots.{field_no_zero_divisors}
use Rattle.p3_field.specs.Laws.Binomials.{degree_binomial}
use Rattle.p3_matrix.specs.Laws.Powers.{power_le_cancel}
use Rattle.commit_core.specs.Periodic.{IsPeriod, over_rows}
use Rattle.commit_core.specs.Laws.Repeated.{length_over_rows, periods_points, power_not_zero, spread, spread_interpolates, eval_spread}

module _ {A : Type 0} (r : Ring A) (L : RingLaws r) where
  pub degree_vanishing_polynomial : (inv : A → A) (d : CosetData A) → DegreeBelow r (suc (2 ^ d.log_size)) (vanishing_polynomial r inv d)
  unfolding vanishing_polynomial
  degree_vanishing_polynomial inv d =
      let n = 2 ^ d.log_size in
      degree_scale r L (suc n) (pow r (inv d.shift) n) (binomial r n (pow r d.shift n)) (degree_binomial r L n (pow r d.shift n))

  pub degree_first : (inv : A → A) (d : CosetData A) → DegreeBelow r (2 ^ d.log_size) (first_selector r inv d)
  unfolding first_selector
  degree_first inv d =
      let n = 2 ^ d.log_size in
      degree_scale r L n d.shift (quotient r (vanishing_polynomial r inv d) d.shift) (degree_quotient r L n (vanishing_polynomial r inv d) d.shift (degree_vanishing_polynomial inv d))

  pub degree_last : (inv : A → A) (root : ℕ → A) (d : CosetData A) → DegreeBelow r (2 ^ d.log_size) (last_selector r inv root d)
  unfolding last_selector
  degree_last inv root d =
      let n = 2 ^ d.log_size in
      let p = r.mul d.shift (inv (root d.log_size)) in
      degree_scale r L n d.shift (quotient r (vanishing_polynomial r inv d) p) (degree_quotient r L n (vanishing_polynomial r inv d) p (degree_vanishing_polynomial inv d))

  pub degree_transition : (inv : A → A) (root : ℕ → A) (d : CosetData A) → DegreeBelow r 2 (transition_selector r inv root d)
  unfolding transition_selector
  degree_transition inv root d = degree_length_le r L 2 (r.neg (inv (root d.log_size)) ∷ inv d.shift ∷ []) (omega arith)

  -- the degree of g(X^(j+1))
  pub degree_spread : (j : ℕ) (g : List A) → DegreeBelow r (suc ((length g - 1) * suc j)) (spread r j g)
  degree_spread j [] = λ i k. refl
  degree_spread j (c ∷ []) =
      degree_more r L 1 (suc ((length (c ∷ []) - 1) * suc j)) (c ∷ raise r j []) (omega arith)
      (degree_cons r L 0 c (raise r j []) (λ i k. nothing j i))
    where
      nothing : (j i : ℕ) → coeff r (raise r j []) i ≡ r.zero
      nothing j i = elim (cases_lt i j) [ inl h ↦ coeff_raise_below r L j [] i h | inr h ↦ coeff_raise r L j [] i h ]
  degree_spread j (c ∷ d ∷ cs) =
      let n = suc ((length (d ∷ cs) - 1) * suc j) in
      degree_more r L (suc (j + n)) (suc ((length (c ∷ d ∷ cs) - 1) * suc j)) (spread r j (c ∷ d ∷ cs)) (counted j (length cs))
      (degree_cons r L (j + n) c (raise r j (spread r j (d ∷ cs))) (degree_raise r L j n (spread r j (d ∷ cs)) (degree_spread j (d ∷ cs))))
    where
      counted : (j m : ℕ) → suc (j + suc ((suc m - 1) * suc j)) ≤ suc ((suc (suc m) - 1) * suc j)
      counted j m =
          let a : suc m - 1 ≡ m = omega arith in
          let b : suc (suc m) - 1 ≡ suc m = omega arith in
          let c : suc m * suc j ≡ suc j + m * suc j = omega arith in
          omega (arith, ap (λ z. z * suc j) a, ap (λ z. z * suc j) b, c)

  module _ (inv : A → A) (W : FieldLaws r inv) (top : ℕ) (root : ℕ → A) (T : TwoAdicLaws r top root) where
    -- the points of the period's domain, where a column of 2^k values repeats over 2^(k + a) points of the domain
    abbrev pub period_domain : CosetData A → ℕ → ℕ → CosetData A
    period_domain d k a = record { shift = pow r d.shift (2 ^ a); log_size = k }

    period_apart : (d : CosetData A) (k a : ℕ) → d.log_size ≤ top → (d.shift ≡ r.zero → ⊥) → k + a ≡ d.log_size
        → Apart (2 ^ k) (point r root (period_domain d k a))
    period_apart d k a fits nz sum =
        points_apart r L inv W top root T (period_domain d k a) (omega (arith, sum, fits))
        (power_not_zero r (field_no_zero_divisors r L inv W) W.one_differs d.shift (2 ^ a) nz)

    -- the interpolant of the column is that of the period in X^(2^a)
    spread_whole : (d : CosetData A) (k a j : ℕ) (column f g : List A) → d.log_size ≤ top → (d.shift ≡ r.zero → ⊥) → k + a ≡ d.log_size
        → suc j ≡ 2 ^ a → length column ≡ 2 ^ k → IsInterpolant r (point r root (period_domain d k a)) column g
        → IsInterpolant r (point r root d) (over_rows (2 ^ d.log_size) column) f → spread r j g ≡ f
    spread_whole d k a j column f g fits nz sum steps size G I =
        let n = 2 ^ d.log_size in
        let e = period_domain d k a in
        let pos : 0 < length column = let p : 0 < 2 ^ k = pow_pos k in omega (arith, size, p) in
        let whole : n ≡ suc j * length column =
        ap (λ z. 2 ^ z) (sym sum) ∙ (pow-add 2 k a ∙ (mul_comm (2 ^ k) (2 ^ a) ∙ (λ i. sym steps i * sym size i))) in
        let long : length (over_rows n column) ≡ n = length_over_rows n (suc j) column whole pos in
        let round : (i : ℕ) → i < n → pow r (point r root d i) (suc j) ≡ point r root e (i % length column) =
        λ i h. ap (pow r (point r root d i)) steps
        ∙ (periods_points r L r L (λ x. x) (own_hom r) top root T d e a fits sum refl i ∙ ap (λ m. point r root e (i % m)) (sym size)) in
        interpolant_unique r L inv W (point r root d) (over_rows n column) (spread r j g) f
        (subst (λ m. Apart m (point r root d)) (sym long) (points_apart r L inv W top root T d fits nz))
        (spread_interpolates r L (point r root d) (point r root e) n j column g whole pos round G) I

    -- so its value at x is the period's interpolant's at x^(2^a)
    pub repeated_value : (d : CosetData A) (k : ℕ) (column f g : List A) (x : A) → d.log_size ≤ top → (d.shift ≡ r.zero → ⊥)
        → length column ≡ 2 ^ k → k ≤ d.log_size → IsInterpolant r (point r root (period_domain d k (d.log_size - k))) column g
        → IsInterpolant r (point r root d) (over_rows (2 ^ d.log_size) column) f → eval_poly r f x ≡ eval_poly r g (pow r x (2 ^ (d.log_size - k)))
    repeated_value d k column f g x fits nz size less G I = stepped (2 ^ (d.log_size - k)) refl
      where
        stepped : (m : ℕ) → m ≡ 2 ^ (d.log_size - k) → eval_poly r f x ≡ eval_poly r g (pow r x m)
        stepped zero e = absurd (let p : 0 < 2 ^ (d.log_size - k) = pow_pos (d.log_size - k) in omega (arith, e, p))
        stepped (suc j) e =
            ap (λ h. eval_poly r h x) (sym (spread_whole d k (d.log_size - k) j column f g fits nz (omega (arith, less)) e size G I)) ∙ eval_spread r L j g x

    -- and its degree at most the period's interpolant's times 2^a
    pub repeated_degree : (d : CosetData A) (column f : List A) → d.log_size ≤ top → (d.shift ≡ r.zero → ⊥)
        → IsPeriod (2 ^ d.log_size) (length column) → IsInterpolant r (point r root d) (over_rows (2 ^ d.log_size) column) f
        → DegreeBelow r (suc ((length column - 1) * (2 ^ d.log_size / length column))) f
    repeated_degree d column f fits nz P I =
        let (power, divides) = P in
        let (k, size) = power in
        let n = 2 ^ d.log_size in
        let low : 2 ^ k ≤ n = subst (λ z. z ≤ n) size (le_of_dvd (pow_pos d.log_size) divides) in
        let less : k ≤ d.log_size = power_le_cancel k d.log_size low in
        let a = d.log_size - k in
        let sum : k + a ≡ d.log_size = omega (arith, less) in
        let pos : 0 < length column = let p : 0 < 2 ^ k = pow_pos k in omega (arith, size, p) in
        let whole : n ≡ length column * 2 ^ a = ap (λ z. 2 ^ z) (sym sum) ∙ (pow-add 2 k a ∙ ap (λ z. z * 2 ^ a) (sym size)) in
        let steps : n / length column ≡ 2 ^ a = ap (λ z. z / length column) whole ∙ mul-div_cancel_left (2 ^ a) pos in
        subst (λ z. DegreeBelow r (suc ((length column - 1) * z)) f) (sym steps) (stepped (2 ^ a) k a sum size refl)
      where
        stepped : (m k a : ℕ) → k + a ≡ d.log_size → length column ≡ 2 ^ k → m ≡ 2 ^ a → DegreeBelow r (suc ((length column - 1) * m)) f
        stepped zero k a sum size e = absurd (let p : 0 < 2 ^ a = pow_pos a in omega (arith, e, p))
        stepped (suc j) k a sum size e =
            let q = point r root (period_domain d k a) in
            let G = interpolant_exists r L inv W q column (subst (λ m. Apart m q) (sym size) (period_apart d k a fits nz sum)) in
            let g = newton r inv (length column) q (λ i. get_or column i r.zero) in
            subst (DegreeBelow r (suc ((length column - 1) * suc j))) (spread_whole d k a j column f g fits nz sum e size G I)
            (subst (λ m. DegreeBelow r (suc ((m - 1) * suc j)) (spread r j g)) G.length_is (degree_spread j g))
