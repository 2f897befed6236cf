-- The selectors of a subgroup of size 2^k: their coefficients, and their values over the field and above it.
use Rattle.std.proofs.Common.{◌≡◌, ℕ, zero, suc, ◌+◌, ◌-◌, ◌%◌, ◌^◌, ◌≤◌, ◌<◌, inl, inr, List, [], ◌∷◌, map, refl, sym, ◌∙◌, ap, arith}
use Rattle.std.proofs.Math.Nat.{mod_self, mod-eq_of_lt}
use Rattle.std.proofs.lemmas.Nat.{pow_pos}
use Rattle.std.proofs.lemmas.Bool.{cases_eq}
use Rattle.p3_field.specs.Ring.{Ring, RingLaws, pow, sub}
use Rattle.p3_field.specs.Field.{FieldLaws, TwoAdicLaws, RingHom}
use Rattle.p3_field.specs.Poly.{eval_poly, scale_poly, raise, tail_values, quotient, tabulate, total}
use Rattle.p3_field.specs.Domain.{CosetData, subgroup, coset_point, binomial, vanishing_polynomial, first_selector, last_selector, transition_selector}
use Rattle.p3_field.specs.Laws.Algebra.{zero_add, one_mul, mul_zero, pow_add}
use Rattle.p3_field.specs.Laws.Order.{one_pow}
use Rattle.p3_field.specs.Laws.Tabulate.{tabulate_same}
use Rattle.p3_field.specs.Laws.Values.{eval_raise}
use Rattle.p3_field.specs.Laws.Coset.{HasOrder, two_adic_order, pow_mul}
use Rattle.p3_field.specs.Laws.TwoAdic.{root_not_zero}
use Rattle.p3_field.specs.Laws.Binomials.{eval_binomial, coset_point_power}
use Rattle.p3_field.specs.Laws.Sums.{total_same, eval_tabulate}
use Rattle.p3_field.specs.Laws.Selectors.{scale_one, vanishing_value as vanishing_value_on_coset, transition_selector_value as transition_value_on_coset}
use Rattle.p3_field.specs.Laws.Extended.{hom_pow}

-- 1 + X + .. + X^(n-1)
abbrev pub ones : {A : Type 0} → Ring A → ℕ → List A
ones r n = tabulate n (λ _. r.one)

pub map_tabulate : {A B : Type 0} (f : A → B) (n : ℕ) (t : ℕ → A) → map f (tabulate n t) ≡ tabulate n (λ i. f (t i))
map_tabulate f zero t = refl
map_tabulate f (suc n) t = ap (λ l. f (t zero) ∷ l) (map_tabulate f n (λ i. t (suc i)))

module _ {A : Type 0} (r : Ring A) (L : RingLaws r) where
  tail_values_raise : (m : ℕ) (a : A) → tail_values r (raise r m (r.one ∷ [])) a ≡ tabulate (suc m) (λ j. pow r a (m - j))
  unfolding pow
  tail_values_raise zero a = ap (λ x. x ∷ []) (ap (r.add r.one) (mul_zero r L a) ∙ L.add_zero r.one)
  tail_values_raise (suc m) a =
      let P = pow r a m in
      let unit : eval_poly r (r.one ∷ []) a ≡ r.one = cc (mul_zero r L a, L.add_zero r.one) in
      let value : eval_poly r (raise r m (r.one ∷ [])) a ≡ P = cc (eval_raise r L m (r.one ∷ []) a, unit, L.mul_one P) in
      let first : r.add r.zero (r.mul a (eval_poly r (raise r m (r.one ∷ [])) a)) ≡ r.mul a P = zero_add r L (r.mul a (eval_poly r (raise r m (r.one ∷ [])) a)) ∙ ap (r.mul a) value in
      let e : suc m ≡ suc m - zero = omega arith in
      let rest : tabulate (suc m) (λ j. pow r a (m - j)) ≡ tabulate (suc m) (λ j. pow r a (suc m - suc j)) =
      tabulate_same (suc m) (λ j. pow r a (m - j)) (λ j. pow r a (suc m - suc j)) (λ j h. let f : m - j ≡ suc m - suc j = omega arith in ap (pow r a) f) in
      cc (first, ap (pow r a) e, tail_values_raise m a, rest)

  -- the quotient of X^(m+1) - c by X - a has the coefficients a^m, .., a, 1
  pub quotient_of_binomial : (m : ℕ) (c a : A) → quotient r (binomial r (suc m) c) a ≡ tabulate (suc m) (λ j. pow r a (m - j))
  quotient_of_binomial m c a = tail_values_raise m a

  -- where g h = 1 and h^n = 1, the powers of g downwards are those of h upwards
  turned_power : (n m j : ℕ) (h g : A) → suc j + m ≡ n → pow r h n ≡ r.one → r.mul g h ≡ r.one → pow r g m ≡ pow r h (suc j)
  turned_power n m j h g e full unit =
      let G = pow r g m in let H = pow r h m in let K = pow r h (suc j) in
      let inverse : r.mul G H ≡ r.one = sym (pow_mul r L g h m) ∙ (ap (λ v. pow r v m) unit ∙ one_pow r L m) in
      let round : r.mul K H ≡ r.one = sym (pow_add r L h (suc j) m) ∙ (ap (pow r h) e ∙ full) in
      cc (inverse, round, L.mul_one G, L.mul_assoc G K H, L.mul_comm G K, L.mul_assoc K G H, L.mul_one K)

  pub quotient_at_one : (n : ℕ) → 0 < n → quotient r (binomial r n r.one) r.one ≡ ones r n
  quotient_at_one zero p = absurd (omega arith)
  quotient_at_one (suc m) p = quotient_of_binomial m r.one r.one ∙ tabulate_same (suc m) (λ j. pow r r.one (m - j)) (λ _. r.one) (λ j h. one_pow r L (m - j))

  pub quotient_at_last : (n : ℕ) (h g : A) → 0 < n → pow r h n ≡ r.one → r.mul g h ≡ r.one → quotient r (binomial r n r.one) g ≡ tabulate n (λ j. pow r h (suc j))
  quotient_at_last zero h g p full unit = absurd (omega arith)
  quotient_at_last (suc m) h g p full unit =
      quotient_of_binomial m r.one g
      ∙ tabulate_same (suc m) (λ j. pow r g (m - j)) (λ j. pow r h (suc j)) (λ j b. let e : suc j + (m - j) ≡ suc m = omega arith in turned_power (suc m) (m - j) j h g e full unit)

  scaled_powers : (n : ℕ) (c h x : A) → eval_poly r (tabulate n (λ j. r.mul c (pow r h j))) x ≡ r.mul c (eval_poly r (ones r n) (r.mul h x))
  unfolding pow
  scaled_powers zero c h x = sym (mul_zero r L c)
  scaled_powers (suc n) c h x =
      let V = eval_poly r (ones r n) (r.mul h x) in
      let rest : tabulate n (λ j. r.mul c (r.mul h (pow r h j))) ≡ tabulate n (λ j. r.mul (r.mul c h) (pow r h j)) =
      tabulate_same n (λ j. r.mul c (r.mul h (pow r h j))) (λ j. r.mul (r.mul c h) (pow r h j)) (λ j b. sym (L.mul_assoc c h (pow r h j))) in
      let value : eval_poly r (tabulate n (λ j. r.mul c (r.mul h (pow r h j)))) x ≡ r.mul (r.mul c h) V = ap (λ l. eval_poly r l x) rest ∙ scaled_powers n (r.mul c h) h x in
      let turned : r.mul x (r.mul (r.mul c h) V) ≡ r.mul c (r.mul (r.mul h x) V) =
      cc (L.mul_assoc x (r.mul c h) V, L.mul_comm x (r.mul c h), L.mul_assoc c h x, L.mul_assoc c (r.mul h x) V) in
      cc (value, L.mul_one c, turned, L.mul_add c r.one (r.mul (r.mul h x) V))

  pub eval_ones : (n : ℕ) (x : A) → eval_poly r (ones r n) x ≡ total r n (λ i. pow r x i)
  eval_ones n x = eval_tabulate r L n (λ _. r.one) x ∙ total_same r L n (λ j. r.mul r.one (pow r x j)) (λ j. pow r x j) (λ j b. one_mul r L (pow r x j))

  -- h + h^2 x + .. + h^n x^(n-1) = h (1 + y + .. + y^(n-1)) at y = h x
  pub eval_turned : (n : ℕ) (h x : A) → eval_poly r (tabulate n (λ j. pow r h (suc j))) x ≡ r.mul h (eval_poly r (ones r n) (r.mul h x))
  unfolding pow
  eval_turned n h x = scaled_powers n h h x

  module _ (inv : A → A) (W : FieldLaws r inv) where
    -- one is its own inverse
    pub inv_one : inv r.one ≡ r.one
    inv_one = sym (one_mul r L (inv r.one)) ∙ W.mul_inv r.one W.one_differs

    pub vanishing_polynomial_is : (k : ℕ) → vanishing_polynomial r inv (subgroup r k) ≡ binomial r (2 ^ k) r.one
    unfolding vanishing_polynomial
    vanishing_polynomial_is k =
        let n = 2 ^ k in
        let a : pow r (inv r.one) n ≡ r.one = ap (λ v. pow r v n) inv_one ∙ one_pow r L n in
        ap (λ t. scale_poly r t (binomial r n (pow r r.one n))) a ∙ (scale_one r L (binomial r n (pow r r.one n)) ∙ ap (binomial r n) (one_pow r L n))

    -- the first row's selector is 1 + X + .. + X^(n-1)
    pub first_selector_is : (k : ℕ) → first_selector r inv (subgroup r k) ≡ ones r (2 ^ k)
    unfolding first_selector
    first_selector_is k =
        scale_one r L (quotient r (vanishing_polynomial r inv (subgroup r k)) r.one) ∙ (ap (λ f. quotient r f r.one) (vanishing_polynomial_is k) ∙ quotient_at_one (2 ^ k) (pow_pos k))

    module _ (top : ℕ) (root : ℕ → A) (T : TwoAdicLaws r top root) (k : ℕ) (fits : k ≤ top) where
      order : HasOrder r (2 ^ k) (root k)
      order = two_adic_order r L top root T k fits

      root_unit : r.mul (inv (root k)) (root k) ≡ r.one
      root_unit = L.mul_comm (inv (root k)) (root k) ∙ W.mul_inv (root k) (root_not_zero r L inv W (2 ^ k) (root k) (pow_pos k) order)

      -- the last row's selector is h + h^2 X + .. + h^n X^(n-1)
      pub last_selector_is : last_selector r inv root (subgroup r k) ≡ tabulate (2 ^ k) (λ j. pow r (root k) (suc j))
      unfolding last_selector
      last_selector_is =
          let g = r.mul r.one (inv (root k)) in
          let unit : r.mul g (root k) ≡ r.one = cc (one_mul r L (inv (root k)), root_unit) in
          scale_one r L (quotient r (vanishing_polynomial r inv (subgroup r k)) g)
          ∙ (ap (λ f. quotient r f g) (vanishing_polynomial_is k) ∙ quotient_at_last (2 ^ k) (root k) g (pow_pos k) order.full unit)

      -- h times point i is the next point, and the first after the last
      pub next_point : (s : A) (i : ℕ) → i < 2 ^ k → r.mul (root k) (coset_point r s (root k) i) ≡ coset_point r s (root k) ((i + 1) % 2 ^ k)
      unfolding pow
      next_point s i b =
          let h = root k in let n = 2 ^ k in let P = pow r h i in
          let turned : r.mul h (r.mul s P) ≡ r.mul s (r.mul h P) = cc (L.mul_assoc h s P, L.mul_comm h s, L.mul_assoc s h P) in
          elim (cases_eq (i + 1) n) [
            | inl e ↦
                let z : 0 ≡ (i + 1) % n = sym (ap (λ m. m % n) e ∙ mod_self n) in
                let f : suc i ≡ n = omega arith in
                let full : r.mul h P ≡ r.one = ap (pow r h) f ∙ order.full in
                turned ∙ (ap (r.mul s) full ∙ ap (λ j. r.mul s (pow r h j)) z)
            | inr d ↦
                let low : i + 1 < n = omega arith in
                let f : suc i ≡ (i + 1) % n = omega (arith, mod-eq_of_lt low) in
                turned ∙ ap (λ j. r.mul s (pow r h j)) f
          ]

      -- The vanishing polynomial has one value on each coset: s^n - 1
      pub vanishing_on_coset : (s : A) (i : ℕ) → eval_poly r (vanishing_polynomial r inv (subgroup r k)) (coset_point r s (root k) i) ≡ sub r (pow r s (2 ^ k)) r.one
      vanishing_on_coset s i =
          let u = coset_point r s (root k) i in
          ap (λ l. eval_poly r l u) (vanishing_polynomial_is k) ∙ (eval_binomial r L (2 ^ k) r.one u ∙ ap (λ v. sub r v r.one) (coset_point_power r L (2 ^ k) s (root k) i order))

-- the values in a ring above, where f embeds the field
module _ {A B : Type 0} (r : Ring A) (L : RingLaws r) (inv : A → A) (W : FieldLaws r inv) (t : Ring B) (M : RingLaws t) (f : A → B) (H : RingHom r t f) where
  map_ones : (n : ℕ) → map f (ones r n) ≡ ones t n
  map_ones n = map_tabulate f n (λ _. r.one) ∙ ap (λ c. tabulate n (λ _. c)) H.keeps_one

  -- one is embedded as one, and divided by itself
  unit : (x : B) → t.mul (f (inv r.one)) x ≡ x
  unit x = cc (ap f (inv_one r L inv W), H.keeps_one, one_mul t M x)

  pub vanishing_value : (k : ℕ) (x : B) → eval_poly t (map f (vanishing_polynomial r inv (subgroup r k))) x ≡ sub t (pow t x (2 ^ k)) t.one
  vanishing_value k x = vanishing_value_on_coset r L t M f H inv W (subgroup r k) x W.one_differs ∙ ap (λ z. sub t (pow t z (2 ^ k)) t.one) (unit x)

  pub first_selector_value : (k : ℕ) (x : B) → eval_poly t (map f (first_selector r inv (subgroup r k))) x ≡ eval_poly t (ones t (2 ^ k)) x
  first_selector_value k x = ap (λ l. eval_poly t (map f l) x) (first_selector_is r L inv W k) ∙ ap (λ l. eval_poly t l x) (map_ones (2 ^ k))

  pub transition_selector_value : (root : ℕ → A) (k : ℕ) (x : B) → eval_poly t (map f (transition_selector r inv root (subgroup r k))) x ≡ sub t x (f (inv (root k)))
  transition_selector_value root k x = transition_value_on_coset r L t M f H inv W root (subgroup r k) x ∙ ap (λ z. sub t z (f (inv (root k)))) (unit x)

  pub last_selector_value : (top : ℕ) (root : ℕ → A) → TwoAdicLaws r top root → (k : ℕ) → k ≤ top → (x : B)
      → eval_poly t (map f (last_selector r inv root (subgroup r k))) x ≡ t.mul (f (root k)) (eval_poly t (ones t (2 ^ k)) (t.mul (f (root k)) x))
  last_selector_value top root T k fits x =
      let n = 2 ^ k in let h = root k in
      ap (λ l. eval_poly t (map f l) x) (last_selector_is r L inv W top root T k fits)
      ∙ (ap (λ l. eval_poly t l x) (map_tabulate f n (λ j. pow r h (suc j)) ∙ tabulate_same n (λ j. f (pow r h (suc j))) (λ j. pow t (f h) (suc j)) (λ j b. hom_pow r L t M f H h (suc j)))
      ∙ eval_turned t M n (f h) x)

  -- on a trace domain the first selector at x is 1 + x + .. + x^(n-1)
  pub trace_first_selector : (d : CosetData A) (x : B) → d.shift ≡ r.one → eval_poly t (map f (first_selector r inv d)) x ≡ total t (2 ^ d.log_size) (λ i. pow t x i)
  trace_first_selector d x e =
      let same : d ≡ subgroup r d.log_size = λ i. record { shift = e i; log_size = d.log_size } in
      ap (λ c. eval_poly t (map f (first_selector r inv c)) x) same ∙ (first_selector_value d.log_size x ∙ eval_ones t M (2 ^ d.log_size) x)

  -- and the last selector at x is h times the first at h x
  pub trace_last_selector : (top : ℕ) (root : ℕ → A) → TwoAdicLaws r top root → (d : CosetData A) (x : B) → d.shift ≡ r.one → d.log_size ≤ top
      → eval_poly t (map f (last_selector r inv root d)) x ≡ t.mul (f (root d.log_size)) (total t (2 ^ d.log_size) (λ i. pow t (t.mul (f (root d.log_size)) x) i))
  trace_last_selector top root T d x e fits =
      let h = f (root d.log_size) in
      let same : d ≡ subgroup r d.log_size = λ i. record { shift = e i; log_size = d.log_size } in
      ap (λ c. eval_poly t (map f (last_selector r inv root c)) x) same
      ∙ (last_selector_value top root T d.log_size fits x ∙ ap (t.mul h) (eval_ones t M (2 ^ d.log_size) (t.mul h x)))
