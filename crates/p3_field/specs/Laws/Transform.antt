-- The polynomial with given values on a coset, by the explicit inverse transform.
use Rattle.std.proofs.Common.{◌≡◌, ◌≢◌, ℕ, ◌*◌, ◌<◌, inl, inr, List, length, sym, ◌∙◌, ap, arith}
use Rattle.std.proofs.lemmas.Bool.{cases_lt}
use Rattle.p3_field.specs.Domain.{coset_point}
use Rattle.p3_field.specs.Ring.{Ring, RingLaws, pow, of_nat}
use Rattle.p3_field.specs.Poly.{eval_poly, DegreeBelow, tabulate, total}
use Rattle.p3_field.specs.Laws.Algebra.{one_mul, mul_zero, mul_swap}
use Rattle.p3_field.specs.Laws.Order.{one_pow, pow_times}
use Rattle.p3_field.specs.Laws.Coeffs.{degree_length_le}
use Rattle.p3_field.specs.Laws.Tabulate.{length-tabulate}
use Rattle.p3_field.specs.Laws.Sums.{total_same, total_scale, total_swap, total_only, total_ones, eval_tabulate}
use Rattle.p3_field.specs.Laws.Roots.{NoZeroDivisors}
use Rattle.p3_field.specs.Laws.Coset.{HasOrder, power_apart, pow_mul, root_sum}

-- the coefficient of X^j: m t^j (v 0 + v 1 g^j + v 2 g^(2 j) + ..), where m n = 1, t s = 1 and g h = 1
abbrev pub inverse_coeff : {A : Type 0} → Ring A → ℕ → A → A → A → (ℕ → A) → ℕ → A
inverse_coeff r n m t g v j = r.mul m (r.mul (pow r t j) (total r n (λ i. r.mul (v i) (pow r (pow r g i) j))))

-- the polynomial with the values v i at the points s h^i, i < n
abbrev pub inverse_transform : {A : Type 0} → Ring A → ℕ → A → A → A → (ℕ → A) → List A
inverse_transform r n m t g v = tabulate n (inverse_coeff r n m t g v)

-- n, s and h have the inverses m, t and g
pub record Inverses {A : Type 0} (r : Ring A) (n : ℕ) (s h m t g : A) : Type 0 where
  pub of_size : r.mul m (of_nat r n) ≡ r.one
  pub of_shift : r.mul t s ≡ r.one
  pub of_root : r.mul g h ≡ r.one

module _ {A : Type 0} (r : Ring A) (L : RingLaws r) where
  pub length_inverse_transform : (n : ℕ) (m t g : A) (v : ℕ → A) → length (inverse_transform r n m t g v) ≡ n
  length_inverse_transform n m t g v = length-tabulate n (inverse_coeff r n m t g v)

  pub degree_inverse_transform : (n : ℕ) (m t g : A) (v : ℕ → A) → DegreeBelow r n (inverse_transform r n m t g v)
  degree_inverse_transform n m t g v = let l : length (inverse_transform r n m t g v) ≡ n = length_inverse_transform n m t g v in degree_length_le r L n (inverse_transform r n m t g v) (omega arith)

  one_powers : (x y : A) (j : ℕ) → r.mul x y ≡ r.one → r.mul (pow r x j) (pow r y j) ≡ r.one
  one_powers x y j e = sym (pow_mul r L x y j) ∙ (ap (λ v. pow r v j) e ∙ one_pow r L j)

  pub pow_swap : (x : A) (i j : ℕ) → pow r (pow r x i) j ≡ pow r (pow r x j) i
  pow_swap x i j = let c : i * j ≡ j * i = omega arith in sym (pow_times r L x i j) ∙ (ap (pow r x) c ∙ pow_times r L x j i)

  -- one term of the value at s K
  term_value : (n : ℕ) (m t g s K : A) (v : ℕ → A) (j : ℕ) → r.mul t s ≡ r.one
      → r.mul (inverse_coeff r n m t g v j) (pow r (r.mul s K) j) ≡ r.mul m (total r n (λ i. r.mul (v i) (pow r (r.mul (pow r g i) K) j)))
  term_value n m t g s K v j e =
      let T = pow r t j in let P = pow r s j in let Q = pow r K j in
      let u : ℕ → A = λ i. r.mul (v i) (pow r (pow r g i) j) in
      let S = total r n u in
      let unit : r.mul T P ≡ r.one = one_powers t s j e in
      let inner : r.mul Q S ≡ total r n (λ i. r.mul (v i) (pow r (r.mul (pow r g i) K) j)) =
      sym (total_scale r L n Q u) ∙ total_same r L n (λ i. r.mul Q (u i)) (λ i. r.mul (v i) (pow r (r.mul (pow r g i) K) j))
      (λ i k. let G = pow r (pow r g i) j in
      cc (pow_mul r L (pow r g i) K j, L.mul_comm Q (r.mul (v i) G), L.mul_assoc (v i) G Q)) in
      regroup m T S P Q unit (pow r (r.mul s K) j) (pow_mul r L s K j) ∙ ap (r.mul m) inner
    where
      regroup : (m T S P Q : A) → r.mul T P ≡ r.one → (W : A) → W ≡ r.mul P Q → r.mul (r.mul m (r.mul T S)) W ≡ r.mul m (r.mul Q S)
      regroup m T S P Q e W f =
          cc (f, L.mul_assoc m (r.mul T S) (r.mul P Q), mul_swap r L T S P Q, e, one_mul r L (r.mul S Q), L.mul_comm S Q)

  -- the value anywhere, at s K
  pub inverse_transform_at : (n : ℕ) (s m t g K : A) (v : ℕ → A) → r.mul t s ≡ r.one
      → eval_poly r (inverse_transform r n m t g v) (r.mul s K) ≡ r.mul m (total r n (λ i. r.mul (v i) (total r n (λ j. pow r (r.mul (pow r g i) K) j))))
  inverse_transform_at n s m t g K v e =
      let x = r.mul s K in
      let w : ℕ → A = λ i. r.mul (pow r g i) K in
      let terms : total r n (λ j. r.mul (inverse_coeff r n m t g v j) (pow r x j)) ≡ total r n (λ j. r.mul m (total r n (λ i. r.mul (v i) (pow r (w i) j)))) =
      total_same r L n (λ j. r.mul (inverse_coeff r n m t g v j) (pow r x j)) (λ j. r.mul m (total r n (λ i. r.mul (v i) (pow r (w i) j))))
      (λ j b. term_value n m t g s K v j e) in
      let out : total r n (λ j. r.mul m (total r n (λ i. r.mul (v i) (pow r (w i) j)))) ≡ r.mul m (total r n (λ j. total r n (λ i. r.mul (v i) (pow r (w i) j)))) =
      total_scale r L n m (λ j. total r n (λ i. r.mul (v i) (pow r (w i) j))) in
      let swap : total r n (λ j. total r n (λ i. r.mul (v i) (pow r (w i) j))) ≡ total r n (λ i. total r n (λ j. r.mul (v i) (pow r (w i) j))) =
      total_swap r L n n (λ j i. r.mul (v i) (pow r (w i) j)) in
      let pull : total r n (λ i. total r n (λ j. r.mul (v i) (pow r (w i) j))) ≡ total r n (λ i. r.mul (v i) (total r n (λ j. pow r (w i) j))) =
      total_same r L n (λ i. total r n (λ j. r.mul (v i) (pow r (w i) j))) (λ i. r.mul (v i) (total r n (λ j. pow r (w i) j))) (λ i b. total_scale r L n (v i) (λ j. pow r (w i) j)) in
      eval_tabulate r L n (inverse_coeff r n m t g v) x ∙ (terms ∙ (out ∙ ap (r.mul m) (swap ∙ pull)))

  module _ (N : NoZeroDivisors r) where
    -- the powers of g^i h^k add up to zero but for i = k
    cross_sum : (n : ℕ) (h g : A) (i k : ℕ) → HasOrder r n h → r.mul g h ≡ r.one → i < n → k < n → i ≢ k
        → total r n (λ j. pow r (r.mul (pow r g i) (pow r h k)) j) ≡ r.zero
    cross_sum n h g i k O e a b d =
        let G = pow r g i in let K = pow r h k in
        let gn : pow r g n ≡ r.one = cc (one_powers g h n e, O.full, L.mul_one (pow r g n)) in
        let full : pow r (r.mul G K) n ≡ r.one =
        pow_mul r L G K n ∙ cc (pow_swap g i n, pow_swap h k n, gn, O.full, one_pow r L i, one_pow r L k, L.mul_one r.one) in
        root_sum r L N n (r.mul G K) full (λ z.
        let I = pow r h i in
        let same : I ≡ K = cc (z, one_powers g h i e, L.mul_comm G I, L.mul_assoc I G K, one_mul r L K, L.mul_one I) in
        elim (cases_lt i k) [
          | inl l ↦ power_apart r L n h O i k l b same
          | inr l ↦ power_apart r L n h O k i (omega arith) a (sym same)
        ])

    same_sum : (n : ℕ) (h g : A) (k : ℕ) → r.mul g h ≡ r.one → total r n (λ j. pow r (r.mul (pow r g k) (pow r h k)) j) ≡ of_nat r n
    same_sum n h g k e =
        total_same r L n (λ j. pow r (r.mul (pow r g k) (pow r h k)) j) (λ j. r.one)
        (λ j a. ap (λ w. pow r w j) (one_powers g h k e) ∙ one_pow r L j)
        ∙ total_ones r L n

    pub inverse_transform_value : (n : ℕ) (s h m t g : A) (v : ℕ → A) → HasOrder r n h → Inverses r n s h m t g → (k : ℕ) → k < n
        → eval_poly r (inverse_transform r n m t g v) (coset_point r s h k) ≡ v k
    inverse_transform_value n s h m t g v O I k a =
        let K = pow r h k in
        let at : ℕ → A = λ i. r.mul (v i) (total r n (λ j. pow r (r.mul (pow r g i) K) j)) in
        let only : total r n at ≡ at k =
        total_only r L n k at a (λ i b d. ap (r.mul (v i)) (cross_sum n h g i k O I.of_root b a d) ∙ mul_zero r L (v i)) in
        let last : at k ≡ r.mul (v k) (of_nat r n) = ap (r.mul (v k)) (same_sum n h g k I.of_root) in
        inverse_transform_at n s m t g K v I.of_shift ∙ (ap (r.mul m) (only ∙ last)
        ∙ cc (L.mul_comm (v k) (of_nat r n), L.mul_assoc m (of_nat r n) (v k), I.of_size, one_mul r L (v k)))
