-- The inverse transform: a transform with the inverse generator, weighed.
use Rattle.std.proofs.Common.{◌≡◌, ℕ, zero, suc, ◌+◌, ◌^◌, ◌≤◌, List, length, get_or, sym, ◌∙◌, ap, arith}
use Rattle.std.proofs.lemmas.Nat.{pow_pos}
use Rattle.p3_field.specs.Ring.{Ring, RingLaws, pow, of_nat}
use Rattle.p3_field.specs.Field.{FieldLaws, TwoAdicLaws}
use Rattle.p3_field.specs.Poly.{eval_poly, tabulate, total}
use Rattle.p3_field.specs.Domain.{coset_point, IsInterpolant}
use Rattle.p3_field.specs.Laws.Algebra.{one_mul, neg_mul, neg_neg}
use Rattle.p3_field.specs.Laws.Order.{one_pow}
use Rattle.p3_field.specs.Laws.Sums.{total_same, eval_tabulate}
use Rattle.p3_field.specs.Laws.Roots.{field_no_zero_divisors}
use Rattle.p3_field.specs.Laws.Coset.{HasOrder, two_adic_order, pow_mul, double_power}
use Rattle.p3_field.specs.Laws.Subcosets.{order_half}
use Rattle.p3_field.specs.Laws.Transform.{pow_swap, inverse_coeff, inverse_transform}
use Rattle.p3_field.specs.Laws.TwoAdic.{coset_interpolant_value}
use Rattle.p3_field.specs.Laws.Inverses.{root_inverts}
use Rattle.p3_dft.specs.Transform.{values_at, TurnsIn, weighted}
use Rattle.p3_field.specs.Laws.Tabulate.{length-tabulate, tabulate_same, tabulate_items}
use Rattle.p3_dft.specs.Laws.Values.{length-values_at, get_or-values_at}

module _ {A : Type 0} (r : Ring A) (L : RingLaws r) where
  -- the inverse transform's coefficient j is the weighed value of the polynomial with coefficients v at g^j
  coefficient_as_value : (n : ℕ) (m t g : A) (v : List A) (j : ℕ) → length v ≡ n
      → r.mul (eval_poly r v (coset_point r r.one g j)) (coset_point r m t j) ≡ inverse_coeff r n m t g (λ i. get_or v i r.zero) j
  coefficient_as_value n m t g v j e =
      let x : ℕ → A = λ i. get_or v i r.zero in
      let X = pow r g j in let T = pow r t j in
      let point : coset_point r r.one g j ≡ X = one_mul r L X in
      let sum : eval_poly r v X ≡ total r n (λ i. r.mul (x i) (pow r X i)) = ap (λ l. eval_poly r l X) (tabulate_items r.zero v n e) ∙ eval_tabulate r L n x X in
      let S = total r n (λ i. r.mul (x i) (pow r (pow r g i) j)) in
      let turned : total r n (λ i. r.mul (x i) (pow r X i)) ≡ S =
      total_same r L n (λ i. r.mul (x i) (pow r X i)) (λ i. r.mul (x i) (pow r (pow r g i) j)) (λ i h. ap (r.mul (x i)) (pow_swap r L g j i)) in
      cc (ap (eval_poly r v) point, sum, turned, L.mul_comm S (r.mul m T), L.mul_assoc m T S)

  pub weighted_values : (n : ℕ) (m t g : A) (v : List A) → length v ≡ n
      → weighted r m t (values_at r (coset_point r r.one g) n v) ≡ inverse_transform r n m t g (λ i. get_or v i r.zero)
  unfolding weighted
  weighted_values n m t g v e =
      let p : ℕ → A = coset_point r r.one g in
      let w = values_at r p n v in
      ap (λ k. tabulate k (λ j. r.mul (get_or w j r.zero) (coset_point r m t j))) (length-values_at r p n v)
      ∙ tabulate_same n (λ j. r.mul (get_or w j r.zero) (coset_point r m t j)) (inverse_coeff r n m t g (λ i. get_or v i r.zero))
      (λ j h. ap (λ y. r.mul y (coset_point r m t j)) (get_or-values_at r p n v j r.zero h) ∙ coefficient_as_value n m t g v j e)

  module _ (inv : A → A) (W : FieldLaws r inv) (top : ℕ) (gen : ℕ → A) (T : TwoAdicLaws r top gen) where
    pub root_turns : (k : ℕ) → k ≤ top → TurnsIn r k (gen k)
    root_turns zero h = λ j e. absurd (omega arith)
    root_turns (suc k) h = λ j e.
        let same : j ≡ k = omega arith in
        let order : HasOrder r (2 ^ k + 2 ^ k) (gen (suc k)) = let O = two_adic_order r L top gen T (suc k) h in half_of (2 ^ suc k) (2 ^ k + 2 ^ k) (gen (suc k)) (double_power k) O in
        ap (λ i. pow r (gen (suc k)) (2 ^ i)) same ∙ order_half r L (field_no_zero_divisors r L inv W) (2 ^ k) (gen (suc k)) (pow_pos k) order
      where
        half_of : (a b : ℕ) (h : A) → a ≡ b → HasOrder r a h → HasOrder r b h
        half_of a b h e O = record { full = ap (pow r h) (sym e) ∙ O.full; least = λ j p q. O.least j p (omega arith) }

    pub inverse_root_turns : (k : ℕ) → k ≤ top → TurnsIn r k (inv (gen k))
    inverse_root_turns k h = λ j e.
        let H = pow r (gen k) (2 ^ j) in let G = pow r (inv (gen k)) (2 ^ j) in
        let unit : r.mul (gen k) (inv (gen k)) ≡ r.one = W.mul_inv (gen k) (root_inverts r L inv W top gen T k h) in
        let product : r.mul H G ≡ r.one = sym (pow_mul r L (gen k) (inv (gen k)) (2 ^ j)) ∙ (ap (λ x. pow r x (2 ^ j)) unit ∙ one_pow r L (2 ^ j)) in
        let minus : H ≡ r.neg r.one = root_turns k h j e in
        -- -G = 1
        let negated : r.neg G ≡ r.one = cc (product, minus, neg_mul r L r.one G, one_mul r L G) in
        sym (neg_neg r L G) ∙ ap r.neg negated

    -- the weighed values are the interpolant
    pub interpolates : (k : ℕ) (s : A) (v f : List A) → k ≤ top → (s ≡ r.zero → ⊥) → length v ≡ 2 ^ k
        → f ≡ weighted r (inv (of_nat r (2 ^ k))) (inv s) (values_at r (coset_point r r.one (inv (gen k))) (2 ^ k) v)
        → IsInterpolant r (coset_point r s (gen k)) v f
    interpolates k s v f h nz e d =
        let n = 2 ^ k in
        let m = inv (of_nat r n) in let t = inv s in let g = inv (gen k) in
        let x : ℕ → A = λ i. get_or v i r.zero in
        let is : f ≡ inverse_transform r n m t g x = d ∙ weighted_values n m t g v e in
        record {
          length_is = ap length is ∙ (length-tabulate n (inverse_coeff r n m t g x) ∙ sym e);
          value_is = λ i b. ap (λ l. eval_poly r l (coset_point r s (gen k) i)) is ∙ coset_interpolant_value r L inv W top gen T k s h nz x i (omega arith);
        }
