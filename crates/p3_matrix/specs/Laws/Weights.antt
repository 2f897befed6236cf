-- The weights of an interpolant's values by division: m (1 + w + .. + w^(n-1)) is m (u^n - 1) / (w - 1) for w = g^i u, where
-- g^n is one and u^n isn't.
use Rattle.std.proofs.Common.{◌≡◌, ℕ, ◌*◌, ◌^◌, ◌≤◌, ◌<◌, List, length, get_or, map, sym, ◌∙◌, ap, arith}
use Rattle.p3_field.specs.Ring.{Ring, RingLaws, pow, sub}
use Rattle.p3_field.specs.Field.{FieldLaws, RingHom, TwoAdicLaws}
use Rattle.p3_field.specs.Poly.{tabulate, total}
use Rattle.p3_field.specs.Laws.Algebra.{one_mul, zero_mul}
use Rattle.p3_field.specs.Laws.Coset.{two_adic_order, pow_mul}
use Rattle.p3_field.specs.Laws.Extended.{hom_pow}
use Rattle.p3_field.specs.Laws.Inverses.{root_inverts}
use Rattle.p3_field.specs.Laws.Order.{one_pow, pow_times}
use Rattle.p3_field.specs.Laws.Sums.{geometric_sum}
use Rattle.p3_field.specs.Laws.SubgroupSelectors.{map_tabulate}
use Rattle.p3_field.specs.Laws.Tabulate.{length-tabulate, get_or-tabulate, tabulate_same}
use Rattle.p3_matrix.specs.Interpolation.{weight_at, ratio_minus_one}

module _ {B : Type 0} (s : Ring B) (M : RingLaws s) where
  pub ratio_less_one : (g u : B) (i : ℕ) (w d : B) → w ≡ s.mul (pow s g i) u → d ≡ sub s w s.one → d ≡ ratio_minus_one s g u i
  unfolding ratio_minus_one
  ratio_less_one g u i w d a b = b ∙ ap (λ z. sub s z s.one) a

  module _ (n : ℕ) (g u : B) (turns : pow s g n ≡ s.one) where
    -- (g^i u)^n is u^n
    turned_power : (i : ℕ) → pow s (s.mul (pow s g i) u) n ≡ pow s u n
    turned_power i =
        let c : i * n ≡ n * i = omega arith in
        let full : pow s (pow s g i) n ≡ s.one = sym (pow_times s M g i n) ∙ (ap (pow s g) c ∙ (pow_times s M g n i ∙ (ap (λ z. pow s z i) turns ∙ one_pow s M i))) in
        pow_mul s M (pow s g i) u n ∙ (ap (λ z. s.mul z (pow s u n)) full ∙ one_mul s M (pow s u n))

    -- (w - 1) (1 + w + .. + w^(n-1)) = u^n - 1
    times_sum : (i : ℕ) → s.mul (ratio_minus_one s g u i) (total s n (λ j. pow s (s.mul (pow s g i) u) j)) ≡ sub s (pow s u n) s.one
    unfolding ratio_minus_one
    times_sum i = geometric_sum s M n (s.mul (pow s g i) u) ∙ ap (λ z. sub s z s.one) (turned_power i)

    module _ (inv : B → B) (W : FieldLaws s inv) (outside : sub s (pow s u n) s.one ≡ s.zero → ⊥) where
      -- no ratio is one
      no_ratio_is_one : (i : ℕ) → ratio_minus_one s g u i ≡ s.zero → ⊥
      no_ratio_is_one i e =
          let S = total s n (λ j. pow s (s.mul (pow s g i) u) j) in
          outside (sym (times_sum i) ∙ (ap (λ z. s.mul z S) e ∙ zero_mul s M S))

      weight_by_division : (m : B) (i : ℕ) → s.mul (s.mul m (sub s (pow s u n) s.one)) (inv (ratio_minus_one s g u i)) ≡ weight_at s n m g u i
      unfolding weight_at
      weight_by_division m i =
          let d = ratio_minus_one s g u i in
          let S = total s n (λ j. pow s (s.mul (pow s g i) u) j) in
          let Z = sub s (pow s u n) s.one in
          let unit : s.mul d (inv d) ≡ s.one = W.mul_inv d (no_ratio_is_one i) in
          cc (times_sum i, unit, M.mul_assoc m Z (inv d), M.mul_comm d S, M.mul_assoc S d (inv d), M.mul_one S)

      -- the same of the lists of the first k
      pub divisors_not_zero : (k : ℕ) (v : List B) → v ≡ tabulate k (ratio_minus_one s g u) → (i : ℕ) → i < length v → get_or v i s.zero ≡ s.zero → ⊥
      divisors_not_zero k v e i b z =
          let long : length v ≡ k = ap length e ∙ length-tabulate k (ratio_minus_one s g u) in
          let below : i < k = omega arith in
          no_ratio_is_one i (sym (get_or-tabulate k (ratio_minus_one s g u) i s.zero below) ∙ (ap (λ l. get_or l i s.zero) (sym e) ∙ z))

      pub weights_by_division : (k : ℕ) (m c : B) (v : List B) → v ≡ tabulate k (ratio_minus_one s g u) → c ≡ s.mul m (sub s (pow s u n) s.one)
          → map (λ x. s.mul c (inv x)) v ≡ tabulate k (weight_at s n m g u)
      weights_by_division k m c v e d =
          let f = λ (x : B). s.mul c (inv x) in
          ap (map f) e
          ∙ (map_tabulate f k (ratio_minus_one s g u)
          ∙ tabulate_same k (λ i. f (ratio_minus_one s g u i)) (weight_at s n m g u) (λ i h. ap (λ z. s.mul z (inv (ratio_minus_one s g u i))) d ∙ weight_by_division m i))

module _ {A B : Type 0} (r : Ring A) (L : RingLaws r) (s : Ring B) (M : RingLaws s) (f : A → B) (H : RingHom r s f) (inv : A → A) (W : FieldLaws r inv) (top : ℕ) (root : ℕ → A) (T : TwoAdicLaws r top root) where
  -- the inverse of a subgroup's generator, to the power of the subgroup's size
  pub inverse_root_turns : (k : ℕ) (g : B) → k ≤ top → g ≡ f (inv (root k)) → pow s g (2 ^ k) ≡ s.one
  inverse_root_turns k g h e =
      let n = 2 ^ k in
      let G = pow r (inv (root k)) n in
      let O = two_adic_order r L top root T k h in
      let unit : r.mul (root k) (inv (root k)) ≡ r.one = W.mul_inv (root k) (root_inverts r L inv W top root T k h) in
      let product : r.mul (pow r (root k) n) G ≡ r.one = sym (pow_mul r L (root k) (inv (root k)) n) ∙ (ap (λ z. pow r z n) unit ∙ one_pow r L n) in
      let full : G ≡ r.one = cc (product, O.full, one_mul r L G) in
      ap (λ z. pow s z n) e ∙ (sym (hom_pow r L s M f H (inv (root k)) n) ∙ (ap f full ∙ H.keeps_one))
