-- The cosets of a two-adic field: the laws of Coset, Transform and Vanishing from a field's laws.
use Rattle.std.proofs.Common.{◌≡◌, ℕ, zero, suc, ◌+◌, ◌^◌, ◌≤◌, ◌<◌, ◌⊎◌, inl, inr, Bool, true, false, List, refl, sym, ◌∙◌, ap, arith}
use Rattle.std.proofs.Math.Nat.{pow-suc}
use Rattle.std.proofs.lemmas.Nat.{pow_pos}
use Rattle.p3_field.specs.Domain.{scaled_binomial, coset_point, binomial}
use Rattle.p3_field.specs.Ring.{Ring, RingLaws, pow, of_nat, sub}
use Rattle.p3_field.specs.Poly.{eval_poly, SamePoly}
use Rattle.p3_field.specs.Field.{FieldLaws, TwoAdicLaws}
use Rattle.p3_field.specs.Laws.Algebra.{zero_mul, of_nat_add, neg_unique, mul_neg}
use Rattle.p3_field.specs.Laws.Values.{eval_scale}
use Rattle.p3_field.specs.Laws.Roots.{RootsAt, field_no_zero_divisors}
use Rattle.p3_field.specs.Laws.Coset.{HasOrder, two_adic_order, pow_mul}
use Rattle.p3_field.specs.Laws.Order.{one_pow}
use Rattle.p3_field.specs.Laws.Transform.{Inverses, inverse_transform, inverse_transform_value}
use Rattle.p3_field.specs.Laws.Binomials.{eval_binomial, times_binomial, quotient_by_binomial, coset_divides}

-- a test for equality decides it
pub decide_by : {A : Type 0} (eq : A → A → Bool) → ((x y : A) → eq x y ≡ true → x ≡ y) → ((x : A) → eq x x ≡ true) → (x y : A) → (x ≡ y) ⊎ (x ≡ y → ⊥)
decide_by {A} eq e same x y = go (eq x y) refl
  where
    go : (b : Bool) → eq x y ≡ b → (x ≡ y) ⊎ (x ≡ y → ⊥)
    go true h = inl (e x y h)
    go false h = inr (λ z. let t : false ≡ true = sym h ∙ (ap (eq x) (sym z) ∙ same x) in cc)

module _ {A : Type 0} (r : Ring A) (L : RingLaws r) where
  pub eval_scaled_binomial : (n : ℕ) (s t x : A) → r.mul t s ≡ r.one → eval_poly r (scaled_binomial r n s t) x ≡ sub r (pow r (r.mul t x) n) r.one
  eval_scaled_binomial n s t x e =
      let T = pow r t n in let S = pow r s n in let X = pow r x n in
      let unit : r.mul T S ≡ r.one = sym (pow_mul r L t s n) ∙ (ap (λ v. pow r v n) e ∙ one_pow r L n) in
      cc (eval_scale r L T (binomial r n S) x, eval_binomial r L n S x, L.mul_add T X (r.neg S), mul_neg r L T S, unit, pow_mul r L t x n)

  module _ (inv : A → A) (W : FieldLaws r inv) where
    zero_pow : (n : ℕ) → 0 < n → pow r r.zero n ≡ r.zero
    unfolding pow
    zero_pow zero h = absurd (omega arith)
    zero_pow (suc n) h = zero_mul r L (pow r r.zero n)

    pub root_not_zero : (n : ℕ) (h : A) → 0 < n → HasOrder r n h → h ≡ r.zero → ⊥
    root_not_zero n h pos O e = W.one_differs (sym O.full ∙ (ap (λ v. pow r v n) e ∙ zero_pow n pos))

    double_not_zero : (x : A) → (r.add r.one r.one ≡ r.zero → ⊥) → (x ≡ r.zero → ⊥) → r.add x x ≡ r.zero → ⊥
    double_not_zero x two nz e =
        two (field_no_zero_divisors r L inv W x (r.add r.one r.one) nz (cc (L.mul_add x r.one r.one, L.mul_one x, e)))

    pub two_power_not_zero : (k : ℕ) → (r.add r.one r.one ≡ r.zero → ⊥) → of_nat r (2 ^ k) ≡ r.zero → ⊥
    unfolding of_nat
    two_power_not_zero zero two e = W.one_differs (sym (L.add_zero r.one) ∙ e)
    two_power_not_zero (suc k) two e =
        let s : 2 ^ suc k ≡ 2 ^ k + 2 ^ k = rw pow-suc (omega arith) in
        double_not_zero (of_nat r (2 ^ k)) two (two_power_not_zero k two) (sym (of_nat_add r L (2 ^ k) (2 ^ k)) ∙ (ap (of_nat r) (sym s) ∙ e))

    size_not_zero : (top : ℕ) (gen : ℕ → A) → TwoAdicLaws r top gen → (k : ℕ) → k ≤ top → of_nat r (2 ^ k) ≡ r.zero → ⊥
    unfolding of_nat
    size_not_zero top gen T zero h e = W.one_differs (sym (L.add_zero r.one) ∙ e)
    size_not_zero top gen T (suc k) h e =
        two_power_not_zero (suc k) (λ z. T.minus_one_differs (omega arith) (T.gen_one (omega arith) ∙ sym (neg_unique r L r.one r.one z))) e

    pub two_adic_inverses : (top : ℕ) (gen : ℕ → A) → TwoAdicLaws r top gen → (k : ℕ) (s : A) → k ≤ top → (s ≡ r.zero → ⊥)
        → Inverses r (2 ^ k) s (gen k) (inv (of_nat r (2 ^ k))) (inv s) (inv (gen k))
    two_adic_inverses top gen T k s h nz =
        let size = of_nat r (2 ^ k) in
        let O : HasOrder r (2 ^ k) (gen k) = two_adic_order r L top gen T k h in
        record {
          of_size = L.mul_comm (inv size) size ∙ W.mul_inv size (size_not_zero top gen T k h);
          of_shift = L.mul_comm (inv s) s ∙ W.mul_inv s nz;
          of_root = L.mul_comm (inv (gen k)) (gen k) ∙ W.mul_inv (gen k) (root_not_zero (2 ^ k) (gen k) (pow_pos k) O);
        }

    module _ (top : ℕ) (gen : ℕ → A) (T : TwoAdicLaws r top gen) (k : ℕ) (s : A) (fits : k ≤ top) (nz : s ≡ r.zero → ⊥) where
      -- the inverse transform over the coset s, s (gen k), ..
      abbrev pub coset_interpolant : (ℕ → A) → List A
      coset_interpolant v = inverse_transform r (2 ^ k) (inv (of_nat r (2 ^ k))) (inv s) (inv (gen k)) v

      pub coset_interpolant_value : (v : ℕ → A) (i : ℕ) → i < 2 ^ k → eval_poly r (coset_interpolant v) (coset_point r s (gen k) i) ≡ v i
      coset_interpolant_value v i h =
          inverse_transform_value r L (field_no_zero_divisors r L inv W) (2 ^ k) s (gen k) (inv (of_nat r (2 ^ k))) (inv s) (inv (gen k)) v
          (two_adic_order r L top gen T k fits) (two_adic_inverses top gen T k s fits nz) i h

      pub two_adic_divides : (f : List A) → RootsAt r (2 ^ k) (coset_point r s (gen k)) f
          → SamePoly r f (times_binomial r (2 ^ k) (pow r s (2 ^ k)) (quotient_by_binomial r (2 ^ k) (pow r s (2 ^ k)) f))
      two_adic_divides f roots =
          coset_divides r L (field_no_zero_divisors r L inv W) (2 ^ k) s (gen k) f (pow_pos k) (two_adic_order r L top gen T k fits) nz roots
