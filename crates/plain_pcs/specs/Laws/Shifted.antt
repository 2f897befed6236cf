-- Values on a coset, read as values on the subgroup: those of the polynomial f(sX), where s is the coset's shift.
use Rattle.std.proofs.Common.{◌≡◌, ℕ, List, length, sym, ◌∙◌, ap}
use Rattle.p3_field.specs.Ring.{Ring, RingLaws, pow}
use Rattle.p3_field.specs.Field.{FieldLaws}
use Rattle.p3_field.specs.Poly.{eval_poly, Apart, shift_arg}
use Rattle.p3_field.specs.Domain.{coset_point, IsInterpolant}
use Rattle.p3_field.specs.Laws.Algebra.{one_mul, zero_mul}
use Rattle.p3_field.specs.Laws.Coeffs.{length_shift_arg}
use Rattle.p3_field.specs.Laws.Values.{eval_shift_arg}
use Rattle.p3_field.specs.Laws.Tabulate.{tabulate_same}
use Rattle.p3_field.specs.Laws.Interpolants.{interpolant_unique}
use Rattle.p3_dft.specs.Transform.{values_at, IsExtension}

module _ {A : Type 0} (r : Ring A) (L : RingLaws r) where
  -- f(sX) has on the subgroup the values that f has on the coset with shift s
  pub interpolant_shifted : (s h : A) (v f : List A) → IsInterpolant r (coset_point r s h) v f → IsInterpolant r (coset_point r r.one h) v (shift_arg r s f)
  interpolant_shifted s h v f I = record {
    length_is = length_shift_arg r L s f ∙ I.length_is;
    value_is = λ i b. eval_shift_arg r L s f (coset_point r r.one h i) ∙ (ap (eval_poly r f) (ap (r.mul s) (one_mul r L (pow r h i))) ∙ I.value_is i b);
  }

  module _ (inv : A → A) (W : FieldLaws r inv) (s : A) (nz : s ≡ r.zero → ⊥) where
    pub shift_not_zero : (x : A) → (x ≡ r.zero → ⊥) → r.mul x (inv s) ≡ r.zero → ⊥
    shift_not_zero x n e =
        let whole : r.mul (r.mul x (inv s)) s ≡ x = cc (L.mul_assoc x (inv s) s, L.mul_comm (inv s) s, W.mul_inv s nz, L.mul_one x) in
        n (sym whole ∙ (ap (λ z. r.mul z s) e ∙ zero_mul r L s))

    -- point i of the coset with shift x / s, times s, is that of the coset with shift x
    pub point_shifted : (x h : A) (i : ℕ) → r.mul s (coset_point r (r.mul x (inv s)) h i) ≡ coset_point r x h i
    point_shifted x h i =
        let H = pow r h i in
        let whole : r.mul s (r.mul x (inv s)) ≡ x = cc (L.mul_comm x (inv s), L.mul_assoc s (inv s) x, W.mul_inv s nz, one_mul r L x) in
        sym (L.mul_assoc s (r.mul x (inv s)) H) ∙ ap (λ z. r.mul z H) whole

    pub eval_shifted : (f : List A) (x h : A) (i : ℕ) → eval_poly r (shift_arg r s f) (coset_point r (r.mul x (inv s)) h i) ≡ eval_poly r f (coset_point r x h i)
    eval_shifted f x h i = eval_shift_arg r L s f (coset_point r (r.mul x (inv s)) h i) ∙ ap (eval_poly r f) (point_shifted x h i)

    -- What extends v from the subgroup to the coset with shift x / s has the values on the coset with shift x of the
    -- polynomial that has the values v on the coset with shift s.
    pub extension_shifted : (x g h : A) (n : ℕ) (v w f : List A) → Apart (length v) (coset_point r r.one g) → IsInterpolant r (coset_point r s g) v f
        → IsExtension r (coset_point r r.one g) (coset_point r (r.mul x (inv s)) h) n v w → w ≡ values_at r (coset_point r x h) n f
    unfolding values_at
    extension_shifted x g h n v w f apart I E =
        let same : E.interpolant ≡ shift_arg r s f = interpolant_unique r L inv W (coset_point r r.one g) v E.interpolant (shift_arg r s f) apart E.interpolates (interpolant_shifted s g v f I) in
        E.values_are ∙ tabulate_same n (λ i. eval_poly r E.interpolant (coset_point r (r.mul x (inv s)) h i)) (λ i. eval_poly r f (coset_point r x h i))
        (λ i b. ap (λ p. eval_poly r p (coset_point r (r.mul x (inv s)) h i)) same ∙ eval_shifted f x h i)
