-- Interpolants: where the points differ there is one and no other, and the points of a domain differ.
use Rattle.std.proofs.Common.{◌≡◌, ℕ, ◌^◌, ◌≤◌, List, length, get_or, sym, ◌∙◌}
use Rattle.p3_field.specs.Ring.{Ring, RingLaws}
use Rattle.p3_field.specs.Field.{FieldLaws, TwoAdicLaws}
use Rattle.p3_field.specs.Poly.{Apart}
use Rattle.p3_field.specs.Domain.{CosetData, IsInterpolant, point}
use Rattle.p3_field.specs.Laws.Roots.{field_no_zero_divisors, same_values_list}
use Rattle.p3_field.specs.Newton.{newton}
use Rattle.p3_field.specs.Laws.Newton.{newton_value, length_newton}
use Rattle.p3_field.specs.Laws.Coset.{coset_apart, two_adic_order}

module _ {A : Type 0} (r : Ring A) (L : RingLaws r) (inv : A → A) (W : FieldLaws r inv) where
  -- one list at most is the interpolant of the values v at different points
  pub interpolant_unique : (p : ℕ → A) (v f g : List A) → Apart (length v) p → IsInterpolant r p v f → IsInterpolant r p v g → f ≡ g
  interpolant_unique p v f g a F G =
      same_values_list r L (field_no_zero_divisors r L inv W) (length v) p f g a F.length_is G.length_is
      (λ i h. F.value_is i h ∙ sym (G.value_is i h))

  -- and Newton's is
  pub interpolant_exists : (p : ℕ → A) (v : List A) → Apart (length v) p → IsInterpolant r p v (newton r inv (length v) p (λ i. get_or v i r.zero))
  interpolant_exists p v a = record {
    length_is = length_newton r L inv W (length v) p (λ i. get_or v i r.zero);
    value_is = λ i h. newton_value r L inv W (length v) p (λ j. get_or v j r.zero) a i h;
  }

  module _ (top : ℕ) (root : ℕ → A) (T : TwoAdicLaws r top root) (d : CosetData A) (fits : d.log_size ≤ top) (nz : d.shift ≡ r.zero → ⊥) where
    -- the points of a domain differ
    pub points_apart : Apart (2 ^ d.log_size) (point r root d)
    points_apart = coset_apart r L (field_no_zero_divisors r L inv W) (2 ^ d.log_size) d.shift (root d.log_size) (two_adic_order r L top root T d.log_size fits) nz
