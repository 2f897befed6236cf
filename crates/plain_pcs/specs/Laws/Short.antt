-- Polynomials with fewer coefficients than there are values: zeros at the end make them interpolants.
use Rattle.std.proofs.Common.{◌≡◌, ℕ, zero, suc, ◌-◌, ◌≤◌, ◌<◌, List, [], ◌∷◌, ◌++◌, length, get_or, map, replicate, refl, sym, ◌∙◌, ap, arith}
use Rattle.std.proofs.lemmas.List.{length-append, length-replicate}
use Rattle.p3_field.specs.Ring.{Ring, RingLaws}
use Rattle.p3_field.specs.Field.{RingHom}
use Rattle.p3_field.specs.Poly.{eval_poly, SamePoly, DegreeBelow, Apart}
use Rattle.p3_field.specs.Domain.{IsInterpolant}
use Rattle.p3_field.specs.Laws.Coeffs.{degree_length_le}
use Rattle.p3_field.specs.Laws.Values.{eval_same}
use Rattle.p3_field.specs.Laws.Extended.{same_poly_map}
use Rattle.p3_field.specs.Laws.Roots.{NoZeroDivisors}
use Rattle.p3_field.specs.Laws.Tabulate.{length-tabulate, get_or-tabulate}
use Rattle.p3_matrix.specs.Interpolation.{IsInterpolatedAt}
use Rattle.p3_matrix.specs.Laws.Interpolants.{value_of_interpolant}
use Rattle.p3_dft.specs.Transform.{values_at}

-- as many coefficients as n at least, by zeros at the end
unfoldable pub filled : {A : Type 0} → Ring A → ℕ → List A → List A
filled r n f = f ++ replicate (n - length f) r.zero

zeros_after : {A : Type 0} (r : Ring A) (f : List A) (k : ℕ) → SamePoly r (f ++ replicate k r.zero) f
zeros_after r [] zero i = refl
zeros_after r [] (suc k) zero = refl
zeros_after r [] (suc k) (suc i) = zeros_after r [] k i
zeros_after r (c ∷ cs) k zero = refl
zeros_after r (c ∷ cs) k (suc i) = zeros_after r cs k i

pub filled_same : {A : Type 0} (r : Ring A) (n : ℕ) (f : List A) → SamePoly r (filled r n f) f
unfolding filled
filled_same r n f = zeros_after r f (n - length f)

pub length_filled : {A : Type 0} (r : Ring A) (n : ℕ) (f : List A) → length f ≤ n → length (filled r n f) ≡ n
unfolding filled
length_filled r n f h = omega (arith, length-append f (replicate (n - length f) r.zero), length-replicate (n - length f) r.zero)

module _ {A : Type 0} (r : Ring A) (L : RingLaws r) (n : ℕ) (f : List A) where
  -- the coefficients of f are all
  pub filled_degree : (m : ℕ) → length f ≤ m → DegreeBelow r m (filled r n f)
  filled_degree m h i b = filled_same r n f i ∙ degree_length_le r L m f h i b

  -- f, so extended, is the interpolant of its own values
  pub filled_interpolant : (p : ℕ → A) (v : List A) → length f ≤ n → v ≡ values_at r p n f → IsInterpolant r p v (filled r n f)
  unfolding values_at
  filled_interpolant p v h e =
      let long : length v ≡ n = ap length e ∙ length-tabulate n (λ i. eval_poly r f (p i)) in
      record {
        length_is = length_filled r n f h ∙ sym long;
        value_is = λ i b.
            let k : i < n = omega arith in
            eval_same r L (filled r n f) f (p i) (filled_same r n f)
            ∙ (sym (get_or-tabulate n (λ j. eval_poly r f (p j)) i r.zero k) ∙ ap (λ l. get_or l i r.zero) (sym e));
      }

  module _ {B : Type 0} (s : Ring B) (M : RingLaws s) (embed : A → B) (H : RingHom r s embed) where
    -- it has the values of f above the field
    pub filled_value : (x : B) → eval_poly s (map embed (filled r n f)) x ≡ eval_poly s (map embed f) x
    filled_value x = eval_same s M (map embed (filled r n f)) (map embed f) x (same_poly_map r L s M embed H (filled r n f) f (filled_same r n f))

    -- an interpolant's value is that of f, where f has its values at the points and no more coefficients
    pub value_of_short : (N : NoZeroDivisors r) (p : ℕ → A) (v : List A) (x y : B) → Apart n p → length f ≤ n → v ≡ values_at r p n f → IsInterpolatedAt r s embed p v x y → y ≡ eval_poly s (map embed f) x
    unfolding values_at
    value_of_short N p v x y apart h e I =
        let long : length v ≡ n = ap length e ∙ length-tabulate n (λ i. eval_poly r f (p i)) in
        let apart' : Apart (length v) p = λ i j a b. apart i j a (omega arith) in
        value_of_interpolant r L N s embed p v (filled r n f) x y apart' I (filled_interpolant p v h e) ∙ filled_value x
