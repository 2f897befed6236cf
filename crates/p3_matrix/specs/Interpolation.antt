-- Values of interpolants outside of their domain.
use Rattle.std.specs.Prelude.{◌≡◌, ℕ, List, map}
use Rattle.p3_field.specs.Ring.{Ring, pow, sub}
use Rattle.p3_field.specs.Poly.{eval_poly, total}
use Rattle.p3_field.specs.Domain.{IsInterpolant}

-- y is the value at x, in a larger field, of the polynomial that has the values v at the points p
pub record IsInterpolatedAt {A B : Type 0} (r : Ring A) (s : Ring B) (embed : A → B) (p : ℕ → A) (v : List A) (x y : B) : Type 0 where
  pub interpolant : List A
  pub interpolates : IsInterpolant r p v interpolant
  pub value_is : y ≡ eval_poly s (map embed interpolant) x

-- The weight of value i of n: m (1 + w + .. + w^(n-1)) with w = g^i u. The sum of the values times their weights is
-- the interpolant's value at x, where m is 1 / n, g is one over the subgroup's generator and u is x / shift.
unfoldable pub weight_at : {B : Type 0} → Ring B → ℕ → B → B → B → ℕ → B
weight_at s n m g u i = s.mul m (total s n (λ j. pow s (s.mul (pow s g i) u) j))

-- w - 1 for w = g^i u
unfoldable pub ratio_minus_one : {B : Type 0} → Ring B → B → B → ℕ → B
ratio_minus_one s g u i = sub s (s.mul (pow s g i) u) s.one
