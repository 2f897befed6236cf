-- The weights of a period's values in the value of a periodic column's polynomial.
use Rattle.std.specs.Prelude.{◌≡◌, ℕ, List, Option, Some, length, get_or}
use Rattle.p3_field.specs.Ring.{Ring}
use Rattle.p3_field.specs.Poly.{total}
use Rattle.commit_core.specs.Periodic.{IsPeriodicAt}

-- There is a weight for each value of a period of this length: the sum of a column's values times them is the value at x of
-- the interpolant on n points of this column, repeated over them.
pub record AreWeights {A B : Type 0} (r : Ring A) (s : Ring B) (embed : A → B) (n : ℕ) (p : ℕ → A) (x : B) (period : ℕ) (ws : List B) : Type 0 where
  pub count : length ws ≡ period
  pub value : (column : List A) → length column ≡ period → IsPeriodicAt r s embed n p x column (total s period (λ i. s.mul (embed (get_or column i r.zero)) (get_or ws i s.zero)))

-- the weights that are known, by their period
pub record AreKnown {A B V : Type 0} (r : Ring A) (s : Ring B) (embed : A → B) (n : ℕ) (p : ℕ → A) (x : B) (known : ℕ → Option V) (items : V → List B) : Type 0 where
  pub each : (period : ℕ) (v : V) → known period ≡ Some v → AreWeights r s embed n p x period (items v)
