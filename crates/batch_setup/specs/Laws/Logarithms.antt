-- Logarithms of powers of two.
use Rattle.std.proofs.Common.{◌≡◌, ℕ, zero, suc, ◌+◌, ◌^◌, ◌<◌, ◌≤◌, cond, min, inl, inr, ◌∙◌, ap, arith}
use Rattle.std.specs.Prelude.{nat_lt}
use Rattle.std.proofs.lemmas.Bool.{cases_lt}
use Rattle.std.proofs.lemmas.Bool.Decides.{nat_tests}
use Rattle.std.proofs.Math.Pow.{pow_mono, pow-lt}
use Rattle.batch_constraints.specs.Laws.Degrees.{below_power}
use Rattle.batch_setup.specs.Setup.{powers_of_two_below, log_of}

-- one power more
step : (a b x m j : ℕ) → x ≡ min m j → (m < j → a < b) → (j ≤ m → b ≤ a) → x + cond (nat_lt a b) 1 0 ≡ min (suc m) j
step a b x m j e up down = elim (cases_lt m j) [
  | inl less ↦ let h = up less in grind (arith, nat_tests, h, less, e)
  | inr more ↦ let h = down more in grind (arith, nat_tests, h, more, e)
]

-- of the first k powers those below 2^j are the first j
below_of_power : (k j : ℕ) → powers_of_two_below k (2 ^ j) ≡ min k j
unfolding powers_of_two_below
below_of_power zero j = omega arith
below_of_power (suc k) j = step (2 ^ k) (2 ^ j) (powers_of_two_below k (2 ^ j)) k j (below_of_power k j) (λ h. pow-lt h) (λ h. pow_mono h)

-- 2^j has the logarithm j
pub log_of_power : (n j : ℕ) → n ≡ 2 ^ j → log_of n ≡ j
unfolding log_of
log_of_power n j e =
    let b = below_power j in
    ap (powers_of_two_below n) e ∙ below_of_power n j ∙ omega (arith, b, e)
