-- The challenges of a batch's lookups. After Plonky3's p3-lookup (Challenges); the rule of the bases is this project's
-- own.
use Rattle.std.specs.Prelude.{ℕ, ◌+◌, List}
use Rattle.p3_field.specs.Ring.{Ring, pow, of_nat}
use Rattle.p3_field.specs.Poly.{tabulate}

-- the base of bus b: alpha + (b + 1) beta^width, which no two buses share unless beta^width is zero
abbrev pub bus_base : {E : Type 0} → Ring E → E → E → ℕ → ℕ → E
bus_base e alpha beta width b = e.add alpha (e.mul (of_nat e (b + 1)) (pow e beta width))

-- the two drawn challenges, and the base of each bus
pub record ChallengesData (E : Type 0) : Type 0 where
  pub alpha : E
  pub beta : E
  pub bus_prefix : List E

abbrev pub challenges_with : {E : Type 0} → Ring E → E → E → ℕ → ℕ → ChallengesData E
challenges_with e alpha beta width buses = record { alpha = alpha; beta = beta; bus_prefix = tabulate buses (bus_base e alpha beta width) }
