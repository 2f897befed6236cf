-- Proofs of work: when a witness passes, and which one is the least. As in Plonky3's
-- `GrindingChallenger`, over any challenger's functions on its states.
use Rattle.std.specs.Prelude.{◌≡◌, ℕ, zero, suc, ◌<◌}

-- the witness passes: at zero bits each does, else the bits drawn after it are zero
abbrev pub PassesGrinding : {S W : Type 0} → (S → W → S) → (S → ℕ → ℕ) → S → ℕ → W → Type 0
PassesGrinding observed bits_drawn s zero w = Unit {0}
PassesGrinding observed bits_drawn s (suc n) w = bits_drawn (observed s w) (suc n) ≡ 0

-- the state after a witness's check, whether or not it passes
abbrev pub checked_state : {S W : Type 0} → (S → W → S) → (S → ℕ → S) → S → ℕ → W → S
checked_state observed after_bits s zero w = s
checked_state observed after_bits s (suc n) w = after_bits (observed s w) (suc n)

-- n meets P, and no number below it does
pub record IsLeast (P : ℕ → Type 0) (n : ℕ) : Type 0 where
  pub meets : P n
  pub none_below : (m : ℕ) → m < n → P m → ⊥
