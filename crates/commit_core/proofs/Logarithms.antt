-- The least logarithm of a size passes the two-adicity exactly where the size does.
use Rattle.std.proofs.Common.{ℕ, ◌^◌, ◌<◌, ◌≤◌, inl, inr, arith}
use Rattle.std.proofs.Math.Pow.{pow_mono}
use Rattle.std.proofs.lemmas.Bool.{cases_lt}

pub too_large : (top m k : ℕ) → ((j : ℕ) → m ≤ 2 ^ j → k ≤ j) → top < k → 2 ^ top < m
too_large top m k least h = elim (cases_lt (2 ^ top) m) [
  | inl a ↦ a
  | inr a ↦ let b = least top a in absurd (omega arith)
]

pub not_too_large : (top m k : ℕ) → m ≤ 2 ^ k → k ≤ top → 2 ^ top < m → ⊥
not_too_large top m k enough h over = let p : 2 ^ k ≤ 2 ^ top = pow_mono h in omega arith
