-- Lists whose number of items is a power of two: their limits.
use Rattle.std.specs.Int.{IsPowerOfTwo}
use Rattle.std.specs.Prelude.{ℕ, ◌≤◌, List, length, All}

-- a power of two up to `most`
abbrev pub IsCount : ℕ → ℕ → Type 0
IsCount most n = IsPowerOfTwo n × (n ≤ most)

-- so many items, each within its limits
abbrev pub PowersWithin : {A : Type 0} → ℕ → (A → Type 0) → List A → Type 0
PowersWithin most within xs = IsCount most (length xs) × All within xs
