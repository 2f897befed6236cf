-- The number of constraints that an AIR declares: none, or this one.
use Rattle.std.proofs.Common.{◌≡◌, ℕ, Some, None}

none_differs : (n : ℕ) → None ≡ Some n → ⊥
none_differs n e = cc

pub counts-none : (n m : ℕ) → None ≡ Some n → n ≡ m
counts-none n m e = absurd (none_differs n e)

pub counts-some : (n m : ℕ) → Some m ≡ Some n → n ≡ m
counts-some n m e = cc
