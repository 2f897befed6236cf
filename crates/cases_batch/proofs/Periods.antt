-- Periods of columns.
use Rattle.std.proofs.Common.{◌≡◌, ℕ, zero, suc, ◌<◌, ◌^◌, List, [], ◌∷◌, length, map, arith}
use Rattle.std.specs.List.{All}
use Rattle.std.proofs.lemmas.Nat.{pow_pos}
use Rattle.commit_core.specs.Periodic.{IsPeriod}

-- what holds of each image holds of the list of images
pub all_mapped : {X Y : Type 0} (P : Y → Type 0) (f : X → Y) (xs : List X) → All (λ x. P (f x)) xs → All P (map f xs)
all_mapped P f [] h k d l = absurd (omega (arith, l))
all_mapped P f (x ∷ xs) h zero d l = h zero x (omega arith)
all_mapped P f (x ∷ xs) h (suc k) d l = all_mapped P f xs (λ i u b. h (suc i) u (omega (arith, b))) k d (omega (arith, l))

-- a period isn't zero
period_positive : (n k : ℕ) → IsPeriod n k → 0 < k
period_positive n k ((j, e), d) = omega (arith, pow_pos j, e)

-- so columns that fit some rows aren't empty
pub columns_filled : {A : Type 0} (n : ℕ) (xs : List (List A)) → All (λ (x : List A). IsPeriod n (length x)) xs → All (λ (x : List A). 0 < length x) xs
columns_filled n xs h k d l = period_positive n _ (h k d l)
