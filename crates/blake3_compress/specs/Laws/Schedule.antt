-- The message schedule stays within the block.
use Rattle.std.proofs.Common.{ℕ, zero, suc, ◌+◌, ◌*◌, ◌/◌, ◌%◌, ◌^◌, ◌<◌, List, [], ◌∷◌, arith, lit<, get_or}
use Rattle.std.specs.Prelude.{All}
use Rattle.std.proofs.lemmas.List.Elements.{All-head, All-tail}
use Rattle.blake3_compress.specs.Compress.{iv, permuted, scheduled}
use Rattle.blake3_compress.specs.TraceRow.{turn_of, message_of}

-- an item of a list, or the other value, where all are below m
get_or_below : (m : ℕ) (xs : List ℕ) (i : ℕ) (d : ℕ) → d < m → All (λ x. x < m) xs → get_or xs i d < m
get_or_below m [] i d b h = b
get_or_below m (x ∷ xs) zero d b h = All-head (λ y. y < m) x xs h
get_or_below m (x ∷ xs) (suc i) d b h = get_or_below m xs i d b (All-tail (λ y. y < m) x xs h)

pub permuted_below : (i : ℕ) → permuted i < 16
permuted_below i = get_or_below 16 (2 ∷ 6 ∷ 3 ∷ 10 ∷ 7 ∷ 0 ∷ 4 ∷ 13 ∷ 1 ∷ 11 ∷ 12 ∷ 5 ∷ 9 ∷ 14 ∷ 15 ∷ 8 ∷ []) i 0 (lit< tt) (search arith)

pub scheduled_below : (n i : ℕ) → i < 16 → scheduled n i < 16
unfolding scheduled
scheduled_below zero i h = h
scheduled_below (suc n) i h = scheduled_below n (permuted i) (permuted_below i)

pub message_below : (n g : ℕ) → g < 4 → message_of n g < 16
message_below n g h = scheduled_below (n / 4) (8 * turn_of n + 2 * g + n % 2) (omega (arith, h))

pub iv_below : (i : ℕ) → iv i < 2 ^ 32
iv_below i = get_or_below (2 ^ 32) (0x6a09e667 ∷ 0xbb67ae85 ∷ 0x3c6ef372 ∷ 0xa54ff53a ∷ []) i 0 (lit< tt) (search arith)
