-- One step of a sum in each lane.
use Rattle.std.proofs.Common.{◌≡◌, ℕ, suc, ◌+◌, ◌/◌, ◌%◌, ◌^◌, ◌<◌, refl, ap, sym, ◌∙◌, arith}
use Rattle.std.specs.Prelude.{bit_xor, bit_or, bit_and}
use Rattle.std.specs.Int.{bit_at, rotate_right, w32}
use Rattle.std.proofs.lemmas.Nat.{xor_lt}
use Rattle.blake3_compress.specs.Laws.Words.{right_below}
use Rattle.std.proofs.lemmas.Nat.Bits.{bit_at-lt, bit_at_xor, bit_at_or, bit_at_and}
use Rattle.blake3_binary.specs.Sums.{carry}
use Rattle.blake3_binary.specs.Laws.Sums.{bit_of_sum, bit_of_low, bit_of_right}

pub sum_bit : (a b c j : ℕ) → bit_at (bit_xor (bit_xor a b) c) j ≡ (bit_at a j + bit_at b j + bit_at c j) % 2
sum_bit a b c j = omega (arith, bit_at_xor (bit_xor a b) c j, bit_at_xor a b j, bit_at-lt a j, bit_at-lt b j, bit_at-lt c j)

pub carry_bit : (a b c j : ℕ) → bit_at (bit_or (bit_and a b) (bit_and c (bit_xor a b))) j ≡ (bit_at a j + bit_at b j + bit_at c j) / 2
carry_bit a b c j =
    omega (arith, bit_at_or (bit_and a b) (bit_and c (bit_xor a b)) j, bit_at_and a b j, bit_at_and c (bit_xor a b) j, bit_at_xor a b j, bit_at-lt a j, bit_at-lt b j, bit_at-lt c j)

-- the bit of a sum and the next carry, by the bits of the words and the carry into their place
pub bit_of_sum_here : (v w k : ℕ) → k < 32 → (bit_at v k + bit_at w k + carry v w k) % 2 ≡ bit_at ((v + w) % 2 ^ 32) k
bit_of_sum_here v w k lt = sym (bit_of_low (v + w) 32 k lt ∙ bit_of_sum v w k)

pub next_carry : (v w k : ℕ) → (bit_at v k + bit_at w k + carry v w k) / 2 ≡ carry v w (k + 1)
unfolding carry
next_carry v w k = let e : suc k ≡ k + 1 = omega arith in ap (carry v w) e

pub no_carry : (v w : ℕ) → carry v w 0 ≡ 0
unfolding carry
no_carry v w = refl

-- of three words
pub sum_of_three : (v w u : ℕ) → ((v + w) % 2 ^ 32 + u) % 2 ^ 32 ≡ (v + w + u) % 2 ^ 32
sum_of_three v w u = omega arith

-- bit k of a word that is turned
pub turned_bit : (x y v w s k j : ℕ) → v < 2 ^ 32 → w < 2 ^ 32 → k < 32 → bit_at x j ≡ bit_at v ((k + s) % 32) → bit_at y j ≡ bit_at w ((k + s) % 32)
    → bit_at (bit_xor x y) j ≡ bit_at (rotate_right w32 (bit_xor v w) s) k
turned_bit x y v w s k j hv hw lk ex ey =
    bit_at_xor x y j ∙ ((λ i. (ex i + ey i) % 2) ∙ (sym (bit_at_xor v w ((k + s) % 32)) ∙ sym (bit_of_right (bit_xor v w) s k (xor_lt 32 v w hv hw) lk)))

pub turned_below : (v w s : ℕ) → v < 2 ^ 32 → w < 2 ^ 32 → rotate_right w32 (bit_xor v w) s < 2 ^ 32
turned_below v w s hv hw = right_below (bit_xor v w) s (xor_lt 32 v w hv hw)
