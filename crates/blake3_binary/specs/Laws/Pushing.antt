-- The cells that the generator over fields of characteristic 2 makes.
use Rattle.std.proofs.Common.{◌≡◌, ℕ, zero, suc, ◌+◌, ◌*◌, ◌/◌, ◌%◌, ◌^◌, ◌<◌, ◌++◌, List, [], sym, ◌∙◌, ap, arith, append_assoc}
use Rattle.std.specs.Prelude.{bit_xor}
use Rattle.std.specs.Int.{bit_at}
use Rattle.std.proofs.lemmas.Nat.Bits.{bit_at-lt, bit_at_xor}
use Rattle.air_core.specs.Joined.{joined}
use Rattle.blake3_binary.specs.Sums.{carry}
use Rattle.blake3_binary.specs.Trees.{laid}
use Rattle.blake3_binary.specs.Laws.Sums.{bit_of_sum, carry_below, bit_of_low}

-- a xor b xor (a + b) has the carries of a + b
pub bit_of_carries : (a b i : ℕ) → i < 32 → bit_at (bit_xor (bit_xor a b) ((a + b) % 2 ^ 32)) i ≡ carry a b i
bit_of_carries a b i lt =
    let s = bit_of_low (a + b) 32 i lt ∙ bit_of_sum a b i in
    omega (arith, bit_at_xor (bit_xor a b) ((a + b) % 2 ^ 32) i, bit_at_xor a b i, s, carry_below a b i, bit_at-lt a i, bit_at-lt b i)

-- four at a time
by_fours : {X : Type 0} (n : ℕ) (t : ℕ → ℕ → List X) → joined (4 * n) (λ k. t (k / 4) (k % 4)) ≡ joined n (λ p. joined 4 (t p))
unfolding joined
by_fours zero t = let e : 4 * 0 ≡ 0 = omega arith in ap (λ m. joined m (λ k. t (k / 4) (k % 4))) e
by_fours (suc n) t =
    let T : ℕ → List _ = λ k. t (k / 4) (k % 4) in
    let e : 4 * suc n ≡ suc (suc (suc (suc (4 * n)))) = omega arith in
    let k0 : 4 * n / 4 ≡ n = omega arith in
    let r0 : 4 * n % 4 ≡ 0 = omega arith in
    let k1 : suc (4 * n) / 4 ≡ n = omega arith in
    let r1 : suc (4 * n) % 4 ≡ 1 = omega arith in
    let k2 : suc (suc (4 * n)) / 4 ≡ n = omega arith in
    let r2 : suc (suc (4 * n)) % 4 ≡ 2 = omega arith in
    let k3 : suc (suc (suc (4 * n))) / 4 ≡ n = omega arith in
    let r3 : suc (suc (suc (4 * n))) % 4 ≡ 3 = omega arith in
    let J = joined n (λ p. joined 4 (t p)) in
    ap (λ m. joined m T) e
    ∙ ((λ i. by_fours n t i ++ t (k0 i) (r0 i) ++ t (k1 i) (r1 i) ++ t (k2 i) (r2 i) ++ t (k3 i) (r3 i)) ∙ four_more J (t n 0) (t n 1) (t n 2) (t n 3))
  where
    four_more : {X : Type 0} (j a b c d : List X) → j ++ a ++ b ++ c ++ d ≡ j ++ ([] ++ a ++ b ++ c ++ d)
    four_more j a b c d =
        ap (λ xs. xs ++ c ++ d) (append_assoc j a b) ∙ (ap (λ xs. xs ++ d) (append_assoc j (a ++ b) c) ∙ append_assoc j (a ++ b ++ c) d)

-- the halves of the steps by columns and diagonals
pub laid_by_fours : {X : Type 0} (f : ℕ → ℕ → List X) → joined 14 (λ p. joined 4 (λ g. joined 2 (λ h. f (2 * p + h) g))) ≡ laid f
unfolding laid
laid_by_fours f = sym (by_fours 14 (λ p g. joined 2 (λ h. f (2 * p + h) g)))
