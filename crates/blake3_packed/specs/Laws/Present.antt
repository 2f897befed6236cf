-- Present lanes, and words in them.
use Rattle.std.proofs.Common.{◌≡◌, ℕ, zero, suc, ◌-◌, ◌*◌, ◌/◌, ◌^◌, ◌<◌, ◌≤◌, List, [], ◌∷◌, cond, inl, inr, sym, ◌∙◌, ap, arith}
use Rattle.std.specs.Int.{bit_at}
use Rattle.std.proofs.lemmas.Bool.{cases_lt, lt-ltb, le-ltb}
use Rattle.std.proofs.lemmas.Nat.Bits.{ones_shr, bit_at_ones, bit_at_ones_above, bit_at-lt, bit_at-zero}
use Rattle.blake3_packed.specs.Lanes.{ArePlanes, AreWordPlanes}
use Rattle.blake3_packed.specs.States.{presence}

pub present : (n j : ℕ) → j < n → presence n j ≡ 1
present n j lt = ap (λ b. cond b 1 0) (lt-ltb j n lt)

pub absent : (n j : ℕ) → n ≤ j → presence n j ≡ 0
absent n j le = ap (λ b. cond b 1 0) (le-ltb j n le)

pub present_bits : (n j : ℕ) → n ≤ 64 → j < 64 → bit_at (18446744073709551615 / 2 ^ (64 - n)) j ≡ presence n j
present_bits n j le lj =
    let far : 64 - n ≤ 64 = omega arith in
    let back : 64 - (64 - n) ≡ n = omega (arith, le) in
    let e : 18446744073709551615 / 2 ^ (64 - n) ≡ 2 ^ n - 1 = ones_shr 64 (64 - n) far ∙ ap (λ k. 2 ^ k - 1) back in
    ap (λ m. bit_at m j) e ∙ elim (cases_lt j n) [
      | inl lt ↦ bit_at_ones n j lt ∙ sym (present n j lt)
      | inr ge ↦ bit_at_ones_above n j ge ∙ sym (absent n j ge)
    ]

-- a word where the bit is one, zero where it is zero
pub chosen_bit : (b word k : ℕ) → b < 2 → bit_at (b * word) k ≡ b * bit_at word k
chosen_bit zero word k lt =
    let e : 0 * word ≡ 0 = omega arith in
    let f : 0 ≡ 0 * bit_at word k = omega arith in
    ap (λ m. bit_at m k) e ∙ (bit_at-zero k ∙ f)
chosen_bit (suc zero) word k lt =
    let e : 1 * word ≡ word = omega arith in
    let f : bit_at word k ≡ 1 * bit_at word k = omega arith in
    ap (λ m. bit_at m k) e ∙ f
chosen_bit (suc (suc b)) word k lt = absurd (omega (arith, lt))

pub chosen_below : (b word : ℕ) → b < 2 → word < 2 ^ 32 → b * word < 2 ^ 32
chosen_below zero word lt h = omega (arith, h)
chosen_below (suc zero) word lt h = omega (arith, h)
chosen_below (suc (suc b)) word lt h = absurd (omega (arith, lt))

pub chosen_one : (p word k j : ℕ) → bit_at word k ≡ 1 → bit_at p j ≡ bit_at (bit_at p j * word) k
chosen_one p word k j e =
    let b = bit_at p j in
    let f : b ≡ b * 1 = omega arith in
    f ∙ (ap (λ m. b * m) (sym e) ∙ sym (chosen_bit b word k (bit_at-lt p j)))

pub chosen_zero : (p word k j : ℕ) → bit_at word k ≡ 0 → bit_at 0 j ≡ bit_at (bit_at p j * word) k
chosen_zero p word k j e =
    let b = bit_at p j in
    let f : 0 ≡ b * 0 = omega arith in
    bit_at-zero j ∙ (f ∙ (ap (λ m. b * m) (sym e) ∙ sym (chosen_bit b word k (bit_at-lt p j))))

pub four_planes : (A B C D : List ℕ) (f : ℕ → ℕ → ℕ) → ArePlanes A (λ j. f j 0) → ArePlanes B (λ j. f j 1) → ArePlanes C (λ j. f j 2) → ArePlanes D (λ j. f j 3) → AreWordPlanes 4 (A ∷ B ∷ C ∷ D ∷ []) f
four_planes A B C D f a b c d zero lt = a
four_planes A B C D f a b c d (suc zero) lt = b
four_planes A B C D f a b c d (suc (suc zero)) lt = c
four_planes A B C D f a b c d (suc (suc (suc zero))) lt = d
four_planes A B C D f a b c d (suc (suc (suc (suc n)))) lt = absurd (omega (arith, lt))
