-- A word from its highest bit down.
use Rattle.std.proofs.Common.{◌≡◌, ℕ, zero, suc, ◌+◌, ◌-◌, ◌*◌, ◌^◌, ◌<◌, ◌≤◌, sym, ◌∙◌, ap, arith}
use Rattle.std.proofs.Math.Pow.{pow_mono}
use Rattle.air_gadgets.specs.Laws.Words.{bits_number_below}
use Rattle.air_gadgets.specs.Words.{bits_number}

-- what a loop down from bit 32 has read at bit k
abbrev pub HasRead : (f : ℕ → ℕ) (k number : ℕ) → Type 0
HasRead f k number = (n : ℕ) → k + n ≡ 32 → number ≡ bits_number f k n

pub nothing_read : (f : ℕ → ℕ) → HasRead f 32 0
unfolding bits_number
nothing_read f zero e = omega arith
nothing_read f (suc n) e = absurd (omega (arith, e))

pub one_digit_more : (f : ℕ → ℕ) (k number digit : ℕ) → 0 < k → k ≤ 32 → digit ≡ f (k - 1) → HasRead f k number → HasRead f (k - 1) (2 * number + digit)
unfolding bits_number
one_digit_more f k number digit pos le e h zero q = absurd (omega (arith, pos, le, q))
one_digit_more f k number digit pos le e h (suc m) q =
    let a : suc (k - 1) ≡ k = omega (arith, pos) in
    let b : number ≡ bits_number f (suc (k - 1)) m = h m (omega (arith, q, pos)) ∙ ap (λ j. bits_number f j m) (sym a) in
    omega (arith, b, e)

pub number_below : (f : ℕ → ℕ) (k number : ℕ) → k ≤ 32 → ((b : ℕ) → k ≤ b → b < 32 → f b < 2) → HasRead f k number → number < 2 ^ 32
number_below f k number le bits h =
    let n = 32 - k in
    let e : k + n ≡ 32 = omega (arith, le) in
    let small : bits_number f k n < 2 ^ n = bits_number_below f k n (λ i a b. bits i a (omega (arith, b, e))) in
    let top : 2 ^ n ≤ 2 ^ 32 = pow_mono {i = n} {j = 32} (omega (arith, le)) in
    omega (arith, h n e, small, top)
