-- Powers of two.
use Rattle.std.proofs.Common.{◌≡◌, ℕ, suc, ◌+◌, ◌-◌, ◌*◌, ◌/◌, ◌%◌, ◌^◌, ◌<◌, ◌≤◌, inl, inr, refl, sym, ◌∙◌, ap, arith}
use Rattle.std.proofs.lemmas.Grind.{one_shifted}
use Rattle.std.proofs.Math.Nat.{pow-suc, mul-div_cancel}
use Rattle.std.proofs.lemmas.Nat.{pow_below, pow-add, pow_pos}
use Rattle.std.proofs.lemmas.Bool.{cases_lt}

pub power_lt_cancel : (i j : ℕ) → 2 ^ i < 2 ^ j → i < j
power_lt_cancel i j h = elim (cases_lt i j) [
  | inl a ↦ a
  | inr a ↦ elim (cases_lt j i) [
    | inl b ↦ absurd (omega (arith, pow_below j i b))
    | inr b ↦ let e : i ≡ j = omega arith in absurd (omega (arith, ap (λ k. 2 ^ k) e))
  ]
]

pub power_le_cancel : (i j : ℕ) → 2 ^ i ≤ 2 ^ j → i ≤ j
power_le_cancel i j h = elim (cases_lt j i) [
  | inl a ↦ absurd (omega (arith, pow_below j i a))
  | inr a ↦ a
]

pub power_cancel : (i j : ℕ) → 2 ^ i ≡ 2 ^ j → i ≡ j
power_cancel i j e =
    let a : i ≤ j = power_le_cancel i j (omega arith) in
    let b : j ≤ i = power_le_cancel j i (omega arith) in
    omega arith

-- what lies between two powers that follow each other is a power only at the lower end
pub power_between : (n i : ℕ) → 2 ^ i ≤ n → n < 2 * 2 ^ i → (k : ℕ) × (n ≡ 2 ^ k) → n ≡ 2 ^ i
power_between n i a b p =
    let k = p.0 in let e : n ≡ 2 ^ k = p.1 in
    let s : 2 ^ suc i ≡ 2 ^ i * 2 = pow-suc 2 i in
    let x : i ≤ k = power_le_cancel i k (omega arith) in
    let y : k < suc i = power_lt_cancel k (suc i) (omega arith) in
    let z : k ≡ i = omega arith in
    omega (arith, ap (λ j. 2 ^ j) z, e)

-- `1 << k` in a machine word
pub one_shifted_left : (k : ℕ) → k < 64 → 1 * 2 ^ k % 18446744073709551616 ≡ 2 ^ k
one_shifted_left k h = (one_shifted k 18446744073709551615 refl h).0

-- the same for a size below another that fits
pub size_of_shift : (k top : ℕ) → k ≤ top → top < 64 → 1 * 2 ^ k % 18446744073709551616 ≡ 2 ^ k
size_of_shift k top h t = one_shifted_left k (omega arith)

-- a power of two is a multiple of each smaller one
pub power_divides : (n c : ℕ) → (k : ℕ) × (n ≡ 2 ^ k) → (k : ℕ) × (c ≡ 2 ^ k) → c ≤ n → n / c * c ≡ n
power_divides n c p q h =
    let k = p.0 in let a = q.0 in
    let less : a ≤ k = power_le_cancel a k (omega (arith, p.1, q.1)) in
    let b = k - a in
    let sum : b + a ≡ k = omega arith in
    let product : n ≡ 2 ^ b * c = p.1 ∙ (ap (λ j. 2 ^ j) (sym sum) ∙ (pow-add 2 b a ∙ ap (λ x. 2 ^ b * x) (sym q.1))) in
    let pos : 0 < c = omega (arith, q.1, pow_pos a) in
    let quotient : n / c ≡ 2 ^ b = ap (λ x. x / c) product ∙ mul-div_cancel (2 ^ b) pos in
    ap (λ x. x * c) quotient ∙ sym product
