-- Numbers that degrees and chunk counts rest on.
use Rattle.std.proofs.Common.{◌≡◌, ℕ, zero, suc, ◌+◌, ◌*◌, ◌^◌, ◌<◌, ◌≤◌, List, [], ◌∷◌, length, min, inl, inr, refl, arith}
use Rattle.std.specs.Int.{div_ceil}
use Rattle.std.proofs.Math.Nat.{pow-suc}
use Rattle.std.proofs.Math.Pow.{pow_mono}
use Rattle.std.proofs.lemmas.Nat.{mul-le, pow_pos}
use Rattle.std.proofs.lemmas.Bool.{cases_lt}
use Rattle.std.proofs.lemmas.Bool.Decides.{nat_tests}
use Rattle.std.proofs.lemmas.Grind.{div_ceil_times}
use Rattle.air_core.specs.Tree.{Tree}
use Rattle.batch_constraints.specs.Sizing.{powers_below, log_ceil, constraint_degree, domain_degree, largest_multiple, largest_degree}

too_many : (d n k c : ℕ) → k < c → d ≤ k * n → c * n < d + n → ⊥
too_many d n k c lt e h =
    let step : (k + 1) * n ≤ c * n = mul-le (k + 1) n c n (omega (arith, lt)) (omega arith) in
    omega (arith, step, e, h)

-- what a multiple reaches has at most this quotient, rounded up
pub div_ceil_least : (d n k : ℕ) → 0 < n → d ≤ k * n → div_ceil d n ≤ k
div_ceil_least d n k p enough =
    let bounds = div_ceil_times d n p in
    elim (cases_lt k (div_ceil d n)) [
      | inl below ↦ absurd (too_many d n k (div_ceil d n) below enough bounds.1)
      | inr le ↦ le
    ]

-- the least multiple that reaches a number is its quotient, rounded up
pub is_div_ceil : (d n k : ℕ) → 0 < n → d ≤ k * n → ((j : ℕ) → d ≤ j * n → k ≤ j) → k ≡ div_ceil d n
is_div_ceil d n k p enough least =
    let c = div_ceil d n in
    let bounds = div_ceil_times d n p in
    let above : k ≤ c = least c bounds.0 in
    elim (cases_lt k c) [
      | inl below ↦ absurd (too_many d n k c below enough bounds.1)
      | inr le ↦ omega (arith, above, le)
    ]

pub powers_below_least : (n k m : ℕ) → ((j : ℕ) → j < k → 2 ^ j < n) → ((j : ℕ) → k ≤ j → n ≤ 2 ^ j) → powers_below n m ≡ min m k
powers_below_least n k zero below above = omega arith
powers_below_least n k (suc m) below above =
    let rest = powers_below_least n k m below above in
    elim (cases_lt m k) [
      | inl lt ↦ let h = below m lt in grind (arith, nat_tests)
      | inr le ↦ let h = above m le in grind (arith, nat_tests)
    ]

pub below_power : (n : ℕ) → n ≤ 2 ^ n
below_power zero = omega arith
below_power (suc n) =
    let rest = below_power n in
    let more = pow-suc 2 n in
    let some = pow_pos n in
    omega (arith, rest, more, some)

-- the least exponent that reaches a number
pub is_log_ceil : (n k : ℕ) → n ≤ 2 ^ k → ((j : ℕ) → n ≤ 2 ^ j → k ≤ j) → k ≡ log_ceil n
unfolding log_ceil
is_log_ceil n k enough least =
    let below : (j : ℕ) → j < k → 2 ^ j < n = λ j lt. elim (cases_lt (2 ^ j) n) [
      | inl h ↦ h
      | inr le ↦ absurd (let h = least j le in omega (arith, h, lt))
    ] in
    let above : (j : ℕ) → k ≤ j → n ≤ 2 ^ j = λ j le. let h : 2 ^ k ≤ 2 ^ j = pow_mono le in omega (arith, h, enough) in
    let within : k ≤ n = least n (below_power n) in
    let count = powers_below_least n k n below above in
    omega (arith, within, count)

-- the degree of constraints, without periodic columns and with them
pub degree_without : {F : Type 0} (n : ℕ) (periods : List ℕ) (ts : List (Tree F)) → length periods ≡ 0 → constraint_degree n periods ts ≡ largest_multiple 0 ts
degree_without n [] ts h = refl
degree_without n (p ∷ ps) ts h = absurd (omega (arith, h))

pub degree_with : {F : Type 0} (n : ℕ) (periods : List ℕ) (ts : List (Tree F)) → 0 < length periods → constraint_degree n periods ts ≡ div_ceil (largest_degree n periods ts) n
degree_with n [] ts h = absurd (omega (arith, h))
degree_with n (p ∷ ps) ts h = refl

-- the degree over a domain whose transition selector has a degree
pub degree_on_other : {F : Type 0} (t n : ℕ) (periods : List ℕ) (ts : List (Tree F)) → 0 < t → domain_degree t n periods ts ≡ largest_multiple t ts
degree_on_other zero n periods ts h = absurd (omega (arith, h))
degree_on_other (suc t) n periods ts h = refl
