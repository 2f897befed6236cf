-- The logarithm of a chunk count is the least one that reaches the count.
use Rattle.std.proofs.Common.{◌≡◌, ◌⊎◌, ℕ, zero, suc, ◌+◌, ◌^◌, ◌<◌, ◌≤◌, inl, inr, refl, sym, ◌∙◌, subst, arith}
use Rattle.std.proofs.Math.Pow.{pow_mono}
use Rattle.std.proofs.lemmas.Bool.{cases_lt}
use Rattle.std.proofs.lemmas.Bool.Decides.{nat_tests}
use Rattle.batch_constraints.specs.Sizing.{powers_below, log_ceil}
use Rattle.batch_constraints.specs.Laws.Degrees.{below_power}

-- a power of two that is below n counts, and one that isn't doesn't
counted : (n m : ℕ) → 2 ^ m < n → powers_below n (suc m) ≡ powers_below n m + 1
counted n m h = grind (arith, nat_tests)

not_counted : (n m : ℕ) → n ≤ 2 ^ m → powers_below n (suc m) ≡ powers_below n m
not_counted n m h = grind (arith, nat_tests)

-- at most all of them
at_most_all_powers : (n m : ℕ) → powers_below n m ≤ m
at_most_all_powers n zero = omega arith
at_most_all_powers n (suc m) =
    let rest = at_most_all_powers n m in
    elim (cases_lt (2 ^ m) n) [
      | inl lt ↦ let e = counted n m lt in omega (arith, e, rest)
      | inr le ↦ let e = not_counted n m le in omega (arith, e, rest)
    ]

-- what reaches n is at least the count
at_most : (n j m : ℕ) → n ≤ 2 ^ j → powers_below n m ≤ j
at_most n j zero h = omega arith
at_most n j (suc m) h =
    let rest = at_most n j m h in
    let bound = at_most_all_powers n m in
    elim (cases_lt (2 ^ m) n) [
      | inl lt ↦
          elim (cases_lt m j) [
            | inl below ↦ let e = counted n m lt in omega (arith, e, bound, below)
            | inr le ↦ absurd (let up : 2 ^ j ≤ 2 ^ m = pow_mono le in omega (arith, up, lt, h))
          ]
      | inr le ↦ let e = not_counted n m le in omega (arith, e, rest)
    ]

-- either all of the first powers are below n, or their count reaches it
reaches : (n m : ℕ) → (powers_below n m ≡ m) ⊎ (n ≤ 2 ^ powers_below n m)
reaches n zero = inl refl
reaches n (suc m) =
    let bound = at_most_all_powers n m in
    elim (cases_lt (2 ^ m) n) [
      | inl lt ↦
          let e = counted n m lt in
          elim (reaches n m) [
            | inl all ↦ inl (omega (arith, e, all))
            | inr enough ↦ absurd (let up : 2 ^ powers_below n m ≤ 2 ^ m = pow_mono bound in omega (arith, up, enough, lt))
          ]
      | inr le ↦
          let e = not_counted n m le in
          let P : ℕ → Type 0 = λ k. n ≤ 2 ^ k in
          elim (reaches n m) [
            | inl all ↦ inr (subst P (sym (e ∙ all)) le)
            | inr enough ↦ inr (subst P (sym e) enough)
          ]
    ]

pub log_ceil_enough : (n : ℕ) → n ≤ 2 ^ log_ceil n
unfolding log_ceil
log_ceil_enough n =
    let P : ℕ → Type 0 = λ k. n ≤ 2 ^ k in
    elim (reaches n n) [
      | inl all ↦ subst P (sym all) (below_power n)
      | inr enough ↦ enough
    ]

pub log_ceil_least : (n j : ℕ) → n ≤ 2 ^ j → log_ceil n ≤ j
unfolding log_ceil
log_ceil_least n j h = at_most n j n h
