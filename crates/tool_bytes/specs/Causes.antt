-- Counts of faults.
use Rattle.std.specs.Prelude.{◌≡◌, ℕ, ◌+◌, ◌-◌, ◌^◌, ◌<◌, ◌≤◌, min, Result, Ok, Err, OnOk, OnErr, IsErrAnd, ⊤}

-- a count after one more fault: it stops at its last value
abbrev pub next_count : ℕ → ℕ
next_count count = min (count + 1) (2 ^ 64 - 1)

-- the count rose, or stands at its last value
abbrev pub Rose : ℕ → ℕ → Type 0
Rose before now = next_count before ≤ now

-- a count never falls, an error comes only where it rose, an `Ok` only where it is as it was, and it stays below 2^64
pub record HasCause {T E : Type 0} (before now : ℕ) (result : Result T E) : Type 0 where
  pub later : before ≤ now
  pub failed : OnErr result (Rose before now)
  pub kept : OnOk result (now ≡ before)
  pub bounded : now < 2 ^ 64

-- a call fails, and counts one more fault
abbrev pub Fails : {X : Type 0} → (before now : ℕ) → Result ℕ X → Type 0
Fails before now result = IsErrAnd result (λ _. ⊤) × (now ≡ next_count before)

-- what a call answers where a stream below it gives this, and how the count moves: a number of at least `least` is the answer
abbrev pub CountsFault : {E X : Type 0} → Result ℕ E → (least before now : ℕ) → Result ℕ X → Type 0
CountsFault (Ok n) least before now result = (least ≤ n → (result ≡ Ok n) × (now ≡ before)) × (n < least → Fails before now result)
CountsFault (Err e) least before now result = Fails before now result
