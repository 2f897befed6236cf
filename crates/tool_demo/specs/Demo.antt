-- The job that a number stands for: five tables, one of each kind, made of the words of the generator xoshiro256++ whose seed is the number.
use Rattle.std.specs.Prelude.{ℕ, zero, suc, ◌+◌, ◌*◌, ◌%◌, ◌^◌, ◌==◌, List, [], ◌∷◌, map, count_by}
use Rattle.p3_field.specs.BabyBear.{baby_bear_ring}
use Rattle.p3_field.specs.Poly.{tabulate}
use Rattle.p3_field.specs.Ring.{of_nat}
use Rattle.p3_field.specs.declared.baby_bear.BabyBear.{BabyBear}
use Rattle.law_tool_valid.specs.Job.{JobTable, swap_of, wheel_of, take_of, give_of, hash_of}
use Rattle.rand_xoshiro.specs.SplitMix64.{splitmix_seed}
use Rattle.rand_xoshiro.specs.Xoshiro256.{of_seed, plus_plus}

-- the generator's state after n words
unfoldable pub state_after : ℕ → ℕ → List ℕ
state_after seed zero = of_seed (splitmix_seed 32 seed)
state_after seed (suc n) = (plus_plus (state_after seed n)).1

-- its word n, of 64 bits
unfoldable pub word_at : ℕ → ℕ → ℕ
word_at seed n = (plus_plus (state_after seed n)).0

-- the number as a field element
abbrev pub element_of : ℕ → BabyBear
element_of n = of_nat baby_bear_ring n

-- so many numbers below 64: the words from word 2 on, each modulo 64
unfoldable pub taken_numbers : ℕ → ℕ → List ℕ
taken_numbers seed count = tabulate count (λ i. word_at seed (2 + i) % 64)

-- the elements of the numbers below `most`, in order, each with how often its number is among these
unfoldable pub given_pairs : ℕ → List ℕ → List (BabyBear × ℕ)
given_pairs most taken = tabulate most (λ v. (element_of v, count_by (λ x. x == v) taken))

-- row i of compressions: the low 32 bits of each of 24 words, from word 1026 on
abbrev pub hash_row : ℕ → ℕ → List ℕ
hash_row seed i = tabulate 24 (λ k. word_at seed (1026 + 24 * i + k) % 2 ^ 32)

-- so many rows
unfoldable pub hash_rows : ℕ → ℕ → List (List ℕ)
hash_rows seed count = tabulate count (hash_row seed)

-- The job: 1024 rows that swap, beginning with the first two words; a wheel of 1024 rows; 1024 numbers below 64 to take, and each number
-- below 64 given as often as it is taken; and eight rows of compressions. A word stands for its element modulo the field's order.
unfoldable pub demo_job : ℕ → List (JobTable BabyBear)
demo_job number =
    let taken = taken_numbers number 1024 in
    swap_of 10 (element_of (word_at number 0)) (element_of (word_at number 1))
    ∷ wheel_of 10
    ∷ take_of (map element_of taken)
    ∷ give_of (given_pairs 64 taken)
    ∷ hash_of (hash_rows number 8)
    ∷ []
