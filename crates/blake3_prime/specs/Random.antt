-- The words that the random inputs are made of: those of the generator xoshiro256++ from the seed 1, each cut to its low
-- 32 bits, in order.
use Rattle.std.specs.Prelude.{ℕ, zero, suc, ◌+◌, ◌*◌, ◌%◌, ◌^◌, List}
use Rattle.p3_field.specs.Poly.{tabulate}
use Rattle.rand_xoshiro.specs.SplitMix64.{splitmix_seed}
use Rattle.rand_xoshiro.specs.Xoshiro256.{of_seed, plus_plus}

-- the generator's state after n words
unfoldable pub state_after : ℕ → List ℕ
state_after zero = of_seed (splitmix_seed 32 1)
state_after (suc n) = (plus_plus (state_after n)).1

-- the low 32 bits of its word n
unfoldable pub random_word : ℕ → ℕ
random_word n = (plus_plus (state_after n)).0 % 2 ^ 32

-- the next 24 words from word n on: 16 of a block, then 8 of a chaining value
abbrev pub random_input : ℕ → List ℕ
random_input n = tabulate 24 (λ k. random_word (n + k))

-- the inputs of so many compressions, one after another
abbrev pub random_inputs : ℕ → List (List ℕ)
random_inputs rows = tabulate rows (λ i. random_input (24 * i))
