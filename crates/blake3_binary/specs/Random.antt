-- The words that the random inputs are made of: those of the generator xoshiro256++ from the seed 1, each cut to its low
-- 32 bits, in order.
use Rattle.std.specs.Prelude.{ℕ, zero, suc, ◌+◌, ◌*◌, ◌%◌, ◌^◌, List}
use Rattle.p3_field.specs.Poly.{tabulate}
use Rattle.rand_xoshiro.specs.SplitMix64.{splitmix_seed}
use Rattle.rand_xoshiro.specs.Xoshiro256.{of_seed, plus_plus}
use Rattle.blake3_binary.specs.declared.input.Blake3CompressionInput.{Blake3CompressionInput}

-- the generator's state after n words
unfoldable pub state_after : ℕ → List ℕ
state_after zero = of_seed (splitmix_seed 32 1)
state_after (suc n) = (plus_plus (state_after n)).1

-- the low 32 bits of its word n
unfoldable pub random_word : ℕ → ℕ
random_word n = (plus_plus (state_after n)).0 % 2 ^ 32

-- the words from word n on
abbrev pub random_words : ℕ → ℕ → List ℕ
random_words n many = tabulate many (λ k. random_word (n + k))

-- compression i: the next 8 words are the chaining value, the 16 after these the block, the counter is i, the block is whole
-- (64 bytes), and there are no flags
abbrev pub binary_random_input : ℕ → Blake3CompressionInput
binary_random_input i = record { chaining_value = random_words (24 * i) 8; block = random_words (24 * i + 8) 16; counter = i; block_len = 64; flags = 0 }

-- the inputs of so many compressions
abbrev pub binary_random_inputs : ℕ → List Blake3CompressionInput
binary_random_inputs rows = tabulate rows binary_random_input
