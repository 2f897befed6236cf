-- Pairs of words of 64 compressions.
use Rattle.std.specs.Prelude.{◌≡◌, ℕ, ◌+◌, ◌*◌, ◌^◌, ◌<◌, List}
use Rattle.std.specs.Prelude.{slice_index_or as get_or}
use Rattle.blake3_binary.specs.declared.input.Blake3CompressionInput.{Blake3CompressionInput}
use Rattle.blake3_binary.specs.Rows.{compression}

-- the number has these two words, the first in its low half
pub record IsPair (n low high : ℕ) : Type 0 where
  pub low_word : low < 2 ^ 32
  pub high_word : high < 2 ^ 32
  pub pair : n ≡ high * 2 ^ 32 + low

-- the first n items are the words 2 p and 2 p + 1 of compressions
abbrev pub ArePairs : List ℕ → List Blake3CompressionInput → ℕ → ℕ → Type 0
ArePairs rows block p n = (j : ℕ) → j < n → IsPair (get_or rows j 0) (compression block j (2 * p)) (compression block j (2 * p + 1))
