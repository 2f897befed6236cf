-- The output as it is read from a row: by the words of the chaining value and of the last four steps.
use Rattle.std.specs.Prelude.{ℕ, ◌+◌, ◌*◌, ◌<◌, List, bit_xor}
use Rattle.std.specs.Int.{rotate_left, w32}
use Rattle.p3_field.specs.Ring.{Ring}
use Rattle.blake3_compress.specs.Compress.{Quarter, State, Input, chaining, word, step_of_word}
use Rattle.blake3_compress.specs.Reading.{HasWordAt, CountsAt}
use Rattle.blake3_binary.specs.Trees.{half_column}

-- the words after a step, by d and b after its first half and after it
abbrev pub step_words : (d1 b1 d2 b2 : ℕ) → Quarter
step_words d1 b1 d2 b2 = record { a = bit_xor d1 (rotate_left w32 d2 8); b = b2; c = bit_xor b1 (rotate_left w32 b2 7); d = d2 }

-- the last state, by these words of the last four steps, which are diagonals
abbrev pub state_read : (d1 b1 d2 b2 : ℕ → ℕ) → State
state_read d1 b1 d2 b2 row i = let g = step_of_word 1 row i in word (step_words (d1 g) (b1 g) (d2 g) (b2 g)) row

-- the cells that are read have these words at their columns, as Has says it
pub record AreReadAs (Has : ℕ → ℕ → Type 0) (x : Input) (d1 b1 d2 b2 : ℕ → ℕ) : Type 0 where
  pub chain : (i : ℕ) → i < 8 → Has (32 * i) (chaining x i)
  pub first_d : (g : ℕ) → g < 4 → Has (half_column 26 g + 31) (d1 g)
  pub first_b : (g : ℕ) → g < 4 → Has (half_column 26 g + 63) (b1 g)
  pub second_d : (g : ℕ) → g < 4 → Has (half_column 27 g + 31) (d2 g)
  pub second_b : (g : ℕ) → g < 4 → Has (half_column 27 g + 63) (b2 g)

-- the cells that are read are the bits of these words
abbrev pub AreRead : {F : Type 0} → Ring F → List F → Input → (d1 b1 d2 b2 : ℕ → ℕ) → Type 0
AreRead r row = AreReadAs (HasWordAt r row)

-- the cells that are read count as these words, whatever they are
abbrev pub AreCounted : {F : Type 0} → Ring F → List F → Input → (d1 b1 d2 b2 : ℕ → ℕ) → Type 0
AreCounted r row = AreReadAs (CountsAt r row)
