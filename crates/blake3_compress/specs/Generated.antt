-- The words that a generator of rows holds, and the numbers that it pushes.
use Rattle.std.specs.Prelude.{◌≡◌, ℕ, ◌<◌, List, ◌++◌, map}
use Rattle.std.specs.Prelude.{slice_index_or as get_or}
use Rattle.p3_field.specs.Ring.{Ring, of_nat}
use Rattle.p3_field.specs.Poly.{tabulate}
use Rattle.blake3_compress.specs.declared.words.FourWords.{FourWords}
use Rattle.blake3_compress.specs.declared.words.StateWords.{StateWords}
use Rattle.blake3_compress.specs.Compress.{Quarter, State, Input}
use Rattle.air_core.specs.Joined.{joined}

-- four words as those of a step
abbrev pub quarter_of : FourWords → Quarter
quarter_of q = record { a = q.a; b = q.b; c = q.c; d = q.d }

-- the list has the input's first words, the block
abbrev pub AreFirst : List ℕ → Input → Type 0
AreFirst block x = (i : ℕ) → i < 16 → get_or block i 0 ≡ x i

-- the rows are those of the state
pub record IsState (s : StateWords) (v : State) : Type 0 where
  pub rows0 : s.row0 ≡ tabulate 4 (v 0)
  pub rows1 : s.row1 ≡ tabulate 4 (v 1)
  pub rows2 : s.row2 ≡ tabulate 4 (v 2)
  pub rows3 : s.row3 ≡ tabulate 4 (v 3)

-- the input with these 28 words
abbrev pub input_of : List ℕ → Input
input_of words i = get_or words i 0

-- numbers that were pushed to a list of elements
pub record Pushed {F : Type 0} (r : Ring F) (a b : List F) (cells : List ℕ) : Type 0 where
  pub pushed : b ≡ a ++ map (of_nat r) cells

-- the 16 words of an output, group after group
abbrev pub words_of : (ℕ → ℕ → ℕ) → List ℕ
words_of f = joined 4 (λ k. tabulate 4 (f k))
