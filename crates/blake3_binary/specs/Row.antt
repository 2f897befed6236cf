-- The row of one compression over fields of characteristic 2: its words in order, each by its bits, the lowest first.
use Rattle.std.specs.Prelude.{ℕ, suc, ◌+◌, List, ◌++◌, map}
use Rattle.std.specs.Int.{bit_at}
use Rattle.p3_field.specs.Ring.{Ring, of_nat}
use Rattle.p3_field.specs.Poly.{tabulate}
use Rattle.blake3_compress.specs.Compress.{Quarter, Input, chaining, words_taken, half_quarter_round}
use Rattle.blake3_compress.specs.TraceRow.{bit_cells, turn_of, d_turn, b_turn, message_of, state}
use Rattle.blake3_binary.specs.Sums.{carry}
use Rattle.blake3_binary.specs.Trees.{laid}

-- of half a step, from these words to those: the carries of a + b into bits 1 to 31, then d and b after it
abbrev pub quarter_cells : Quarter → Quarter → List ℕ
quarter_cells before after = tabulate 31 (λ i. carry before.a before.b (suc i)) ++ tabulate 32 (bit_at after.d) ++ tabulate 32 (bit_at after.b)

-- the words before step g of half round n, and after it
abbrev pub before_half : Input → ℕ → ℕ → Quarter
before_half x n g = words_taken (turn_of n) (state x n) g

abbrev pub after_half : Input → ℕ → ℕ → Quarter
after_half x n g = half_quarter_round (d_turn n) (b_turn n) (before_half x n g) (x (message_of n g))

abbrev pub half_cells : Input → ℕ → ℕ → List ℕ
half_cells x n g = quarter_cells (before_half x n g) (after_half x n g)

-- The row as numbers: the chaining value, the block, the last four words, and the 56 steps by halves.
unfoldable pub binary_cells : Input → List ℕ
binary_cells x = bit_cells 8 (chaining x) ++ bit_cells 16 x ++ bit_cells 4 (λ i. x (24 + i)) ++ laid (half_cells x)

-- The row of one compression.
abbrev pub binary_trace_row : {F : Type 0} → Ring F → Input → List F
binary_trace_row r x = map (of_nat r) (binary_cells x)
