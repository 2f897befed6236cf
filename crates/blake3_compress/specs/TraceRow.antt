-- The row of one compression: its words in order, each by its bits or by its two limbs, the lowest first.
use Rattle.std.specs.Prelude.{ℕ, zero, suc, ◌+◌, ◌-◌, ◌*◌, ◌/◌, ◌%◌, ◌^◌, ◌<◌, List, ◌++◌, map}
use Rattle.std.specs.Int.{bit_at}
use Rattle.p3_field.specs.Ring.{Ring, of_nat}
use Rattle.p3_field.specs.Poly.{tabulate}
use Rattle.air_core.specs.Joined.{joined}
use Rattle.air_gadgets.specs.Words.{limb}
use Rattle.blake3_compress.specs.Compress.{State, Input, words_taken, half_quarter_round, step_of_word, word, first_state, scheduled, output_of}

-- n words by their bits
abbrev pub bit_cells : ℕ → (ℕ → ℕ) → List ℕ
bit_cells n w = joined n (λ i. tabulate 32 (bit_at (w i)))

-- n words by their limbs
abbrev pub limb_cells : ℕ → (ℕ → ℕ) → List ℕ
limb_cells n w = joined n (λ i. tabulate 2 (limb (w i)))

-- A round has four half rounds: the first and the second half of the column steps, then of the diagonal steps. This
-- is what half round n, counted over all rounds, takes: columns or diagonals,
abbrev pub turn_of : ℕ → ℕ
turn_of n = n % 4 / 2

-- how far it turns d and b,
abbrev pub d_turn : ℕ → ℕ
d_turn n = 16 - 8 * (n % 2)

abbrev pub b_turn : ℕ → ℕ
b_turn n = 12 - 5 * (n % 2)

-- and which word of the block its step g takes in
abbrev pub message_of : ℕ → ℕ → ℕ
message_of n g = scheduled (n / 4) (8 * turn_of n + 2 * g + n % 2)

-- half a round
abbrev pub half_round : Input → ℕ → State → State
half_round x n v row column =
    word (half_quarter_round (d_turn n) (b_turn n) (words_taken (turn_of n) v (step_of_word (turn_of n) row column)) (x (message_of n (step_of_word (turn_of n) row column)))) row

-- the state after n half rounds
unfoldable pub state : Input → ℕ → State
state x zero = first_state x
state x (suc n) = half_round x n (state x n)

-- a state: rows 0 and 2 by limbs, rows 1 and 3 by bits
abbrev pub state_cells : State → List ℕ
state_cells v = limb_cells 4 (v 0) ++ bit_cells 4 (v 1) ++ limb_cells 4 (v 2) ++ bit_cells 4 (v 3)

-- The row as numbers: the input, rows 0 and 2 of the first state, the state after each half round, the last state's
-- row 2 and the output.
unfoldable pub row_cells : Input → List ℕ
row_cells x =
    bit_cells 28 x
    ++ limb_cells 4 (first_state x 0)
    ++ limb_cells 4 (first_state x 2)
    ++ joined 28 (λ n. state_cells (state x (suc n)))
    ++ bit_cells 4 (state x 28 2)
    ++ joined 4 (λ k. bit_cells 4 (output_of x (state x 28) k))

-- The row of one compression.
abbrev pub trace_row : {F : Type 0} → Ring F → Input → List F
trace_row r x = map (of_nat r) (row_cells x)

-- the input's words are words
abbrev pub AreWords : Input → Type 0
AreWords x = (i : ℕ) → i < 28 → x i < 2 ^ 32
