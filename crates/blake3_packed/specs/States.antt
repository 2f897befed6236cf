-- The states of 64 compressions, and the cells of the steps in each lane.
use Rattle.std.specs.Prelude.{ℕ, zero, suc, ◌+◌, ◌*◌, List, ◌++◌, cond, nat_lt}
use Rattle.blake3_compress.specs.Compress.{Quarter, State, Input, iv, chaining, words_taken, half_quarter_round}
use Rattle.blake3_compress.specs.TraceRow.{bit_cells, turn_of, d_turn, b_turn, message_of, half_round}
use Rattle.blake3_binary.specs.Trees.{laid}
use Rattle.blake3_binary.specs.Row.{quarter_cells}
use Rattle.blake3_packed.specs.declared.state.StatePlanes.{StatePlanes}
use Rattle.blake3_packed.specs.declared.state.StepPlanes.{StepPlanes}
use Rattle.blake3_packed.specs.Lanes.{ArePlanes, AreWordPlanes}

-- planes of the four words of a step
pub record AreQuarter (s : StepPlanes) (q : ℕ → Quarter) : Type 0 where
  pub a_planes : ArePlanes s.a (λ j. (q j).a)
  pub b_planes : ArePlanes s.b (λ j. (q j).b)
  pub c_planes : ArePlanes s.c (λ j. (q j).c)
  pub d_planes : ArePlanes s.d (λ j. (q j).d)

-- the rows are planes of the lanes' states
pub record HasStates (s : StatePlanes) (v : ℕ → State) : Type 0 where
  pub rows0 : AreWordPlanes 4 s.row0 (λ j. v j 0)
  pub rows1 : AreWordPlanes 4 s.row1 (λ j. v j 1)
  pub rows2 : AreWordPlanes 4 s.row2 (λ j. v j 2)
  pub rows3 : AreWordPlanes 4 s.row3 (λ j. v j 3)

-- what step g of half round n makes of these words, and its cells
abbrev pub made : Input → ℕ → ℕ → Quarter → Quarter
made x n g q = half_quarter_round (d_turn n) (b_turn n) q (x (message_of n g))

abbrev pub made_cells : Input → ℕ → ℕ → Quarter → List ℕ
made_cells x n g q = quarter_cells q (made x n g q)

-- both halves of step g of the p-th four steps: the words after it, and its cells
abbrev pub made_twice : Input → ℕ → ℕ → Quarter → Quarter
made_twice x p g q = made x (2 * p + 1) g (made x (2 * p) g q)

abbrev pub step_cells : Input → ℕ → ℕ → Quarter → List ℕ
step_cells x p g q = made_cells x (2 * p) g q ++ made_cells x (2 * p + 1) g (made x (2 * p) g q)

-- 1 for a lane that has an input, 0 for one that has none
abbrev pub presence : ℕ → ℕ → ℕ
presence n j = cond (nat_lt j n) 1 0

-- the first state of a lane: the initial value stands in present lanes alone
abbrev pub lane_first : Input → ℕ → State
lane_first x present zero column = chaining x column
lane_first x present (suc zero) column = chaining x (4 + column)
lane_first x present (suc (suc zero)) column = present * iv column
lane_first x present (suc (suc (suc n))) column = x (24 + column)

-- the state of a lane after n half rounds
unfoldable pub lane_state : Input → ℕ → ℕ → State
lane_state x present zero = lane_first x present
lane_state x present (suc n) = half_round x n (lane_state x present n)

-- the cells of a lane
abbrev pub lane_half : Input → ℕ → ℕ → ℕ → List ℕ
lane_half x present n g = made_cells x n g (words_taken (turn_of n) (lane_state x present n) g)

unfoldable pub lane_cells : Input → ℕ → List ℕ
lane_cells x present = bit_cells 8 (chaining x) ++ bit_cells 16 x ++ bit_cells 4 (λ i. x (24 + i)) ++ laid (lane_half x present)
