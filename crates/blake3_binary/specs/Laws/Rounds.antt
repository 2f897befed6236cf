-- The induction over the half rounds on words of any values: the constraints of the steps are zero exactly where the
-- cells have the values that the steps make of the input's.
use Rattle.std.proofs.Common.{◌≡◌, ℕ, zero, suc, ◌+◌, ◌*◌, ◌/◌, ◌%◌, ◌<◌, ◌≤◌, List, false, refl, subst, arith}
use Rattle.std.specs.Prelude.{All, ◌↔◌}
use Rattle.std.specs.Int.{bit_at}
use Rattle.p3_field.specs.Ring.{Ring, RingLaws, of_nat}
use Rattle.air_core.specs.declared.cells.Cell.{Cell}
use Rattle.air_core.specs.declared.cells.Cell.TheVariants.{Main}
use Rattle.air_core.specs.declared.cells.ExtCell.{ExtCell}
use Rattle.air_core.specs.Tree.{Tree, Reading, eval_tree}
use Rattle.air_gadgets.specs.Words.{cells_reading, Vanish}
use Rattle.blake3_compress.specs.Compress.{iv, column_of, step_of_word}
use Rattle.air_core.specs.Joined.{joined}
use Rattle.blake3_compress.specs.TraceRow.{turn_of, d_turn, b_turn, message_of}
use Rattle.blake3_binary.specs.Trees.{from_column, QuarterOf, word_in_row, four_taken, laid, half_column, words_made, words_after, half_step_trees, binary_steps_trees}
use Rattle.air_core.specs.Laws.Lists.{all_of_joined, all_joined}
use Rattle.blake3_compress.specs.Laws.Schedule.{message_below}
use Rattle.blake3_binary.specs.Laws.Values.{made, Have, HaveFour, HaveMade, half_made, after_made}

-- what holds of all items of the halves of the steps
pub all_of_laid : {X : Type 0} (Q : X → Type 0) (f : ℕ → ℕ → List X) → All Q (laid f) → (n g : ℕ) → n < 28 → g < 4 → All Q (f n g)
unfolding laid
all_of_laid Q f h n g ln lg =
    let k = 4 * (n / 2) + g in
    let p = n % 2 in
    let e : 2 * (k / 4) + p ≡ n = omega (arith, lg) in
    let o : k % 4 ≡ g = omega (arith, lg) in
    let here = all_of_joined Q 2 (λ j. f (2 * (k / 4) + j) (k % 4)) (all_of_joined Q 56 (λ l. joined 2 (λ j. f (2 * (l / 4) + j) (l % 4))) h k (omega (arith, ln, lg))) p (omega arith) in
    subst (λ m. All Q (f m g)) e (subst (λ m. All Q (f (2 * (k / 4) + p) m)) o here)

pub all_laid : {X : Type 0} (Q : X → Type 0) (f : ℕ → ℕ → List X) → ((n g : ℕ) → n < 28 → g < 4 → All Q (f n g)) → All Q (laid f)
unfolding laid
all_laid Q f h =
    all_joined Q 56 (λ k. joined 2 (λ j. f (2 * (k / 4) + j) (k % 4))) (λ k lk.
    all_joined Q 2 (λ j. f (2 * (k / 4) + j) (k % 4)) (λ j lj. h (2 * (k / 4) + j) (k % 4) (omega (arith, lk, lj)) (omega arith)))

module _ {A : Type 0} (r : Ring A) (cells : ℕ → A) where
  -- the first state's values, and those of a message word, where the input's cells have these
  abbrev pub first_values : ℕ → ℕ → ℕ → A
  first_values zero column i = cells (32 * column + i)
  first_values (suc zero) column i = cells (128 + 32 * column + i)
  first_values (suc (suc zero)) column i = of_nat r (bit_at (iv column) i)
  first_values (suc (suc (suc n))) column i = cells (768 + 32 * column + i)

  abbrev pub message_values : ℕ → ℕ → A
  message_values j i = cells (256 + 32 * j + i)

  abbrev pub values_half : ℕ → (ℕ → ℕ → ℕ → A) → ℕ → ℕ → ℕ → A
  values_half n v row column =
      let g = step_of_word (turn_of n) row column in
      word_in_row (made r (d_turn n) (b_turn n) (four_taken (turn_of n) v g) (message_values (message_of n g))) row

  -- the state's values after n half rounds
  unfoldable pub values_after : ℕ → ℕ → ℕ → ℕ → A
  values_after zero = first_values
  values_after (suc n) = values_half n (values_after n)

  module _ (L : RingLaws r) (two : r.add r.one r.one ≡ r.zero) (at : Cell → A) (at_ext : ExtCell → A) (inputs : (k : ℕ) → k < 896 → at (Main false k) ≡ cells k) where
    abbrev rd : Reading A A
    rd = cells_reading r at at_ext

    abbrev Zero : Tree A → Type 0
    Zero v = eval_tree rd v ≡ r.zero

    -- the cells of step g of half round n have the values that it makes
    abbrev pub StepMade : ℕ → ℕ → Type 0
    StepMade n g =
        HaveMade r rd (d_turn n) (b_turn n) (four_taken (turn_of n) (values_after n) g) (message_values (message_of n g))
        (from_column (half_column n g)) (from_column (half_column n g + 31)) (from_column (half_column n g + 63))

    abbrev StateMade : ℕ → Type 0
    StateMade n = (row column : ℕ) → column < 4 → Have rd 32 (words_after r n row column) (values_after n row column)

    input_word : (c : ℕ) → c + 32 ≤ 896 → Have rd 32 (from_column c) (λ i. cells (c + i))
    input_word c le i lt = inputs (c + i) (omega (arith, le, lt))

    first_made : StateMade 0
    unfolding words_after values_after
    first_made zero column lt i li = inputs (32 * column + i) (omega (arith, lt, li))
    first_made (suc zero) column lt i li = inputs (128 + 32 * column + i) (omega (arith, lt, li))
    first_made (suc (suc zero)) column lt i li = refl
    first_made (suc (suc (suc n))) column lt i li = inputs (768 + 32 * column + i) (omega (arith, lt, li))

    taken_made : (n g : ℕ) → StateMade n → HaveFour rd (four_taken (turn_of n) (words_after r n) g) (four_taken (turn_of n) (values_after n) g)
    taken_made n g h =
        let t = turn_of n in record {
          a_values = h 0 (column_of t 0 g) (omega arith);
          b_values = h 1 (column_of t 1 g) (omega arith);
          c_values = h 2 (column_of t 2 g) (omega arith);
          d_values = h 3 (column_of t 3 g) (omega arith);
        }

    step_made : (n g : ℕ) → g < 4 → StateMade n → Vanish r rd (half_step_trees r n g) ↔ StepMade n g
    unfolding half_step_trees
    step_made n g lg h =
        let lm : message_of n g < 16 = message_below n g lg in
        half_made r L two at at_ext (d_turn n) (b_turn n) (four_taken (turn_of n) (words_after r n) g)
        (from_column (256 + 32 * message_of n g)) (from_column (half_column n g)) (from_column (half_column n g + 31)) (from_column (half_column n g + 63))
        (four_taken (turn_of n) (values_after n) g) (message_values (message_of n g)) (taken_made n g h) (input_word (256 + 32 * message_of n g) (omega (arith, lm)))

    -- the state after a half round whose cells are made
    next_made : (n : ℕ) → StateMade n → ((g : ℕ) → g < 4 → StepMade n g) → StateMade (suc n)
    unfolding words_after values_after
    next_made n h p row column lt =
        let t = turn_of n in
        let g = step_of_word t row column in
        let q = four_taken t (words_after r n) g in
        let v = four_taken t (values_after n) g in
        let here : StepMade n g = p g (omega arith) in
        let ac = after_made r L two at at_ext (d_turn n) (b_turn n) q (from_column (half_column n g)) (from_column (half_column n g + 31)) (from_column (half_column n g + 63))
        v (message_values (message_of n g)) (taken_made n g h) here in
        go row (words_made (d_turn n) (b_turn n) q (from_column (half_column n g + 31)) (from_column (half_column n g + 63)))
        (made r (d_turn n) (b_turn n) v (message_values (message_of n g)))
        (record { a_values = ac.0; b_values = here.b_made; c_values = ac.1; d_values = here.d_made })
      where
        go : (row : ℕ) (q : QuarterOf (ℕ → Tree A)) (v : QuarterOf (ℕ → A)) → HaveFour rd q v → Have rd 32 (word_in_row q row) (word_in_row v row)
        go zero q v h = h.a_values
        go (suc zero) q v h = h.b_values
        go (suc (suc zero)) q v h = h.c_values
        go (suc (suc (suc n))) q v h = h.d_values

    states_made : ((n g : ℕ) → n < 28 → g < 4 → StateMade n → StepMade n g) → (n : ℕ) → n ≤ 28 → StateMade n
    states_made p zero le = first_made
    states_made p (suc n) le =
        let before = states_made p n (omega (arith, le)) in
        next_made n before (λ g lg. p n g (omega (arith, le)) lg before)

    -- the constraints of all steps
    pub steps_made : Vanish r rd (binary_steps_trees r) ↔ ((n g : ℕ) → n < 28 → g < 4 → StepMade n g)
    unfolding binary_steps_trees
    steps_made = (
      λ z n g ln lg.
          let each : (n g : ℕ) → n < 28 → g < 4 → StateMade n → StepMade n g = λ n g ln lg h. (step_made n g lg h).0 (all_of_laid Zero (half_step_trees r) z n g ln lg) in
          each n g ln lg (states_made each n (omega (arith, ln))),
      λ p. all_laid Zero (half_step_trees r) (λ n g ln lg. (step_made n g lg (states_made (λ n g ln lg h. p n g ln lg) n (omega (arith, ln)))).1 (p n g ln lg)),
    )
