-- What the steps make of bits are the bits of one compression.
use Rattle.std.proofs.Common.{◌≡◌, ℕ, zero, suc, ◌+◌, ◌-◌, ◌*◌, ◌/◌, ◌%◌, ◌<◌, ◌++◌, List, length, get_or, refl, sym, ◌∙◌, ap, subst, arith, inl, inr, length-append}
use Rattle.std.specs.Int.{bit_at}
use Rattle.std.proofs.lemmas.Bool.{cases_lt}
use Rattle.std.proofs.lemmas.List.{get_or_append_left, get_or-append-add, get_or-map, length-map}
use Rattle.p3_field.specs.Ring.{Ring, RingLaws, of_nat}
use Rattle.p3_field.specs.Poly.{tabulate}
use Rattle.p3_field.specs.Laws.Tabulate.{length-tabulate, get_or-tabulate}
use Rattle.air_core.specs.declared.cells.Cell.{Cell}
use Rattle.air_core.specs.declared.cells.ExtCell.{ExtCell}
use Rattle.air_core.specs.Tree.{Tree, constant}
use Rattle.air_gadgets.specs.Words.{cells_reading}
use Rattle.blake3_compress.specs.Compress.{Quarter, word, half_quarter_round, Input, chaining, column_of, step_of_word}
use Rattle.blake3_compress.specs.TraceRow.{bit_cells, turn_of, d_turn, b_turn, message_of, state, AreWords}
use Rattle.blake3_binary.specs.Meanings.{AreWords4, RepresentBits}
use Rattle.blake3_binary.specs.Sums.{carry}
use Rattle.blake3_binary.specs.Trees.{QuarterOf, word_in_row, four_taken, laid, half_column}
use Rattle.blake3_binary.specs.Row.{before_half, after_half, half_cells, binary_cells, binary_trace_row}
use Rattle.blake3_compress.specs.Laws.Schedule.{message_below}
use Rattle.blake3_binary.specs.Laws.Words.{taken_words, state_words}
use Rattle.blake3_binary.specs.Laws.Sums.{half_means}
use Rattle.blake3_binary.specs.Laws.Values.{carries_of, made_b, made_d, made, HaveFour, HaveMade, half_made, after_made}
use Rattle.blake3_binary.specs.Laws.Rounds.{values_after, message_values}
use Rattle.blake3_compress.specs.Laws.Cells.{length-bit_cells}
use Rattle.blake3_binary.specs.Laws.Cells.{at_joined, StepCells, step_cells, long3, long_laid}
use Rattle.blake3_binary.specs.Laws.Completion.{made_carries, made_ds, made_bs}

-- where the input's words stand in the row
pub record InputCells (x : Input) : Type 0 where
  pub chain : (i j : ℕ) → i < 8 → j < 32 → get_or (binary_cells x) (32 * i + j) 0 ≡ bit_at (x (16 + i)) j
  pub block : (i j : ℕ) → i < 16 → j < 32 → get_or (binary_cells x) (256 + 32 * i + j) 0 ≡ bit_at (x i) j
  pub rest : (i j : ℕ) → i < 4 → j < 32 → get_or (binary_cells x) (768 + 32 * i + j) 0 ≡ bit_at (x (24 + i)) j

-- each place of the input is one of theirs
pub cover_input : (P : ℕ → Type 0) → ((i j : ℕ) → i < 8 → j < 32 → P (32 * i + j)) → ((i j : ℕ) → i < 16 → j < 32 → P (256 + 32 * i + j))
    → ((i j : ℕ) → i < 4 → j < 32 → P (768 + 32 * i + j)) → (k : ℕ) → k < 896 → P k
cover_input P p1 p2 p3 k lt =
    let i = k / 32 in
    let j = k % 32 in
    let lj : j < 32 = omega arith in
    elim (cases_lt k 256) [
      | inl a ↦ let e : 32 * i + j ≡ k = omega arith in subst P e (p1 i j (omega (arith, a)) lj)
      | inr a ↦ elim (cases_lt k 768) [
        | inl b ↦ let e : 256 + 32 * (i - 8) + j ≡ k = omega (arith, a) in subst P e (p2 (i - 8) j (omega (arith, a, b)) lj)
        | inr b ↦ let e : 768 + 32 * (i - 24) + j ≡ k = omega (arith, b) in subst P e (p3 (i - 24) j (omega (arith, b, lt)) lj)
      ]
    ]

at_bits : (n : ℕ) (w : ℕ → ℕ) (i j : ℕ) → i < n → j < 32 → get_or (bit_cells n w) (32 * i + j) 0 ≡ bit_at (w i) j
at_bits n w i j li lj =
    at_joined 0 n 32 (λ i. tabulate 32 (bit_at (w i))) (λ i. length-tabulate 32 (bit_at (w i))) i j li lj ∙ get_or-tabulate 32 (bit_at (w i)) j 0 lj

abbrev input_front : Input → List ℕ
input_front x = bit_cells 8 (chaining x) ++ bit_cells 16 x ++ bit_cells 4 (λ i. x (24 + i))

long_two : (x : Input) → length (bit_cells 8 (chaining x) ++ bit_cells 16 x) ≡ 768
long_two x = omega (arith, length-append (bit_cells 8 (chaining x)) (bit_cells 16 x), length-bit_cells 8 (chaining x), length-bit_cells 16 x)

long_front : (x : Input) → length (input_front x) ≡ 896
long_front x = omega (arith, length-append (bit_cells 8 (chaining x) ++ bit_cells 16 x) (bit_cells 4 (λ i. x (24 + i))), long_two x, length-bit_cells 4 (λ i. x (24 + i)))

pub input_cells : (x : Input) → InputCells x
unfolding binary_cells
input_cells x =
    let a = bit_cells 8 (chaining x) in
    let b = bit_cells 16 x in
    let c = bit_cells 4 (λ i. x (24 + i)) in
    let e = laid (half_cells x) in
    let la : length a ≡ 256 = length-bit_cells 8 (chaining x) in
    let lb : length b ≡ 512 = length-bit_cells 16 x in
    let l2 = long_two x in
    let l3 = long_front x in record {
      chain = λ i j li lj.
          get_or_append_left (a ++ b ++ c) e 0 (32 * i + j) (omega (arith, li, lj, l3))
          ∙ (get_or_append_left (a ++ b) c 0 (32 * i + j) (omega (arith, li, lj, l2))
          ∙ (get_or_append_left a b 0 (32 * i + j) (omega (arith, li, lj, la)) ∙ at_bits 8 (chaining x) i j li lj));
      block = λ i j li lj.
          let s : 256 + 32 * i + j ≡ length a + (32 * i + j) = omega (arith, la) in
          get_or_append_left (a ++ b ++ c) e 0 (256 + 32 * i + j) (omega (arith, li, lj, l3))
          ∙ (get_or_append_left (a ++ b) c 0 (256 + 32 * i + j) (omega (arith, li, lj, l2))
          ∙ (ap (λ k. get_or (a ++ b) k 0) s ∙ (get_or-append-add a b (32 * i + j) 0 ∙ at_bits 16 x i j li lj)));
      rest = λ i j li lj.
          let s : 768 + 32 * i + j ≡ length (a ++ b) + (32 * i + j) = omega (arith, l2) in
          get_or_append_left (a ++ b ++ c) e 0 (768 + 32 * i + j) (omega (arith, li, lj, l3))
          ∙ (ap (λ k. get_or (a ++ b ++ c) k 0) s ∙ (get_or-append-add (a ++ b) c (32 * i + j) 0 ∙ at_bits 4 (λ i. x (24 + i)) i j li lj));
    }

abbrev pub row_carries : Input → ℕ → ℕ → ℕ → ℕ
row_carries x n g i = carry (before_half x n g).a (before_half x n g).b (suc i)

abbrev pub row_ds : Input → ℕ → ℕ → ℕ → ℕ
row_ds x n g = bit_at (after_half x n g).d

abbrev pub row_bs : Input → ℕ → ℕ → ℕ → ℕ
row_bs x n g = bit_at (after_half x n g).b

pub row_steps : (x : Input) → StepCells 0 (binary_cells x) (row_carries x) (row_ds x) (row_bs x)
unfolding binary_cells
row_steps x = step_cells 0 (input_front x) (row_carries x) (row_ds x) (row_bs x) (long_front x)

pub long_row : (x : Input) → length (binary_cells x) ≡ 11536
unfolding binary_cells
long_row x =
    omega (
      arith,
      length-append (input_front x) (laid (half_cells x)),
      long_front x,
      long_laid 0 (half_cells x) (λ n g. long3 0 (row_carries x n g) (row_ds x n g) (row_bs x n g)),
    )

module _ {A : Type 0} (r : Ring A) where
  -- the values are a word's bits
  abbrev pub AreWordBits : (ℕ → A) → ℕ → Type 0
  AreWordBits w n = (i : ℕ) → i < 32 → w i ≡ of_nat r (bit_at n i)

pub record FourBits {A : Type 0} (r : Ring A) (v : QuarterOf (ℕ → A)) (q : Quarter) : Type 0 where
  pub a_bits : AreWordBits r v.a q.a
  pub b_bits : AreWordBits r v.b q.b
  pub c_bits : AreWordBits r v.c q.c
  pub d_bits : AreWordBits r v.d q.d

module _ {A : Type 0} (r : Ring A) (L : RingLaws r) (two : r.add r.one r.one ≡ r.zero) where
  -- half a step on bits: the carries and the words of G
  half_bits : (s t : ℕ) (v : QuarterOf (ℕ → A)) (q : Quarter) (m : ℕ → A) (x : ℕ) → AreWords4 q → FourBits r v q → AreWordBits r m x
      → ((i : ℕ) → i < 31 → carries_of r v.a v.b i ≡ of_nat r (carry q.a q.b (suc i))) × FourBits r (made r s t v m) (half_quarter_round s t q x)
  half_bits s t v q m x Q h hm =
      let at : Cell → A = λ _. r.zero in
      let at_ext : ExtCell → A = λ _. r.zero in
      let trees : (ℕ → A) → ℕ → Tree A = λ w i. constant (w i) in
      let f : QuarterOf (ℕ → Tree A) = record { a = trees v.a; b = trees v.b; c = trees v.c; d = trees v.d } in
      let k = trees (carries_of r v.a v.b) in
      let d' = trees (made_d r s v m) in
      let b' = trees (made_b r s t v m) in
      let have : HaveFour (cells_reading r at at_ext) f v = record { a_values = λ i lt. refl; b_values = λ i lt. refl; c_values = λ i lt. refl; d_values = λ i lt. refl } in
      let makes : HaveMade r (cells_reading r at at_ext) s t v m k d' b' = record { carries = λ i lt. refl; d_made = λ i lt. refl; b_made = λ i lt. refl } in
      let z = (half_made r L two at at_ext s t f (trees m) k d' b' v m have (λ i lt. refl)).1 makes in
      let ac = after_made r L two at at_ext s t f k d' b' v m have makes in
      let stand : RepresentBits r (cells_reading r at at_ext) f.a f.b f.c f.d q = record { a_bits = h.a_bits; b_bits = h.b_bits; c_bits = h.c_bits; d_bits = h.d_bits } in
      let p = (half_means r L two at at_ext s t f.a f.b f.c f.d (trees m) k d' b' q x Q stand hm).0 z in (
        p.0,
        record {
          a_bits = λ i lt. sym (ac.0 i lt) ∙ p.1.a_bits i lt;
          b_bits = p.1.b_bits;
          c_bits = λ i lt. sym (ac.1 i lt) ∙ p.1.c_bits i lt;
          d_bits = p.1.d_bits;
        },
      )

  module _ (x : Input) (W : AreWords x) where
    -- the row's cells as elements
    abbrev pub cells : ℕ → A
    cells k = of_nat r (get_or (binary_cells x) k 0)

    abbrev StateBits : ℕ → Type 0
    StateBits n = (row column : ℕ) → column < 4 → AreWordBits r (values_after r cells n row column) (state x n row column)

    message_bits : (j : ℕ) → j < 16 → AreWordBits r (message_values r cells j) (x j)
    message_bits j lj i lt = ap (of_nat r) ((input_cells x).block j i lj lt)

    first_bits : StateBits 0
    unfolding values_after state
    first_bits zero column lt i li = ap (of_nat r) ((input_cells x).chain column i (omega (arith, lt)) li)
    first_bits (suc zero) column lt i li =
        let e : 128 + 32 * column + i ≡ 32 * (4 + column) + i = omega arith in
        ap cells e ∙ ap (of_nat r) ((input_cells x).chain (4 + column) i (omega (arith, lt)) li)
    first_bits (suc (suc zero)) column lt i li = refl
    first_bits (suc (suc (suc n))) column lt i li = ap (of_nat r) ((input_cells x).rest column i lt li)

    taken_bits : (n g : ℕ) → StateBits n → FourBits r (four_taken (turn_of n) (values_after r cells n) g) (before_half x n g)
    taken_bits n g h =
        let t = turn_of n in record {
          a_bits = h 0 (column_of t 0 g) (omega arith);
          b_bits = h 1 (column_of t 1 g) (omega arith);
          c_bits = h 2 (column_of t 2 g) (omega arith);
          d_bits = h 3 (column_of t 3 g) (omega arith);
        }

    step_bits : (n g : ℕ) → g < 4 → StateBits n
        → ((i : ℕ) → i < 31 → made_carries r L two cells n g i ≡ of_nat r (row_carries x n g i))
        × FourBits r (made r (d_turn n) (b_turn n) (four_taken (turn_of n) (values_after r cells n) g) (message_values r cells (message_of n g))) (after_half x n g)
    step_bits n g lg h =
        half_bits (d_turn n) (b_turn n) (four_taken (turn_of n) (values_after r cells n) g) (before_half x n g) (message_values r cells (message_of n g)) (x (message_of n g))
        (taken_words (turn_of n) (state x n) g (state_words x W n)) (taken_bits n g h) (message_bits (message_of n g) (message_below n g lg))

    states_bits : (n : ℕ) → StateBits n
    unfolding values_after state
    states_bits zero row column lt = first_bits row column lt
    states_bits (suc n) row column lt =
        let g = step_of_word (turn_of n) row column in
        go row (made r (d_turn n) (b_turn n) (four_taken (turn_of n) (values_after r cells n) g) (message_values r cells (message_of n g))) (after_half x n g)
        (step_bits n g (omega arith) (states_bits n)).1
      where
        go : (row : ℕ) (v : QuarterOf (ℕ → A)) (q : Quarter) → FourBits r v q → AreWordBits r (word_in_row v row) (word q row)
        go zero v q h = h.a_bits
        go (suc zero) v q h = h.b_bits
        go (suc (suc zero)) v q h = h.c_bits
        go (suc (suc (suc n))) v q h = h.d_bits

    pub row_at : (k : ℕ) → k < 11536 → get_or (binary_trace_row r x) k r.zero ≡ cells k
    row_at k lt = get_or-map (of_nat r) (binary_cells x) k 0 r.zero (omega (arith, long_row x, lt))

    pub long_trace : length (binary_trace_row r x) ≡ 11536
    long_trace = length-map (binary_cells x) (of_nat r) ∙ long_row x

    -- the trace row has the cells that the steps make
    pub trace_steps : StepCells r.zero (binary_trace_row r x) (made_carries r L two cells) (made_ds r L two cells) (made_bs r L two cells)
    trace_steps =
        let s = row_steps x in record {
          first = λ n g o ln lg lo.
              row_at (half_column n g + o) (omega (arith, ln, lg, lo)) ∙ (ap (of_nat r) (s.first n g o ln lg lo) ∙ sym ((step_bits n g lg (states_bits n)).0 o lo));
          second = λ n g o ln lg lo.
              row_at (half_column n g + 31 + o) (omega (arith, ln, lg, lo)) ∙ (ap (of_nat r) (s.second n g o ln lg lo) ∙ sym ((step_bits n g lg (states_bits n)).1.d_bits o lo));
          third = λ n g o ln lg lo.
              row_at (half_column n g + 63 + o) (omega (arith, ln, lg, lo)) ∙ (ap (of_nat r) (s.third n g o ln lg lo) ∙ sym ((step_bits n g lg (states_bits n)).1.b_bits o lo));
        }
