-- The induction over the half rounds.
use Rattle.std.proofs.Common.{◌≡◌, ℕ, zero, suc, ◌+◌, ◌*◌, ◌/◌, ◌%◌, ◌^◌, ◌<◌, ◌≤◌, subst, arith}
use Rattle.std.specs.Prelude.{◌↔◌}
use Rattle.p3_field.specs.Ring.{Ring}
use Rattle.air_core.specs.declared.cells.Cell.{Cell}
use Rattle.air_core.specs.declared.cells.ExtCell.{ExtCell}
use Rattle.air_core.specs.Tree.{Tree, Reading, eval_tree}
use Rattle.air_gadgets.specs.Words.{PrimeFieldLaws, cells_reading, Vanish}
use Rattle.blake3_compress.specs.Laws.Schedule.{iv_below, message_below}
use Rattle.blake3_prime.specs.declared.places.Place.{Place}
use Rattle.blake3_compress.specs.Compress.{Quarter, word, half_quarter_round, State, Input, column_of, step_of_word, words_taken, first_state}
use Rattle.air_core.specs.Joined.{joined}
use Rattle.blake3_compress.specs.TraceRow.{turn_of, d_turn, b_turn, message_of, half_round, state, AreWords}
use Rattle.blake3_prime.specs.Trees.{place_of, from_column, step_half_trees, step_trees, steps_trees, rounds_trees}
use Rattle.blake3_prime.specs.Meanings.{HasBits, HasLimbs, Represent4, AreWords4, RepresentsState, RepresentsInput}
use Rattle.air_core.specs.Laws.Lists.{all_of_joined, all_joined}
use Rattle.blake3_prime.specs.Laws.Step.{half_means, half_words}

-- the 16 words are words
abbrev pub AreStateWords : State → Type 0
AreStateWords v = (row i : ℕ) → i < 4 → v row i < 2 ^ 32

word_below : (q : Quarter) → AreWords4 q → (row : ℕ) → word q row < 2 ^ 32
word_below q Q zero = Q.a_word
word_below q Q (suc zero) = Q.b_word
word_below q Q (suc (suc zero)) = Q.c_word
word_below q Q (suc (suc (suc n))) = Q.d_word

pub taken_words : (t : ℕ) (v : State) (g : ℕ) → AreStateWords v → AreWords4 (words_taken t v g)
taken_words t v g h = record {
  a_word = h 0 (column_of t 0 g) (omega arith);
  b_word = h 1 (column_of t 1 g) (omega arith);
  c_word = h 2 (column_of t 2 g) (omega arith);
  d_word = h 3 (column_of t 3 g) (omega arith);
}

first_words : (x : Input) → AreWords x → AreStateWords (first_state x)
first_words x w zero i h = w (16 + i) (omega (arith, h))
first_words x w (suc zero) i h = w (16 + (4 + i)) (omega (arith, h))
first_words x w (suc (suc zero)) i h = iv_below i
first_words x w (suc (suc (suc n))) i h = w (24 + i) (omega (arith, h))

half_round_words : (x : Input) (n : ℕ) (v : State) → AreStateWords v → AreStateWords (half_round x n v)
half_round_words x n v h row i lt =
    let g = step_of_word (turn_of n) row i in
    let q = words_taken (turn_of n) v g in
    let m = x (message_of n g) in
    word_below (half_quarter_round (d_turn n) (b_turn n) q m) (half_words (d_turn n) (b_turn n) q m (taken_words (turn_of n) v g h)) row

pub state_words : (x : Input) → AreWords x → (n : ℕ) → AreStateWords (state x n)
unfolding state
state_words x w zero = first_words x w
state_words x w (suc n) = half_round_words x n (state x n) (state_words x w n)

-- the step of a column, and the column of a step
step_below : (t row i : ℕ) → step_of_word t row i < 4
step_below t row i = omega arith

module _ {A : Type 0} (r : Ring A) (inv : A → A) (order : ℕ) (canonical : A → ℕ) (P : PrimeFieldLaws r inv order canonical) (o : 2 ^ 20 < order) (at : Cell → A) (at_ext : ExtCell → A) where
  abbrev rd : Reading A A
  rd = cells_reading r at at_ext

  abbrev Zero : Tree A → Type 0
  Zero v = eval_tree rd v ≡ r.zero

  -- the words after half of step g stand in their columns
  abbrev RepresentsHalf : Place → ℕ → ℕ → Quarter → Type 0
  RepresentsHalf p t g q =
      Represent4 r rd (from_column (p.row0 + 2 * column_of t 0 g)) (from_column (p.row1 + 32 * column_of t 1 g))
      (from_column (p.row2 + 2 * column_of t 2 g)) (from_column (p.row3 + 32 * column_of t 3 g)) q

  represents_taken : (p : Place) (v : State) (t g : ℕ) → RepresentsState r rd p v → RepresentsHalf p t g (words_taken t v g)
  represents_taken p v t g h = record {
    a_limbs = h.limbs0 (column_of t 0 g) (omega arith);
    b_bits = h.bits1 (column_of t 1 g) (omega arith);
    c_limbs = h.limbs2 (column_of t 2 g) (omega arith);
    d_bits = h.bits3 (column_of t 3 g) (omega arith);
  }

  -- of step g the trees of half round n mean that the words after it are those of the half of G
  step_half_means : (x : Input) (n g : ℕ) (v : State) → AreWords x → AreStateWords v → g < 4 → RepresentsInput r rd x → RepresentsState r rd (place_of n) v
      → Vanish r rd (step_half_trees r n g)
      ↔ RepresentsHalf (place_of (suc n)) (turn_of n) g (half_quarter_round (d_turn n) (b_turn n) (words_taken (turn_of n) v g) (x (message_of n g)))
  unfolding step_half_trees
  step_half_means x n g v wx wv lt hx hv =
      let p = place_of n in
      let q = place_of (suc n) in
      let t = turn_of n in
      let m = message_of n g in
      let m_lt : m < 16 = message_below n g lt in
      half_means r inv order canonical P o at at_ext (d_turn n) (b_turn n)
      (from_column (p.row0 + 2 * column_of t 0 g)) (from_column (p.row1 + 32 * column_of t 1 g))
      (from_column (p.row2 + 2 * column_of t 2 g)) (from_column (p.row3 + 32 * column_of t 3 g))
      (from_column (32 * m))
      (from_column (q.row0 + 2 * column_of t 0 g)) (from_column (q.row1 + 32 * column_of t 1 g))
      (from_column (q.row2 + 2 * column_of t 2 g)) (from_column (q.row3 + 32 * column_of t 3 g))
      (words_taken t v g) (x m) (taken_words t v g wv) (wx m (omega (arith, m_lt))) (represents_taken p v t g hv) (hx m (omega (arith, m_lt)))

  -- four steps make a state
  state_of_steps : (p : Place) (t : ℕ) → t < 2 → (f : ℕ → Quarter) → ((g : ℕ) → g < 4 → RepresentsHalf p t g (f g)) → RepresentsState r rd p (λ row i. word (f (step_of_word t row i)) row)
  state_of_steps p t two f h = record {
    limbs0 = λ i lt.
        let g = step_of_word t 0 i in
        let e : column_of t 0 g ≡ i = omega (arith, lt, two) in
        subst (λ j. HasLimbs r rd (from_column (p.row0 + 2 * j)) (word (f g) 0)) e (h g (step_below t 0 i)).a_limbs;
    bits1 = λ i lt.
        let g = step_of_word t 1 i in
        let e : column_of t 1 g ≡ i = omega (arith, lt, two) in
        subst (λ j. HasBits r rd (from_column (p.row1 + 32 * j)) (word (f g) 1)) e (h g (step_below t 1 i)).b_bits;
    limbs2 = λ i lt.
        let g = step_of_word t 2 i in
        let e : column_of t 2 g ≡ i = omega (arith, lt, two) in
        subst (λ j. HasLimbs r rd (from_column (p.row2 + 2 * j)) (word (f g) 2)) e (h g (step_below t 2 i)).c_limbs;
    bits3 = λ i lt.
        let g = step_of_word t 3 i in
        let e : column_of t 3 g ≡ i = omega (arith, lt, two) in
        subst (λ j. HasBits r rd (from_column (p.row3 + 32 * j)) (word (f g) 3)) e (h g (step_below t 3 i)).d_bits;
  }

  steps_of_state : (p : Place) (t : ℕ) → t < 2 → (f : ℕ → Quarter) → RepresentsState r rd p (λ row i. word (f (step_of_word t row i)) row) → (g : ℕ) → g < 4 → RepresentsHalf p t g (f g)
  steps_of_state p t two f h g lt =
      let e0 : step_of_word t 0 (column_of t 0 g) ≡ g = omega (arith, lt, two) in
      let e1 : step_of_word t 1 (column_of t 1 g) ≡ g = omega (arith, lt, two) in
      let e2 : step_of_word t 2 (column_of t 2 g) ≡ g = omega (arith, lt, two) in
      let e3 : step_of_word t 3 (column_of t 3 g) ≡ g = omega (arith, lt, two) in
      record {
        a_limbs = subst (λ j. HasLimbs r rd (from_column (p.row0 + 2 * column_of t 0 g)) (word (f j) 0)) e0 (h.limbs0 (column_of t 0 g) (omega arith));
        b_bits = subst (λ j. HasBits r rd (from_column (p.row1 + 32 * column_of t 1 g)) (word (f j) 1)) e1 (h.bits1 (column_of t 1 g) (omega arith));
        c_limbs = subst (λ j. HasLimbs r rd (from_column (p.row2 + 2 * column_of t 2 g)) (word (f j) 2)) e2 (h.limbs2 (column_of t 2 g) (omega arith));
        d_bits = subst (λ j. HasBits r rd (from_column (p.row3 + 32 * column_of t 3 g)) (word (f j) 3)) e3 (h.bits3 (column_of t 3 g) (omega arith));
      }

  -- half a round
  half_round_means : (x : Input) (n : ℕ) (v : State) → AreWords x → AreStateWords v → RepresentsInput r rd x → RepresentsState r rd (place_of n) v
      → ((g : ℕ) → g < 4 → Vanish r rd (step_half_trees r n g)) ↔ RepresentsState r rd (place_of (suc n)) (half_round x n v)
  half_round_means x n v wx wv hx hv =
      let f : ℕ → Quarter = λ g. half_quarter_round (d_turn n) (b_turn n) (words_taken (turn_of n) v g) (x (message_of n g)) in
      let two : turn_of n < 2 = omega arith in (
        λ h. state_of_steps (place_of (suc n)) (turn_of n) two f (λ g lt. (step_half_means x n g v wx wv lt hx hv).0 (h g lt)),
        λ h g lt. (step_half_means x n g v wx wv lt hx hv).1 (steps_of_state (place_of (suc n)) (turn_of n) two f h g lt),
      )

  -- each half round
  half_rounds_stand : (x : Input) → AreWords x → RepresentsInput r rd x → RepresentsState r rd (place_of 0) (first_state x)
      → ((n g : ℕ) → n < 28 → g < 4 → Vanish r rd (step_half_trees r n g)) → (n : ℕ) → n ≤ 28 → RepresentsState r rd (place_of n) (state x n)
  unfolding state
  half_rounds_stand x wx hx h0 h zero lt = h0
  half_rounds_stand x wx hx h0 h (suc n) lt =
      (half_round_means x n (state x n) wx (state_words x wx n) hx (half_rounds_stand x wx hx h0 h n (omega (arith, lt)))).0 (λ g l. h n g (omega (arith, lt)) l)

  half_rounds_vanish : (x : Input) → AreWords x → RepresentsInput r rd x
      → ((n : ℕ) → n ≤ 28 → RepresentsState r rd (place_of n) (state x n)) → (n g : ℕ) → n < 28 → g < 4 → Vanish r rd (step_half_trees r n g)
  unfolding state
  half_rounds_vanish x wx hx h n g lt l =
      (half_round_means x n (state x n) wx (state_words x wx n) hx (h n (omega (arith, lt)))).1 (h (suc n) (omega (arith, lt))) g l

  -- the trees of all rounds
  pub rounds_mean : (x : Input) → AreWords x → RepresentsInput r rd x → RepresentsState r rd (place_of 0) (first_state x)
      → Vanish r rd (rounds_trees r) ↔ ((n : ℕ) → n ≤ 28 → RepresentsState r rd (place_of n) (state x n))
  unfolding rounds_trees steps_trees step_trees
  rounds_mean x wx hx h0 = (
    λ v. half_rounds_stand x wx hx h0 (λ n g ln lg.
        let h = n % 2 in
        let p = n / 2 in
        let e : 2 * p + h ≡ n = omega arith in
        subst (λ k. Vanish r rd (step_half_trees r k g)) e
        (all_of_joined Zero 2 (λ j. step_half_trees r (2 * p + j) g)
        (all_of_joined Zero 4 (λ k. joined 2 (λ j. step_half_trees r (2 * p + j) k))
        (all_of_joined Zero 14 (λ l. joined 4 (λ k. joined 2 (λ j. step_half_trees r (2 * l + j) k))) v p (omega (arith, ln))) g lg) h (omega arith))),
    λ s.
        let each = half_rounds_vanish x wx hx s in
        all_joined Zero 14 (λ l. joined 4 (λ k. joined 2 (λ j. step_half_trees r (2 * l + j) k))) (λ l ll.
        all_joined Zero 4 (λ k. joined 2 (λ j. step_half_trees r (2 * l + j) k)) (λ k lk.
        all_joined Zero 2 (λ j. step_half_trees r (2 * l + j) k) (λ j lj. each (2 * l + j) k (omega (arith, ll, lj)) lk))),
  )
