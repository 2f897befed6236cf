-- Steps of G in half rounds.
use Rattle.std.proofs.Common.{◌≡◌, ℕ, ◌+◌, ◌*◌, ◌/◌, ◌%◌, ◌<◌, List, [], get_or, set, length, true, false, cond, ltb, inl, inr, sym, ◌∙◌, ap, subst, arith, get_or-set_same, get_or-set_other}
use Rattle.std.proofs.lemmas.Bool.{cases_eq, cases_lt, lt-ltb, le-ltb}
use Rattle.blake3_compress.specs.Compress.{Quarter, word, half_quarter_round, State, Input, scheduled, step_of_word, words_taken}
use Rattle.blake3_compress.specs.TraceRow.{turn_of, d_turn, b_turn, message_of, half_round}
use Rattle.blake3_compress.specs.Laws.Compress.{taken_made}
use Rattle.blake3_packed.specs.Lanes.{ArePlanes, AreWordPlanes}
use Rattle.blake3_packed.specs.States.{made, made_twice}

-- the message words of both halves
pub first_message : (p g : ℕ) → scheduled (p / 2) (8 * (p % 2) + 2 * g) ≡ message_of (2 * p) g
first_message p g =
    let e : p / 2 ≡ 2 * p / 4 = omega arith in
    let f : 8 * (p % 2) + 2 * g ≡ 8 * turn_of (2 * p) + 2 * g + 2 * p % 2 = omega arith in
    λ i. scheduled (e i) (f i)

pub second_message : (p g : ℕ) → scheduled (p / 2) (8 * (p % 2) + 2 * g + 1) ≡ message_of (2 * p + 1) g
second_message p g =
    let e : p / 2 ≡ (2 * p + 1) / 4 = omega arith in
    let f : 8 * (p % 2) + 2 * g + 1 ≡ 8 * turn_of (2 * p + 1) + 2 * g + (2 * p + 1) % 2 = omega arith in
    λ i. scheduled (e i) (f i)

-- both halves, by the numbers that they stand for
pub first_made : (x : Input) (p g m : ℕ) (q : Quarter) → m ≡ message_of (2 * p) g → half_quarter_round 16 12 q (x m) ≡ made x (2 * p) g q
first_made x p g m q e =
    let s : 16 ≡ d_turn (2 * p) = omega arith in
    let t : 12 ≡ b_turn (2 * p) = omega arith in
    λ i. half_quarter_round (s i) (t i) q (x (e i))

pub second_made : (x : Input) (p g m : ℕ) (q : Quarter) → m ≡ message_of (2 * p + 1) g → half_quarter_round 8 7 q (x m) ≡ made x (2 * p + 1) g q
second_made x p g m q e =
    let s : 8 ≡ d_turn (2 * p + 1) = omega arith in
    let t : 7 ≡ b_turn (2 * p + 1) = omega arith in
    λ i. half_quarter_round (s i) (t i) q (x (e i))

-- The states while the steps of four go on: the words of the first g steps are those after them.
abbrev pub going : (step : ℕ → ℕ) (g : ℕ) (new old : ℕ → ℕ → ℕ) → ℕ → ℕ → ℕ
going step g new old j i = cond (ltb (step i) g) (new j i) (old j i)

-- one step more in a row, whose word stands in this column
pub row_more : (step : ℕ → ℕ) (g column : ℕ) (new old : ℕ → ℕ → ℕ) (xs : List (List ℕ)) (ys : List ℕ) → length xs ≡ 4 → column < 4 → step column ≡ g
    → ((i : ℕ) → i < 4 → step i ≡ g → i ≡ column) → AreWordPlanes 4 xs (going step g new old) → ArePlanes ys (λ j. new j column) → AreWordPlanes 4 (set xs column ys) (going step (g + 1) new old)
row_more step g column new old xs ys long within at only h hy i li =
    elim (cases_eq i column) [
      | inl e ↦
          let below : step column < g + 1 = omega (arith, at) in
          let yes_is : ltb (step column) (g + 1) ≡ true = lt-ltb (step column) (g + 1) below in
          subst (λ k. ArePlanes (get_or (set xs column ys) k []) (λ j. cond (ltb (step k) (g + 1)) (new j k) (old j k))) (sym e)
          (subst (λ b. ArePlanes (get_or (set xs column ys) column []) (λ j. cond b (new j column) (old j column))) (sym yes_is)
          (subst (λ zs. ArePlanes zs (λ j. new j column)) (sym (get_or-set_same xs column ys [] (omega (arith, long, within)))) hy))
      | inr d ↦
          let other : step i ≡ g → ⊥ = λ s. d (only i li s) in
          let same : ltb (step i) g ≡ ltb (step i) (g + 1) = elim (cases_lt (step i) g) [
            | inl lt ↦ lt-ltb (step i) g lt ∙ sym (lt-ltb (step i) (g + 1) (omega (arith, lt)))
            | inr le ↦ le-ltb (step i) g le ∙ sym (le-ltb (step i) (g + 1) (omega (arith, le, other)))
          ] in
          subst (λ b. ArePlanes (get_or (set xs column ys) i []) (λ j. cond b (new j i) (old j i))) same
          (subst (λ zs. ArePlanes zs (λ j. going step g new old j i)) (sym (get_or-set_other xs column i ys [] d)) (h i li))
    ]

-- before the first step and after the last
pub row_before : (step : ℕ → ℕ) (new old : ℕ → ℕ → ℕ) (xs : List (List ℕ)) → AreWordPlanes 4 xs old → AreWordPlanes 4 xs (going step 0 new old)
row_before step new old xs h i li =
    let none : ltb (step i) 0 ≡ false = le-ltb (step i) 0 (omega arith) in
    subst (λ b. ArePlanes (get_or xs i []) (λ j. cond b (new j i) (old j i))) (sym none) (h i li)

pub row_after : (step : ℕ → ℕ) (g : ℕ) (new old made : ℕ → ℕ → ℕ) (xs : List (List ℕ)) → ((i : ℕ) → i < 4 → step i < g) → ((j i : ℕ) → i < 4 → new j i ≡ made j i)
    → AreWordPlanes 4 xs (going step g new old) → AreWordPlanes 4 xs made
row_after step g new old made xs below e h i li =
    let all : ltb (step i) g ≡ true = lt-ltb (step i) g (below i li) in
    subst (ArePlanes (get_or xs i [])) (λ k j. e j i li k) (subst (λ b. ArePlanes (get_or xs i []) (λ j. cond b (new j i) (old j i))) all (h i li))

-- the old word of the step that comes next
pub row_next : (step : ℕ → ℕ) (g column : ℕ) (new old : ℕ → ℕ → ℕ) (xs : List (List ℕ)) → column < 4 → step column ≡ g → AreWordPlanes 4 xs (going step g new old) → ArePlanes (get_or xs column []) (λ j. old j column)
row_next step g column new old xs within at h =
    let none : ltb (step column) g ≡ false = le-ltb (step column) g (omega (arith, at)) in
    subst (λ b. ArePlanes (get_or xs column []) (λ j. cond b (new j column) (old j column))) none (h column within)

-- four whole steps are two half rounds
abbrev pub turned_round : (x : Input) (t n : ℕ) → State → State
turned_round x t n v row column = word (made x n (step_of_word t row column) (words_taken t v (step_of_word t row column))) row

pub rounds_made : (x : Input) (p : ℕ) (v : State) (row i : ℕ) → i < 4
    → word (made_twice x p (step_of_word (p % 2) row i) (words_taken (p % 2) v (step_of_word (p % 2) row i))) row ≡ half_round x (2 * p + 1) (half_round x (2 * p) v) row i
rounds_made x p v row i li =
    let t = p % 2 in
    let g = step_of_word t row i in
    let e1 : t ≡ turn_of (2 * p) = omega arith in
    let e2 : t ≡ turn_of (2 * p + 1) = omega arith in
    let two : t < 2 = omega arith in
    let four : g < 4 = omega arith in
    ap (λ q. word (made x (2 * p + 1) g q) row) (sym (taken_made t (λ k. made x (2 * p) k (words_taken t v k)) g two four))
    ∙ (λ k. turned_round x (e2 k) (2 * p + 1) (turned_round x (e1 k) (2 * p) v) row i)
