-- The half rounds are the halves of the rounds of the BLAKE3 paper.
use Rattle.std.proofs.Common.{◌≡◌, ℕ, zero, suc, ◌+◌, ◌*◌, ◌/◌, ◌%◌, ◌<◌, ◌∙◌, ap, arith}
use Rattle.blake3_compress.specs.Compress.{Quarter, word, half_quarter_round, quarter_round, State, Input, column_of, step_of_word, words_taken, steps, round, scheduled, after_rounds}
use Rattle.blake3_compress.specs.TraceRow.{turn_of, d_turn, b_turn, half_round, state}
use Rattle.blake3_compress.specs.HalfRounds.{StatesAreRounds, OutputIsCompressed}

-- two states have the same 16 words
abbrev pub Same : State → State → Type 0
Same v w = (row i : ℕ) → row < 4 → i < 4 → v row i ≡ w row i

same_taken : (t : ℕ) (v w : State) (g : ℕ) → Same v w → words_taken t v g ≡ words_taken t w g
same_taken t v w g h =
    let e0 = h 0 (column_of t 0 g) (omega arith) (omega arith) in
    let e1 = h 1 (column_of t 1 g) (omega arith) (omega arith) in
    let e2 = h 2 (column_of t 2 g) (omega arith) (omega arith) in
    let e3 = h 3 (column_of t 3 g) (omega arith) (omega arith) in
    λ j. record { a = e0 j; b = e1 j; c = e2 j; d = e3 j }

-- what steps make of the same words
same_steps : (t : ℕ) (f : ℕ → Quarter → Quarter) (v w : State) → Same v w → Same (steps t f v) (steps t f w)
same_steps t f v w h row i lr li =
    let g = step_of_word t row i in ap (λ q. word (f g q) row) (same_taken t v w g h)

-- the words that step g makes are those that step g takes next
pub taken_made : (t : ℕ) (f : ℕ → Quarter) (g : ℕ) → t < 2 → g < 4 → words_taken t (λ row i. word (f (step_of_word t row i)) row) g ≡ f g
taken_made t f g two lt =
    let e0 : step_of_word t 0 (column_of t 0 g) ≡ g = omega (arith, lt, two) in
    let e1 : step_of_word t 1 (column_of t 1 g) ≡ g = omega (arith, lt, two) in
    let e2 : step_of_word t 2 (column_of t 2 g) ≡ g = omega (arith, lt, two) in
    let e3 : step_of_word t 3 (column_of t 3 g) ≡ g = omega (arith, lt, two) in
    λ j. record { a = (f (e0 j)).a; b = (f (e1 j)).b; c = (f (e2 j)).c; d = (f (e3 j)).d }

-- four steps in two halves are four whole steps
two_halves : (t : ℕ) (e f : ℕ → Quarter → Quarter) (v : State) → t < 2 → Same (steps t f (steps t e v)) (steps t (λ g q. f g (e g q)) v)
two_halves t e f v two row i lr li =
    let g = step_of_word t row i in
    let lg : g < 4 = omega arith in
    ap (λ q. word (f g q) row) (taken_made t (λ k. e k (words_taken t v k)) g two lg)

-- half a round, by what it takes from its number: turn t, rotations d and b, round k and half p
abbrev half_steps : Input → (t d b k p : ℕ) → State → State
half_steps x t d b k p v = steps t (λ g q. half_quarter_round d b q (x (scheduled k (8 * t + 2 * g + p)))) v

half_round_is : (x : Input) (n t d b k p : ℕ) (v : State) → turn_of n ≡ t → d_turn n ≡ d → b_turn n ≡ b → n / 4 ≡ k → n % 2 ≡ p
    → Same (half_round x n v) (half_steps x t d b k p v)
half_round_is x n t d b k p v et ed eb ek ep row i lr li = λ j. half_steps x (et j) (ed j) (eb j) (ek j) (ep j) v row i

along : (u v w : State) → Same u v → Same v w → Same u w
along u v w p q row i lr li = p row i lr li ∙ q row i lr li

-- both halves of four steps, with their message words by the places that a round gives them
four_steps : (x : Input) (t k : ℕ) (a b : ℕ → ℕ) (v : State) → t < 2 → ((g : ℕ) → 8 * t + 2 * g + 0 ≡ a g) → ((g : ℕ) → 8 * t + 2 * g + 1 ≡ b g)
    → Same (half_steps x t 8 7 k 1 (half_steps x t 16 12 k 0 v)) (steps t (λ g q. quarter_round q (x (scheduled k (a g))) (x (scheduled k (b g)))) v)
four_steps x t k a b v two ea eb row i lr li =
    let g = step_of_word t row i in
    two_halves t (λ g q. half_quarter_round 16 12 q (x (scheduled k (8 * t + 2 * g + 0)))) (λ g q. half_quarter_round 8 7 q (x (scheduled k (8 * t + 2 * g + 1)))) v two row i lr li
    ∙ (λ j. word (quarter_round (words_taken t v g) (x (scheduled k (ea g j))) (x (scheduled k (eb g j)))) row)

-- four half rounds are a round
four_halves : (x : Input) (n : ℕ) (v w : State) → Same v w
    → Same (half_round x (4 * n + 3) (half_round x (4 * n + 2) (half_round x (4 * n + 1) (half_round x (4 * n) v)))) (round (λ i. x (scheduled n i)) w)
four_halves x n v w h =
    let m : ℕ → ℕ = λ i. x (scheduled n i) in
    let s1 = half_round x (4 * n) v in
    let s2 = half_round x (4 * n + 1) s1 in
    let s3 = half_round x (4 * n + 2) s2 in
    let c1 = half_steps x 0 16 12 n 0 w in
    let c2 = half_steps x 0 8 7 n 1 c1 in
    let columns = steps 0 (λ g q. quarter_round q (m (2 * g)) (m (1 + 2 * g))) w in
    let c3 = half_steps x 1 16 12 n 0 columns in
    let p1 : Same s1 c1 = along s1 (half_steps x 0 16 12 n 0 v) c1 (half_round_is x (4 * n) 0 16 12 n 0 v (omega arith) (omega arith) (omega arith) (omega arith) (omega arith))
    (same_steps 0 (λ g q. half_quarter_round 16 12 q (x (scheduled n (8 * 0 + 2 * g + 0)))) v w h) in
    let p2 : Same s2 c2 = along s2 (half_steps x 0 8 7 n 1 s1) c2 (half_round_is x (4 * n + 1) 0 8 7 n 1 s1 (omega arith) (omega arith) (omega arith) (omega arith) (omega arith))
    (same_steps 0 (λ g q. half_quarter_round 8 7 q (x (scheduled n (8 * 0 + 2 * g + 1)))) s1 c1 p1) in
    let q2 : Same s2 columns = along s2 c2 columns p2 (four_steps x 0 n (λ g. 2 * g) (λ g. 1 + 2 * g) w (omega arith) (λ g. omega arith) (λ g. omega arith)) in
    let p3 : Same s3 c3 = along s3 (half_steps x 1 16 12 n 0 s2) c3 (half_round_is x (4 * n + 2) 1 16 12 n 0 s2 (omega arith) (omega arith) (omega arith) (omega arith) (omega arith))
    (same_steps 1 (λ g q. half_quarter_round 16 12 q (x (scheduled n (8 * 1 + 2 * g + 0)))) s2 columns q2) in
    along (half_round x (4 * n + 3) s3) (half_steps x 1 8 7 n 1 c3) (round m w)
    (along (half_round x (4 * n + 3) s3) (half_steps x 1 8 7 n 1 s3) (half_steps x 1 8 7 n 1 c3) (half_round_is x (4 * n + 3) 1 8 7 n 1 s3 (omega arith) (omega arith) (omega arith) (omega arith) (omega arith))
    (same_steps 1 (λ g q. half_quarter_round 8 7 q (x (scheduled n (8 * 1 + 2 * g + 1)))) s3 c3 p3))
    (four_steps x 1 n (λ g. 8 + 2 * g) (λ g. 9 + 2 * g) columns (omega arith) (λ g. omega arith) (λ g. omega arith))

-- four more half rounds
state_four : (x : Input) (n m : ℕ) → m ≡ 4 * n + 4
    → state x m ≡ half_round x (4 * n + 3) (half_round x (4 * n + 2) (half_round x (4 * n + 1) (half_round x (4 * n) (state x (4 * n)))))
unfolding state
state_four x n m e =
    let f : m ≡ suc (suc (suc (suc (4 * n)))) = omega (arith, e) in
    let a1 : suc (4 * n) ≡ 4 * n + 1 = omega arith in
    let a2 : suc (suc (4 * n)) ≡ 4 * n + 2 = omega arith in
    let a3 : suc (suc (suc (4 * n))) ≡ 4 * n + 3 = omega arith in
    ap (state x) f ∙ (λ j. half_round x (a3 j) (half_round x (a2 j) (half_round x (a1 j) (half_round x (4 * n) (state x (4 * n))))))

pub states_are_rounds : StatesAreRounds
unfolding after_rounds state
states_are_rounds x zero row i lr li = let e : 4 * 0 ≡ 0 = omega arith in ap (λ n. state x n row i) e
states_are_rounds x (suc n) row i lr li =
    ap (λ v. v row i) (state_four x n (4 * suc n) (omega arith))
    ∙ four_halves x n (state x (4 * n)) (after_rounds x n) (states_are_rounds x n) row i lr li

pub output_is_compressed : OutputIsCompressed
output_is_compressed x zero i lk li = cc (states_are_rounds x 7 0 i (omega arith) li, states_are_rounds x 7 2 i (omega arith) li)
output_is_compressed x (suc zero) i lk li = cc (states_are_rounds x 7 1 i (omega arith) li, states_are_rounds x 7 3 i (omega arith) li)
output_is_compressed x (suc (suc zero)) i lk li = cc (states_are_rounds x 7 2 i (omega arith) li)
output_is_compressed x (suc (suc (suc k))) i lk li = cc (states_are_rounds x 7 3 i (omega arith) li)
