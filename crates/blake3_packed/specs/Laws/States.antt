-- The states and the cells of the lanes.
use Rattle.std.proofs.Common.{◌≡◌, ℕ, zero, suc, ◌+◌, ◌*◌, ◌/◌, ◌%◌, ◌^◌, ◌<◌, List, ◌++◌, get_or, length, inl, inr, refl, sym, ◌∙◌, ap, subst, arith, lit<}
use Rattle.std.specs.Prelude.{bit_xor}
use Rattle.std.specs.Int.{bit_at, rotate_right, w32}
use Rattle.std.proofs.lemmas.Bool.{cases_lt}
use Rattle.std.proofs.lemmas.List.{get_or_append_left, get_or-append_right}
use Rattle.std.proofs.lemmas.Nat.Bits.{bit_at-zero, same_from_bits_below}
use Rattle.p3_field.specs.Poly.{tabulate}
use Rattle.air_core.specs.Joined.{joined}
use Rattle.blake3_compress.specs.Compress.{Quarter, State, Input, word, chaining, first_state, half_a, half_b, half_c, half_d, half_quarter_round, words_taken}
use Rattle.blake3_compress.specs.TraceRow.{bit_cells, turn_of, d_turn, b_turn, half_round, state}
use Rattle.blake3_compress.specs.Laws.Compress.{taken_made}
use Rattle.blake3_compress.specs.Laws.Words.{right_below}
use Rattle.blake3_compress.specs.Laws.Pushing.{joined_same}
use Rattle.blake3_binary.specs.Sums.{carry}
use Rattle.blake3_binary.specs.Trees.{laid}
use Rattle.blake3_binary.specs.Row.{quarter_cells, binary_cells}
use Rattle.blake3_binary.specs.Laws.Sums.{bit_of_right}
use Rattle.blake3_packed.specs.States.{made, made_cells, step_cells, lane_first, lane_state, lane_half, lane_cells}
use Rattle.blake3_packed.specs.Laws.Steps.{turned_round}

pub lane_start : (x : Input) (present n : ℕ) → n ≡ 0 → lane_first x present ≡ lane_state x present n
unfolding lane_state
lane_start x present n e = ap (lane_state x present) (sym e)

pub lane_next : (x : Input) (present n m : ℕ) → m ≡ suc n → half_round x n (lane_state x present n) ≡ lane_state x present m
unfolding lane_state
lane_next x present n m e = ap (lane_state x present) (sym e)

pub lane_next_two : (x : Input) (present p : ℕ) → half_round x (2 * p + 1) (half_round x (2 * p) (lane_state x present (2 * p))) ≡ lane_state x present (2 * (p + 1))
lane_next_two x present p =
    ap (half_round x (2 * p + 1)) (lane_next x present (2 * p) (2 * p + 1) (omega arith)) ∙ lane_next x present (2 * p + 1) (2 * (p + 1)) (omega arith)

-- the cells of step g are those of its halves
pub step_halves : (x : Input) (present p g : ℕ) → g < 4
    → step_cells x p g (words_taken (p % 2) (lane_state x present (2 * p)) g) ≡ joined 2 (λ h. lane_half x present (2 * p + h) g)
unfolding joined
step_halves x present p g lg =
    let t = p % 2 in
    let v = lane_state x present (2 * p) in
    let e0 : 2 * p ≡ 2 * p + 0 = omega arith in
    let e1 : t ≡ turn_of (2 * p) = omega arith in
    let e2 : t ≡ turn_of (2 * p + 1) = omega arith in
    let two : t < 2 = omega arith in
    let next : 2 * p + 1 ≡ suc (2 * p) = omega arith in
    let middle : made x (2 * p) g (words_taken t v g) ≡ words_taken (turn_of (2 * p + 1)) (lane_state x present (2 * p + 1)) g =
    sym (taken_made t (λ k. made x (2 * p) k (words_taken t v k)) g two lg)
    ∙ ((λ i. words_taken (e2 i) (turned_round x (e1 i) (2 * p) v) g) ∙ ap (λ w. words_taken (turn_of (2 * p + 1)) w g) (lane_next x present (2 * p) (2 * p + 1) next)) in
    (λ i. made_cells x (2 * p) g (words_taken (e1 i) v g) ++ made_cells x (2 * p + 1) g (middle i))
    ∙ (λ i. lane_half x present (e0 i) g ++ lane_half x present (2 * p + 1) g)

pub four_halves : (x : Input) (present p : ℕ)
    → joined 4 (λ g. step_cells x p g (words_taken (p % 2) (lane_state x present (2 * p)) g)) ≡ joined 4 (λ g. joined 2 (λ h. lane_half x present (2 * p + h) g))
four_halves x present p =
    joined_same 4 (λ g. step_cells x p g (words_taken (p % 2) (lane_state x present (2 * p)) g)) (λ g. joined 2 (λ h. lane_half x present (2 * p + h) g)) (λ g lg. step_halves x present p g lg)

-- the parts of a lane's cells
pub cells_are : (x : Input) (p q : ℕ) → p ≡ q → bit_cells 8 (λ i. x (16 + i)) ++ bit_cells 16 (λ i. x (0 + i)) ++ bit_cells 4 (λ i. x (24 + i)) ++ laid (lane_half x p) ≡ lane_cells x q
unfolding lane_cells
cells_are x p q e =
    let f : (i : ℕ) → 0 + i ≡ i = λ i. omega arith in
    λ k. bit_cells 8 (λ i. x (16 + i)) ++ bit_cells 16 (λ i. x (f i k)) ++ bit_cells 4 (λ i. x (24 + i)) ++ laid (lane_half x (e k))

-- a present lane has the row of its compression
present_first : (x : Input) (row column : ℕ) → lane_first x 1 row column ≡ first_state x row column
present_first x zero column = refl
present_first x (suc zero) column = refl
present_first x (suc (suc zero)) column = omega arith
present_first x (suc (suc (suc n))) column = refl

present_state : (x : Input) (n : ℕ) → lane_state x 1 n ≡ state x n
unfolding lane_state state
present_state x zero = λ i row column. present_first x row column i
present_state x (suc n) = ap (half_round x n) (present_state x n)

pub present_cells : (x : Input) → lane_cells x 1 ≡ binary_cells x
unfolding lane_cells binary_cells
present_cells x =
    λ i. bit_cells 8 (chaining x) ++ bit_cells 16 x ++ bit_cells 4 (λ i. x (24 + i)) ++ laid (λ n g. made_cells x n g (words_taken (turn_of n) (present_state x n i) g))

-- an absent lane has zeros
right_zero : (s : ℕ) → rotate_right w32 0 s ≡ 0
right_zero s =
    same_from_bits_below 32 (rotate_right w32 0 s) 0 (right_below 0 s (lit< tt)) (lit< tt) (λ i lt. bit_of_right 0 s i (lit< tt) lt ∙ (bit_at-zero ((i + s) % 32) ∙ sym (bit_at-zero i)))

abbrev no_quarter : Quarter
no_quarter = record { a = 0; b = 0; c = 0; d = 0 }

abbrev no_state : State
no_state row column = 0

abbrev no_input : Input
no_input i = 0

no_half : (s t : ℕ) → half_quarter_round s t no_quarter 0 ≡ no_quarter
unfolding half_a half_b half_c half_d
no_half s t =
    let d : half_d s no_quarter 0 ≡ 0 = right_zero s in
    let c : half_c s no_quarter 0 ≡ 0 = ap (λ m. (0 + m) % 2 ^ 32) d in
    let b : half_b s t no_quarter 0 ≡ 0 = ap (λ m. rotate_right w32 (bit_xor 0 m) t) c ∙ right_zero t in
    λ i. record { a = 0; b = b i; c = c i; d = d i }

no_word : (row : ℕ) → ◌≡◌ {A = ℕ} (word no_quarter row) 0
no_word zero = refl
no_word (suc zero) = refl
no_word (suc (suc zero)) = refl
no_word (suc (suc (suc n))) = refl

no_round : (n : ℕ) → half_round no_input n no_state ≡ no_state
no_round n = λ i row column. (ap (λ q. word q row) (no_half (d_turn n) (b_turn n)) ∙ no_word row) i

no_first : (row column : ℕ) → ◌≡◌ {A = ℕ} (lane_first no_input 0 row column) 0
no_first zero column = refl
no_first (suc zero) column = refl
no_first (suc (suc zero)) column = omega arith
no_first (suc (suc (suc n))) column = refl

no_lane : (n : ℕ) → lane_state no_input 0 n ≡ no_state
unfolding lane_state
no_lane zero = λ i row column. no_first row column i
no_lane (suc n) = ap (half_round no_input n) (no_lane n) ∙ no_round n

record AreZero (xs : List ℕ) : Type 0 where
  zero_at : (k : ℕ) → get_or xs k 0 ≡ 0

zero_append : (a b : List ℕ) → AreZero a → AreZero b → AreZero (a ++ b)
zero_append a b p q = record {
  zero_at = λ k. elim (cases_lt k (length a)) [
    | inl lt ↦ get_or_append_left a b 0 k lt ∙ p.zero_at k
    | inr le ↦ get_or-append_right a b (length a) k 0 refl le ∙ q.zero_at _
  ];
}

zero_table : (n : ℕ) (f : ℕ → ℕ) → ((i : ℕ) → f i ≡ 0) → (k : ℕ) → get_or (tabulate n f) k 0 ≡ 0
zero_table zero f h k = refl
zero_table (suc n) f h zero = h 0
zero_table (suc n) f h (suc k) = zero_table n (λ i. f (suc i)) (λ i. h (suc i)) k

zero_joined : (n : ℕ) (t : ℕ → List ℕ) → ((i : ℕ) → AreZero (t i)) → AreZero (joined n t)
unfolding joined
zero_joined zero t h = record { zero_at = λ k. refl }
zero_joined (suc n) t h = zero_append (joined n t) (t n) (zero_joined n t h) (h n)

zero_bits : AreZero (tabulate 32 (bit_at 0))
zero_bits = record { zero_at = zero_table 32 (bit_at 0) bit_at-zero }

zero_carry : (i : ℕ) → carry 0 0 i ≡ 0
unfolding carry
zero_carry zero = refl
zero_carry (suc i) = λ k. (bit_at-zero i k + bit_at-zero i k + zero_carry i k) / 2

zero_quarter : AreZero (quarter_cells no_quarter no_quarter)
zero_quarter =
    zero_append (tabulate 31 (λ i. carry 0 0 (suc i)) ++ tabulate 32 (bit_at 0)) (tabulate 32 (bit_at 0))
    (zero_append (tabulate 31 (λ i. carry 0 0 (suc i))) (tabulate 32 (bit_at 0)) (record { zero_at = zero_table 31 (λ i. carry 0 0 (suc i)) (λ i. zero_carry (suc i)) }) zero_bits) zero_bits

zero_half : (n g : ℕ) → AreZero (lane_half no_input 0 n g)
zero_half n g =
    let e : quarter_cells no_quarter no_quarter ≡ lane_half no_input 0 n g =
    (λ i. quarter_cells no_quarter (sym (no_half (d_turn n) (b_turn n)) i)) ∙ (λ i. made_cells no_input n g (words_taken (turn_of n) (sym (no_lane n) i) g)) in
    subst AreZero e zero_quarter

zero_cells : AreZero (lane_cells no_input 0)
unfolding lane_cells laid
zero_cells =
    let words = λ (n : ℕ). zero_joined n (λ i. tabulate 32 (bit_at 0)) (λ i. zero_bits) in
    let steps = zero_joined 56 (λ k. joined 2 (λ h. lane_half no_input 0 (2 * (k / 4) + h) (k % 4))) (λ k. zero_joined 2 (λ h. lane_half no_input 0 (2 * (k / 4) + h) (k % 4)) (λ h. zero_half (2 * (k / 4) + h) (k % 4))) in
    zero_append _ _ (zero_append _ _ (zero_append _ _ (words 8) (words 16)) (words 4)) steps

pub absent_cells : (x : Input) → ((i : ℕ) → x i ≡ 0) → (k : ℕ) → get_or (lane_cells x 0) k 0 ≡ 0
absent_cells x h k =
    let e : x ≡ no_input = λ i n. h n i in
    ap (λ y. get_or (lane_cells y 0) k 0) e ∙ zero_cells.zero_at k
