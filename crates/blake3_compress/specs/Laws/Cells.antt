-- Where the words of the trace row stand in its list of cells.
use Rattle.std.proofs.Common.{◌≡◌, ℕ, zero, suc, ◌+◌, ◌-◌, ◌*◌, ◌/◌, ◌%◌, ◌<◌, ◌≤◌, ◌++◌, List, length, get_or, sym, ◌∙◌, ap, subst, arith, inl, inr, length-append}
use Rattle.std.specs.Int.{bit_at}
use Rattle.std.proofs.Math.Nat.{mul-suc, mul-le-mul_left}
use Rattle.std.proofs.lemmas.Bool.{cases_eq, cases_lt}
use Rattle.std.proofs.lemmas.List.{get_or_append_left, get_or-append-add, get_or-map, length-map}
use Rattle.p3_field.specs.Ring.{Ring, of_nat}
use Rattle.p3_field.specs.Poly.{tabulate}
use Rattle.p3_field.specs.Laws.Tabulate.{length-tabulate, get_or-tabulate}
use Rattle.air_gadgets.specs.Words.{limb}
use Rattle.blake3_compress.specs.Compress.{State, Input, first_state, output_of}
use Rattle.air_core.specs.Joined.{joined}
use Rattle.blake3_compress.specs.TraceRow.{bit_cells, limb_cells, state_cells, state, row_cells, trace_row}

-- the second list stands in the first from a place on
abbrev pub Within : List ℕ → ℕ → List ℕ → Type 0
Within xs at ys = (k : ℕ) → k < length ys → get_or xs (at + k) 0 ≡ get_or ys k 0

pub in_left : (a b : List ℕ) (at : ℕ) (c : List ℕ) → at + length c ≤ length a → Within a at c → Within (a ++ b) at c
in_left a b at c le h k lt = get_or_append_left a b 0 (at + k) (omega (arith, le, lt)) ∙ h k lt

pub in_right : (a b : List ℕ) (n at m : ℕ) (c : List ℕ) → length a ≡ n → n + at ≡ m → Within b at c → Within (a ++ b) m c
in_right a b n at m c e f h k lt =
    let g : m + k ≡ length a + (at + k) = omega (arith, e, f) in
    ap (λ j. get_or (a ++ b) j 0) g ∙ (get_or-append-add a b (at + k) 0 ∙ h k lt)

pub in_itself : (a : List ℕ) → Within a 0 a
in_itself a k lt = let e : 0 + k ≡ k = omega arith in ap (λ j. get_or a j 0) e

pub in_inner : (a b c : List ℕ) (at on m : ℕ) → at + on ≡ m → on + length c ≤ length b → Within a at b → Within b on c → Within a m c
in_inner a b c at on m e le h g k lt =
    let f : m + k ≡ at + (on + k) = omega (arith, e) in
    ap (λ j. get_or a j 0) f ∙ (h (on + k) (omega (arith, le, lt)) ∙ g k lt)

pub length-joined : {X : Type 0} (n m : ℕ) (t : ℕ → List X) → ((i : ℕ) → length (t i) ≡ m) → length (joined n t) ≡ m * n
unfolding joined
length-joined zero m t h = omega arith
length-joined (suc n) m t h =
    let rest = length-joined n m t h in
    let here = h n in
    let both = length-append (joined n t) (t n) in
    let e : m * suc n ≡ m * n + m = omega arith in
    omega (arith, rest, here, both, e)

pub in_joined : (n m : ℕ) (t : ℕ → List ℕ) → ((i : ℕ) → length (t i) ≡ m) → (i : ℕ) → i < n → Within (joined n t) (m * i) (t i)
unfolding joined
in_joined zero m t h i lt = absurd (omega (arith, lt))
in_joined (suc n) m t h i lt =
    let long = length-joined n m t h in
    elim (cases_eq i n) [
      | inl e ↦
          let f : m * n + 0 ≡ m * i = ap (λ j. m * j + 0) (sym e) ∙ omega arith in
          subst (λ j. Within (joined n t ++ t n) (m * i) (t j)) (sym e) (in_right (joined n t) (t n) (m * n) 0 (m * i) (t n) long f (in_itself (t n)))
      | inr d ↦
          let less : i < n = omega (arith, d, lt) in
          let wide : m * i + m ≤ m * n = omega (arith, mul-suc m i, mul-le-mul_left m less) in
          in_left (joined n t) (t n) (m * i) (t i) (omega (arith, wide, long, h i)) (in_joined n m t h i less)
    ]

bits_long : (w : ℕ → ℕ) (i : ℕ) → length (tabulate 32 (bit_at (w i))) ≡ 32
bits_long w i = length-tabulate 32 (bit_at (w i))

limbs_long : (w : ℕ → ℕ) (i : ℕ) → length (tabulate 2 (limb (w i))) ≡ 2
limbs_long w i = length-tabulate 2 (limb (w i))

pub length-bit_cells : (n : ℕ) (w : ℕ → ℕ) → length (bit_cells n w) ≡ 32 * n
length-bit_cells n w = length-joined n 32 (λ i. tabulate 32 (bit_at (w i))) (bits_long w)

pub length-limb_cells : (n : ℕ) (w : ℕ → ℕ) → length (limb_cells n w) ≡ 2 * n
length-limb_cells n w = length-joined n 2 (λ i. tabulate 2 (limb (w i))) (limbs_long w)

-- the lists of a state and of the row, and their lengths
pub length-state_cells : (v : State) → length (state_cells v) ≡ 272
length-state_cells v =
    let a = limb_cells 4 (v 0) in
    let b = bit_cells 4 (v 1) in
    let c = limb_cells 4 (v 2) in
    let d = bit_cells 4 (v 3) in
    omega (arith, length-append (a ++ b ++ c) d, length-append (a ++ b) c, length-append a b, length-limb_cells 4 (v 0), length-bit_cells 4 (v 1), length-limb_cells 4 (v 2), length-bit_cells 4 (v 3))

-- where a state's rows stand
pub record StateCells (xs : List ℕ) (at : ℕ) (v : State) : Type 0 where
  pub row0 : Within xs at (limb_cells 4 (v 0))
  pub row1 : Within xs (at + 8) (bit_cells 4 (v 1))
  pub row2 : Within xs (at + 136) (limb_cells 4 (v 2))
  pub row3 : Within xs (at + 144) (bit_cells 4 (v 3))

state_rows : (v : State) → StateCells (state_cells v) 0 v
state_rows v =
    let a = limb_cells 4 (v 0) in
    let b = bit_cells 4 (v 1) in
    let c = limb_cells 4 (v 2) in
    let d = bit_cells 4 (v 3) in
    let la : length a ≡ 8 = length-limb_cells 4 (v 0) in
    let lb : length b ≡ 128 = length-bit_cells 4 (v 1) in
    let lc : length c ≡ 8 = length-limb_cells 4 (v 2) in
    let ab : length (a ++ b) ≡ 136 = omega (arith, length-append a b, la, lb) in
    let abc : length (a ++ b ++ c) ≡ 144 = omega (arith, length-append (a ++ b) c, ab, lc) in
    record {
      row0 = in_left (a ++ b ++ c) d 0 a (omega (arith, la, abc)) (in_left (a ++ b) c 0 a (omega (arith, la, ab)) (in_left a b 0 a (omega (arith, la)) (in_itself a)));
      row1 = in_left (a ++ b ++ c) d 8 b (omega (arith, lb, abc)) (in_left (a ++ b) c 8 b (omega (arith, lb, ab)) (in_right a b 8 0 8 b la (omega arith) (in_itself b)));
      row2 = in_left (a ++ b ++ c) d 136 c (omega (arith, lc, abc)) (in_right (a ++ b) c 136 0 136 c ab (omega arith) (in_itself c));
      row3 = in_right (a ++ b ++ c) d 144 0 144 d abc (omega arith) (in_itself d);
    }

state_within : (xs : List ℕ) (at : ℕ) (v : State) → Within xs at (state_cells v) → StateCells xs at v
state_within xs at v h =
    let s = state_rows v in
    let long = length-state_cells v in record {
      row0 = in_inner xs (state_cells v) (limb_cells 4 (v 0)) at 0 at (omega arith) (omega (arith, long, length-limb_cells 4 (v 0))) h s.row0;
      row1 = in_inner xs (state_cells v) (bit_cells 4 (v 1)) at 8 (at + 8) (omega arith) (omega (arith, long, length-bit_cells 4 (v 1))) h s.row1;
      row2 = in_inner xs (state_cells v) (limb_cells 4 (v 2)) at 136 (at + 136) (omega arith) (omega (arith, long, length-limb_cells 4 (v 2))) h s.row2;
      row3 = in_inner xs (state_cells v) (bit_cells 4 (v 3)) at 144 (at + 144) (omega arith) (omega (arith, long, length-bit_cells 4 (v 3))) h s.row3;
    }

-- where the row's parts stand
pub record RowCells (x : Input) : Type 0 where
  pub long : length (row_cells x) ≡ 9168
  pub input : Within (row_cells x) 0 (bit_cells 28 x)
  pub initial0 : Within (row_cells x) 896 (limb_cells 4 (first_state x 0))
  pub initial2 : Within (row_cells x) 904 (limb_cells 4 (first_state x 2))
  pub states : (n : ℕ) → n < 28 → StateCells (row_cells x) (912 + 272 * n) (state x (suc n))
  pub helpers : Within (row_cells x) 8528 (bit_cells 4 (state x 28 2))
  pub outputs : (k : ℕ) → k < 4 → Within (row_cells x) (8656 + 128 * k) (bit_cells 4 (output_of x (state x 28) k))

pub where_cells : (x : Input) → RowCells x
unfolding row_cells
where_cells x =
    let a = bit_cells 28 x in
    let b = limb_cells 4 (first_state x 0) in
    let c = limb_cells 4 (first_state x 2) in
    let t : ℕ → List ℕ = λ n. state_cells (state x (suc n)) in
    let d = joined 28 t in
    let e = bit_cells 4 (state x 28 2) in
    let u : ℕ → List ℕ = λ k. bit_cells 4 (output_of x (state x 28) k) in
    let f = joined 4 u in
    let la : length a ≡ 896 = length-bit_cells 28 x in
    let lb : length b ≡ 8 = length-limb_cells 4 (first_state x 0) in
    let lc : length c ≡ 8 = length-limb_cells 4 (first_state x 2) in
    let each_t : (n : ℕ) → length (t n) ≡ 272 = λ n. length-state_cells (state x (suc n)) in
    let each_u : (k : ℕ) → length (u k) ≡ 128 = λ k. length-bit_cells 4 (output_of x (state x 28) k) in
    let ld : length d ≡ 7616 = length-joined 28 272 t each_t in
    let le : length e ≡ 128 = length-bit_cells 4 (state x 28 2) in
    let lf : length f ≡ 512 = length-joined 4 128 u each_u in
    let ab : length (a ++ b) ≡ 904 = omega (arith, length-append a b, la, lb) in
    let ac : length (a ++ b ++ c) ≡ 912 = omega (arith, length-append (a ++ b) c, ab, lc) in
    let ad : length (a ++ b ++ c ++ d) ≡ 8528 = omega (arith, length-append (a ++ b ++ c) d, ac, ld) in
    let ae : length (a ++ b ++ c ++ d ++ e) ≡ 8656 = omega (arith, length-append (a ++ b ++ c ++ d) e, ad, le) in
    record {
      long = omega (arith, length-append (a ++ b ++ c ++ d ++ e) f, ae, lf);
      input =
          in_left (a ++ b ++ c ++ d ++ e) f 0 a (omega (arith, la, ae)) (in_left (a ++ b ++ c ++ d) e 0 a (omega (arith, la, ad))
          (in_left (a ++ b ++ c) d 0 a (omega (arith, la, ac)) (in_left (a ++ b) c 0 a (omega (arith, la, ab)) (in_left a b 0 a (omega (arith, la)) (in_itself a)))));
      initial0 =
          in_left (a ++ b ++ c ++ d ++ e) f 896 b (omega (arith, lb, ae)) (in_left (a ++ b ++ c ++ d) e 896 b (omega (arith, lb, ad))
          (in_left (a ++ b ++ c) d 896 b (omega (arith, lb, ac)) (in_left (a ++ b) c 896 b (omega (arith, lb, ab)) (in_right a b 896 0 896 b la (omega arith) (in_itself b)))));
      initial2 =
          in_left (a ++ b ++ c ++ d ++ e) f 904 c (omega (arith, lc, ae)) (in_left (a ++ b ++ c ++ d) e 904 c (omega (arith, lc, ad))
          (in_left (a ++ b ++ c) d 904 c (omega (arith, lc, ac)) (in_right (a ++ b) c 904 0 904 c ab (omega arith) (in_itself c))));
      states = λ n lt.
          state_within (a ++ b ++ c ++ d ++ e ++ f) (912 + 272 * n) (state x (suc n))
          (in_left (a ++ b ++ c ++ d ++ e) f (912 + 272 * n) (t n) (omega (arith, each_t n, ae, lt)) (in_left (a ++ b ++ c ++ d) e (912 + 272 * n) (t n) (omega (arith, each_t n, ad, lt))
          (in_right (a ++ b ++ c) d 912 (272 * n) (912 + 272 * n) (t n) ac (omega arith) (in_joined 28 272 t each_t n lt))));
      helpers = in_left (a ++ b ++ c ++ d ++ e) f 8528 e (omega (arith, le, ae)) (in_right (a ++ b ++ c ++ d) e 8528 0 8528 e ad (omega arith) (in_itself e));
      outputs = λ k lt. in_right (a ++ b ++ c ++ d ++ e) f 8656 (128 * k) (8656 + 128 * k) (u k) ae (omega arith) (in_joined 4 128 u each_u k lt);
    }

-- a word's bits, or limbs, where the words of a list stand
pub bit_cell : (xs : List ℕ) (at n : ℕ) (w : ℕ → ℕ) → Within xs at (bit_cells n w) → (i k : ℕ) → i < n → k < 32 → get_or xs (at + 32 * i + k) 0 ≡ bit_at (w i) k
bit_cell xs at n w h i k li lk =
    let t : ℕ → List ℕ = λ i. tabulate 32 (bit_at (w i)) in
    let long = length-bit_cells n w in
    let inner = in_inner xs (bit_cells n w) (t i) at (32 * i) (at + 32 * i) (omega arith) (omega (arith, long, bits_long w i, li)) h (in_joined n 32 t (bits_long w) i li) in
    inner k (omega (arith, bits_long w i, lk)) ∙ get_or-tabulate 32 (bit_at (w i)) k 0 lk

pub limb_cell : (xs : List ℕ) (at n : ℕ) (w : ℕ → ℕ) → Within xs at (limb_cells n w) → (i k : ℕ) → i < n → k < 2 → get_or xs (at + 2 * i + k) 0 ≡ limb (w i) k
limb_cell xs at n w h i k li lk =
    let t : ℕ → List ℕ = λ i. tabulate 2 (limb (w i)) in
    let long = length-limb_cells n w in
    let inner = in_inner xs (limb_cells n w) (t i) at (2 * i) (at + 2 * i) (omega arith) (omega (arith, long, limbs_long w i, li)) h (in_joined n 2 t (limbs_long w) i li) in
    inner k (omega (arith, limbs_long w i, lk)) ∙ get_or-tabulate 2 (limb (w i)) k 0 lk

-- What holds of all columns of the row, where it holds of the columns of each word.
pub cover : (Q : ℕ → Type 0)
    → ((i k : ℕ) → i < 28 → k < 32 → Q (32 * i + k))
    → ((i k : ℕ) → i < 4 → k < 2 → Q (896 + 2 * i + k))
    → ((i k : ℕ) → i < 4 → k < 2 → Q (904 + 2 * i + k))
    → ((n i k : ℕ) → n < 28 → i < 4 → k < 2 → Q (912 + 272 * n + 2 * i + k))
    → ((n i k : ℕ) → n < 28 → i < 4 → k < 32 → Q (920 + 272 * n + 32 * i + k))
    → ((n i k : ℕ) → n < 28 → i < 4 → k < 2 → Q (1048 + 272 * n + 2 * i + k))
    → ((n i k : ℕ) → n < 28 → i < 4 → k < 32 → Q (1056 + 272 * n + 32 * i + k))
    → ((i k : ℕ) → i < 4 → k < 32 → Q (8528 + 32 * i + k))
    → ((j i k : ℕ) → j < 4 → i < 4 → k < 32 → Q (8656 + 128 * j + 32 * i + k))
    → (c : ℕ) → c < 9168 → Q c
cover Q h0 h1 h2 s0 s1 s2 s3 h4 h5 c lt =
    elim (cases_lt c 896) [
      | inl a ↦ let e : 32 * (c / 32) + c % 32 ≡ c = omega arith in subst Q e (h0 (c / 32) (c % 32) (omega (arith, a)) (omega arith))
      | inr a ↦ elim (cases_lt c 904) [
        | inl b ↦ let d = c - 896 in let e : 896 + 2 * (d / 2) + d % 2 ≡ c = omega (arith, a) in subst Q e (h1 (d / 2) (d % 2) (omega (arith, b)) (omega arith))
        | inr b ↦ elim (cases_lt c 912) [
          | inl f ↦ let d = c - 904 in let e : 904 + 2 * (d / 2) + d % 2 ≡ c = omega (arith, b) in subst Q e (h2 (d / 2) (d % 2) (omega (arith, f)) (omega arith))
          | inr f ↦ elim (cases_lt c 8528) [
            | inl g ↦
                let n = (c - 912) / 272 in
                let m = (c - 912) % 272 in
                let w : 912 + 272 * n + m ≡ c = omega (arith, f) in
                let ln : n < 28 = omega (arith, g) in
                let lm : m < 272 = omega arith in
                subst Q w (state_columns n m ln lm)
            | inr g ↦ elim (cases_lt c 8656) [
              | inl h ↦ let d = c - 8528 in let e : 8528 + 32 * (d / 32) + d % 32 ≡ c = omega (arith, g) in subst Q e (h4 (d / 32) (d % 32) (omega (arith, h)) (omega arith))
              | inr h ↦
                  let d = c - 8656 in
                  let j = d / 128 in
                  let i = d % 128 / 32 in
                  let k = d % 32 in
                  let e : 8656 + 128 * j + 32 * i + k ≡ c = omega (arith, h) in
                  subst Q e (h5 j i k (omega (arith, lt)) (omega arith) (omega arith))
            ]
          ]
        ]
      ]
    ]
  where
    state_columns : (n m : ℕ) → n < 28 → m < 272 → Q (912 + 272 * n + m)
    state_columns n m ln lm = elim (cases_lt m 8) [
      | inl a ↦ let e : 912 + 272 * n + 2 * (m / 2) + m % 2 ≡ 912 + 272 * n + m = omega arith in subst Q e (s0 n (m / 2) (m % 2) ln (omega (arith, a)) (omega arith))
      | inr a ↦ elim (cases_lt m 136) [
        | inl b ↦ let d = m - 8 in let e : 920 + 272 * n + 32 * (d / 32) + d % 32 ≡ 912 + 272 * n + m = omega (arith, a) in subst Q e (s1 n (d / 32) (d % 32) ln (omega (arith, b)) (omega arith))
        | inr b ↦ elim (cases_lt m 144) [
          | inl f ↦ let d = m - 136 in let e : 1048 + 272 * n + 2 * (d / 2) + d % 2 ≡ 912 + 272 * n + m = omega (arith, b) in subst Q e (s2 n (d / 2) (d % 2) ln (omega (arith, f)) (omega arith))
          | inr f ↦ let d = m - 144 in let e : 1056 + 272 * n + 32 * (d / 32) + d % 32 ≡ 912 + 272 * n + m = omega (arith, f) in subst Q e (s3 n (d / 32) (d % 32) ln (omega (arith, lm)) (omega arith))
        ]
      ]
    ]

-- the cells of the trace row, as elements
pub trace_cell : {A : Type 0} (r : Ring A) (x : Input) (k : ℕ) (d : A) → k < 9168 → get_or (trace_row r x) k d ≡ of_nat r (get_or (row_cells x) k 0)
trace_cell r x k d lt = get_or-map (of_nat r) (row_cells x) k 0 d (omega (arith, (where_cells x).long, lt))

pub length-trace_row : {A : Type 0} (r : Ring A) (x : Input) → length (trace_row r x) ≡ 9168
length-trace_row r x = length-map (row_cells x) (of_nat r) ∙ (where_cells x).long
