-- A row meets the constraints exactly when it is the row of one compression.
use Rattle.std.proofs.Common.{◌≡◌, ℕ, zero, suc, ◌+◌, ◌*◌, ◌^◌, ◌<◌, ◌≤◌, get_or, false, refl, sym, ◌∙◌, ap, subst, arith}
use Rattle.std.proofs.lemmas.List.{get_or_default, same_lists}
use Rattle.p3_field.specs.Ring.{Ring, of_nat}
use Rattle.air_core.specs.declared.cells.Cell.{Cell}
use Rattle.air_core.specs.declared.cells.Cell.TheVariants.{Main}
use Rattle.air_core.specs.declared.cells.ExtCell.{ExtCell}
use Rattle.air_core.specs.Tree.{Reading}
use Rattle.air_core.specs.RowCheck.{cell_value, ext_cell_value}
use Rattle.air_gadgets.specs.Words.{PrimeFieldLaws, cells_reading}
use Rattle.blake3_compress.specs.Compress.{Input, first_state, output_of}
use Rattle.blake3_compress.specs.TraceRow.{state, row_cells, trace_row, bit_cells, limb_cells}
use Rattle.blake3_prime.specs.Trees.{place_of, from_column}
use Rattle.blake3_prime.specs.Meanings.{HasBits, HasLimbs, RepresentsState, RepresentsInput, RepresentsRow, RowMeans}
use Rattle.blake3_compress.specs.Laws.Cells.{Within, where_cells, bit_cell, limb_cell, cover, trace_cell, length-trace_row}
use Rattle.blake3_prime.specs.Laws.Row.{cells_mean}

module _ {A : Type 0} (r : Ring A) (at : Cell → A) (at_ext : ExtCell → A) (x : Input) where
  abbrev rd : Reading A A
  rd = cells_reading r at at_ext

  -- each cell of the row is that of the trace row
  abbrev pub AreCells : Type 0
  AreCells = (k : ℕ) → k < 9168 → at (Main false k) ≡ of_nat r (get_or (row_cells x) k 0)

  bits_stand : AreCells → (c n : ℕ) (w : ℕ → ℕ) → c + 32 * n ≤ 9168 → Within (row_cells x) c (bit_cells n w) → (i : ℕ) → i < n → HasBits r rd (from_column (c + 32 * i)) (w i)
  bits_stand h c n w le s i li k lk = h (c + 32 * i + k) (omega (arith, le, li, lk)) ∙ ap (of_nat r) (bit_cell (row_cells x) c n w s i k li lk)

  limbs_stand : AreCells → (c n : ℕ) (w : ℕ → ℕ) → c + 2 * n ≤ 9168 → Within (row_cells x) c (limb_cells n w) → (i : ℕ) → i < n → HasLimbs r rd (from_column (c + 2 * i)) (w i)
  limbs_stand h c n w le s i li k lk = h (c + 2 * i + k) (omega (arith, le, li, lk)) ∙ ap (of_nat r) (limb_cell (row_cells x) c n w s i k li lk)

  input_stands : AreCells → RepresentsInput r rd x
  input_stands h i li =
      let e : 0 + 32 * i ≡ 32 * i = omega arith in
      subst (λ c. HasBits r rd (from_column c) (x i)) e (bits_stand h 0 28 x (omega arith) (where_cells x).input i li)

  later_input : AreCells → (j c i : ℕ) → j + i < 28 → 32 * j ≡ c → HasBits r rd (from_column (c + 32 * i)) (x (j + i))
  later_input h j c i lt e =
      let f : 32 * (j + i) ≡ c + 32 * i = omega (arith, e) in
      subst (λ k. HasBits r rd (from_column k) (x (j + i))) f (input_stands h (j + i) lt)

  states_stand : AreCells → (n : ℕ) → n ≤ 28 → RepresentsState r rd (place_of n) (state x n)
  unfolding state
  states_stand h zero le =
      let C = where_cells x in record {
        limbs0 = limbs_stand h 896 4 (first_state x 0) (omega arith) C.initial0;
        bits1 = λ i li. let e : 20 + i ≡ 16 + (4 + i) = omega arith in subst (λ j. HasBits r rd (from_column (640 + 32 * i)) (x j)) e (later_input h 20 640 i (omega (arith, li)) refl);
        limbs2 = limbs_stand h 904 4 (first_state x 2) (omega arith) C.initial2;
        bits3 = λ i li. later_input h 24 768 i (omega (arith, li)) refl;
      }
  states_stand h (suc n) le =
      let S = (where_cells x).states n (omega (arith, le)) in
      let v = state x (suc n) in
      let e1 : 912 + 272 * n + 8 ≡ 920 + 272 * n = omega arith in
      let e2 : 912 + 272 * n + 136 ≡ 1048 + 272 * n = omega arith in
      let e3 : 912 + 272 * n + 144 ≡ 1056 + 272 * n = omega arith in record {
        limbs0 = limbs_stand h (912 + 272 * n) 4 (v 0) (omega (arith, le)) S.row0;
        bits1 = bits_stand h (920 + 272 * n) 4 (v 1) (omega (arith, le)) (subst (λ c. Within (row_cells x) c (bit_cells 4 (v 1))) e1 S.row1);
        limbs2 = limbs_stand h (1048 + 272 * n) 4 (v 2) (omega (arith, le)) (subst (λ c. Within (row_cells x) c (limb_cells 4 (v 2))) e2 S.row2);
        bits3 = bits_stand h (1056 + 272 * n) 4 (v 3) (omega (arith, le)) (subst (λ c. Within (row_cells x) c (bit_cells 4 (v 3))) e3 S.row3);
      }

  pub row_stands : AreCells → RepresentsRow r rd x
  row_stands h =
      let C = where_cells x in record {
        input = input_stands h;
        states = states_stand h;
        helpers = bits_stand h 8528 4 (state x 28 2) (omega arith) C.helpers;
        outputs = λ k i lk li. bits_stand h (8656 + 128 * k) 4 (output_of x (state x 28) k) (omega (arith, lk)) (C.outputs k lk) i li;
      }

  -- the other way
  pub row_cells_are : RepresentsRow r rd x → AreCells
  unfolding state
  row_cells_are s =
      let C = where_cells x in
      let xs = row_cells x in
      cover (λ c. at (Main false c) ≡ of_nat r (get_or xs c 0))
      (λ i k li lk. let e : 0 + 32 * i + k ≡ 32 * i + k = omega arith in s.input i li k lk ∙ ap (of_nat r) (sym (bit_cell xs 0 28 x C.input i k li lk) ∙ ap (λ j. get_or xs j 0) e))
      (λ i k li lk. (s.states 0 (omega arith)).limbs0 i li k lk ∙ ap (of_nat r) (sym (limb_cell xs 896 4 (first_state x 0) C.initial0 i k li lk)))
      (λ i k li lk. (s.states 0 (omega arith)).limbs2 i li k lk ∙ ap (of_nat r) (sym (limb_cell xs 904 4 (first_state x 2) C.initial2 i k li lk)))
      (λ n i k ln li lk. (s.states (suc n) (omega (arith, ln))).limbs0 i li k lk ∙ ap (of_nat r) (sym (limb_cell xs (912 + 272 * n) 4 (state x (suc n) 0) (C.states n ln).row0 i k li lk)))
      (λ n i k ln li lk.
      let e : 912 + 272 * n + 8 + 32 * i + k ≡ 920 + 272 * n + 32 * i + k = omega arith in
      (s.states (suc n) (omega (arith, ln))).bits1 i li k lk ∙ ap (of_nat r) (sym (bit_cell xs (912 + 272 * n + 8) 4 (state x (suc n) 1) (C.states n ln).row1 i k li lk) ∙ ap (λ j. get_or xs j 0) e))
      (λ n i k ln li lk.
      let e : 912 + 272 * n + 136 + 2 * i + k ≡ 1048 + 272 * n + 2 * i + k = omega arith in
      (s.states (suc n) (omega (arith, ln))).limbs2 i li k lk ∙ ap (of_nat r) (sym (limb_cell xs (912 + 272 * n + 136) 4 (state x (suc n) 2) (C.states n ln).row2 i k li lk) ∙ ap (λ j. get_or xs j 0) e))
      (λ n i k ln li lk.
      let e : 912 + 272 * n + 144 + 32 * i + k ≡ 1056 + 272 * n + 32 * i + k = omega arith in
      (s.states (suc n) (omega (arith, ln))).bits3 i li k lk ∙ ap (of_nat r) (sym (bit_cell xs (912 + 272 * n + 144) 4 (state x (suc n) 3) (C.states n ln).row3 i k li lk) ∙ ap (λ j. get_or xs j 0) e))
      (λ i k li lk. s.helpers i li k lk ∙ ap (of_nat r) (sym (bit_cell xs 8528 4 (state x 28 2) C.helpers i k li lk)))
      (λ j i k lj li lk. s.outputs j i lj li k lk ∙ ap (of_nat r) (sym (bit_cell xs (8656 + 128 * j) 4 (output_of x (state x 28) j) (C.outputs j lj) i k li lk)))

pub row_means : {A : Type 0} (r : Ring A) (inv : A → A) (order : ℕ) (canonical : A → ℕ) (P : PrimeFieldLaws r inv order canonical) → 2 ^ 20 < order → RowMeans r
row_means {A = A} r inv order canonical P o row long =
    let at : Cell → A = cell_value r row in
    let at_ext : ExtCell → A = ext_cell_value r.zero row in
    let means = cells_mean r inv order canonical P o at at_ext in (
      λ v.
          let s = means.0 v in
          let are = row_cells_are r at at_ext s.0 s.2 in (
            s.0,
            s.1,
            same_lists row.main_local (trace_row r s.0) (long ∙ sym (length-trace_row r s.0))
                (λ k d lt. get_or_default row.main_local k d r.zero lt ∙ (are k (omega (arith, long, lt)) ∙ sym (trace_cell r s.0 k d (omega (arith, long, lt))))),
          ),
      λ s.
          let are : AreCells r at at_ext s.0 = λ k lt. ap (λ xs. get_or xs k r.zero) s.2 ∙ trace_cell r s.0 k r.zero lt in
          means.1 (s.0, s.1, row_stands r at at_ext s.0 are),
    )
