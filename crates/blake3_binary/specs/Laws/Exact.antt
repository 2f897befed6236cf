-- A row meets all constraints exactly when it is the row of one compression, over each field in which 1 + 1 is zero.
use Rattle.std.proofs.Common.{◌≡◌, ℕ, zero, suc, ◌+◌, ◌-◌, ◌*◌, ◌/◌, ◌%◌, ◌^◌, ◌<◌, ◌≤◌, ◌⊎◌, get_or, inl, inr, refl, sym, ◌∙◌, ap, subst, arith, lit<}
use Rattle.std.specs.Int.{bit_at}
use Rattle.std.proofs.lemmas.Bool.{cases_lt}
use Rattle.std.proofs.lemmas.Nat.Bits.{bit_at-lt, same_from_bits_below}
use Rattle.std.proofs.lemmas.List.{ext_get_or}
use Rattle.std.proofs.lemmas.List.Elements.{All-append}
use Rattle.p3_field.specs.Ring.{Ring, RingLaws, of_nat, sub}
use Rattle.p3_field.specs.Laws.Algebra.{mul_zero, zero_mul}
use Rattle.p3_field.specs.Laws.Roots.{NoZeroDivisors, sub_zero, sub_self}
use Rattle.air_core.specs.RowCheck.{Row, tree_value_at_row}
use Rattle.air_core.specs.Tree.{Tree, bool_tree}
use Rattle.air_gadgets.specs.Words.{AreBits, bits_word}
use Rattle.blake3_compress.specs.Compress.{Input}
use Rattle.blake3_compress.specs.TraceRow.{AreWords}
use Rattle.blake3_binary.specs.Trees.{from_column, bits_trees, binary_steps_trees, binary_trees}
use Rattle.blake3_binary.specs.Row.{binary_cells, binary_trace_row}
use Rattle.blake3_binary.specs.Meanings.{Meets, BinaryRowMeans, BinaryWordsAreDetermined}
use Rattle.air_core.specs.Laws.Lists.{all_left, all_right, all_of_tabulate, all_tabulate}
use Rattle.blake3_compress.specs.Laws.Words.{bit_of_bits, bits_below}
use Rattle.blake3_binary.specs.Laws.Cells.{StepCells}
use Rattle.blake3_binary.specs.Laws.Completion.{made_carries, made_ds, made_bs, meets_of_cells, cells_of_meets, same_steps}
use Rattle.blake3_binary.specs.Laws.Bits.{input_cells, cover_input, cells, row_at, long_trace, trace_steps}

-- the first where n is zero, else the second
pick : ℕ → ℕ → ℕ → ℕ
pick zero a b = a
pick (suc n) a b = b

-- the column of input word i
input_column : ℕ → ℕ
input_column i = pick (i / 24) (32 * ((i + 8) % 24)) (32 * i)

front_column : (i : ℕ) → i < 24 → input_column i ≡ 32 * ((i + 8) % 24)
unfolding input_column pick
front_column i lt =
    let e : i / 24 ≡ 0 = omega (arith, lt) in
    ap (λ n. pick n (32 * ((i + 8) % 24)) (32 * i)) e

last_column : (i : ℕ) → 24 ≤ i → i < 28 → input_column i ≡ 32 * i
unfolding input_column pick
last_column i le lt =
    let e : i / 24 ≡ 1 = omega (arith, le, lt) in
    ap (λ n. pick n (32 * ((i + 8) % 24)) (32 * i)) e

module _ {A : Type 0} (r : Ring A) (L : RingLaws r) (two : r.add r.one r.one ≡ r.zero) (decide : (x y : A) → (x ≡ y) ⊎ (x ≡ y → ⊥)) (N : NoZeroDivisors r) where
  -- 1 for one, and 0 for each other value
  number_of : (x : A) → (x ≡ r.one) ⊎ (x ≡ r.one → ⊥) → ℕ
  number_of x (inl e) = 1
  number_of x (inr d) = 0

  bit_of : A → ℕ
  bit_of x = number_of x (decide x r.one)

  number_below : (x : A) (d : (x ≡ r.one) ⊎ (x ≡ r.one → ⊥)) → number_of x d < 2
  unfolding number_of
  number_below x (inl e) = lit< tt
  number_below x (inr d) = lit< tt

  bit_of_below : (x : A) → bit_of x < 2
  unfolding bit_of
  bit_of_below x = number_below x (decide x r.one)

  of_one : of_nat r 1 ≡ r.one
  unfolding of_nat
  of_one = L.add_zero r.one

  -- x (x - 1) is zero where x is zero or one
  number_value : (x : A) (d : (x ≡ r.one) ⊎ (x ≡ r.one → ⊥)) → r.mul x (sub r x r.one) ≡ r.zero → x ≡ of_nat r (number_of x d)
  unfolding number_of of_nat
  number_value x (inl e) z = e ∙ sym of_one
  number_value x (inr d) z = N (sub r x r.one) x (λ e. d (sub_zero r L x r.one e)) (L.mul_comm (sub r x r.one) x ∙ z)

  value_of_bit : (x : A) → r.mul x (sub r x r.one) ≡ r.zero → x ≡ of_nat r (bit_of x)
  unfolding bit_of
  value_of_bit x z = number_value x (decide x r.one) z

  zero_of_number : (x : A) (n : ℕ) → n < 2 → x ≡ of_nat r n → r.mul x (sub r x r.one) ≡ r.zero
  unfolding of_nat
  zero_of_number x zero lt e = ap (λ v. r.mul v (sub r x r.one)) e ∙ zero_mul r L (sub r x r.one)
  zero_of_number x (suc zero) lt e = ap (r.mul x) (sub_self r L x r.one (e ∙ of_one)) ∙ mul_zero r L x
  zero_of_number x (suc (suc n)) lt e = absurd (omega (arith, lt))

  module _ (row : Row A A) where
    abbrev Zero : Tree A → Type 0
    Zero t = tree_value_at_row r r (λ x. x) row t ≡ r.zero

    abbrev here : ℕ → A
    here k = get_or row.main_local k r.zero

    -- the cells of the input are bits where they are those of these numbers
    bits_of_cells : (f : ℕ → ℕ) → ((k : ℕ) → k < 896 → f k < 2) → ((k : ℕ) → k < 896 → here k ≡ of_nat r (f k)) → Meets r row (bits_trees r 0 896)
    unfolding bits_trees
    bits_of_cells f b h =
        all_tabulate Zero 896 (λ i. bool_tree r.one (from_column 0 i)) (λ k lt.
        let e : 0 + k ≡ k = omega arith in
        zero_of_number (here (0 + k)) (f k) (b k lt) (ap here e ∙ h k lt))

    cell_is_bit : Meets r row (bits_trees r 0 896) → (k : ℕ) → k < 896 → here k ≡ of_nat r (bit_of (here k))
    unfolding bits_trees
    cell_is_bit z k lt =
        let e : 0 + k ≡ k = omega arith in
        value_of_bit (here k) (subst (λ j. r.mul (here j) (sub r (here j) r.one) ≡ r.zero) e
        (all_of_tabulate Zero 896 (λ i. bool_tree r.one (from_column 0 i)) z k lt))

    -- the input's words
    abbrev bits_at : ℕ → ℕ → ℕ
    bits_at c k = bit_of (here (c + k))

    abbrev input : Input
    input i = bits_word (bits_at (input_column i))

    are_bits : (c : ℕ) → AreBits (bits_at c)
    are_bits c k lt = bit_of_below (here (c + k))

    are_words : AreWords input
    are_words i lt = bits_below (bits_at (input_column i)) (are_bits (input_column i))

    word_cell : Meets r row (bits_trees r 0 896) → (i c j k : ℕ) → input_column i ≡ c → c + j ≡ k → k < 896 → j < 32 → here k ≡ of_nat r (bit_at (input i) j)
    word_cell z i c j k e f lt lj =
        let s : input_column i + j ≡ k = omega (arith, e, f) in
        cell_is_bit z k lt
        ∙ (ap (λ m. of_nat r (bit_of (here m))) (sym s) ∙ ap (of_nat r) (sym (bit_of_bits (bits_at (input_column i)) (are_bits (input_column i)) j lj)))

    input_is : Meets r row (bits_trees r 0 896) → (k : ℕ) → k < 896 → here k ≡ cells r L two input are_words k
    input_is z =
        let C = input_cells input in
        cover_input (λ k. here k ≡ cells r L two input are_words k)
        (λ i j li lj.
        let s : (16 + i + 8) % 24 ≡ i = omega (arith, li) in
        word_cell z (16 + i) (32 * i) j (32 * i + j) (front_column (16 + i) (omega (arith, li)) ∙ ap (λ m. 32 * m) s) refl (omega (arith, li, lj)) lj ∙ ap (of_nat r) (sym (C.chain i j li lj)))
        (λ i j li lj.
        let s : 32 * ((i + 8) % 24) ≡ 256 + 32 * i = omega (arith, li) in
        word_cell z i (256 + 32 * i) j (256 + 32 * i + j) (front_column i (omega (arith, li)) ∙ s) refl (omega (arith, li, lj)) lj ∙ ap (of_nat r) (sym (C.block i j li lj)))
        (λ i j li lj.
        let s : 32 * (24 + i) ≡ 768 + 32 * i = omega arith in
        word_cell z (24 + i) (768 + 32 * i) j (768 + 32 * i + j) (last_column (24 + i) (omega arith) (omega (arith, li)) ∙ s) refl (omega (arith, li, lj)) lj ∙ ap (of_nat r) (sym (C.rest i j li lj)))

  -- the cells of the input's words are bits
  input_below : (x : Input) (k : ℕ) → k < 896 → get_or (binary_cells x) k 0 < 2
  input_below x =
      let C = input_cells x in
      cover_input (λ k. get_or (binary_cells x) k 0 < 2)
      (λ i j li lj. omega (arith, C.chain i j li lj, bit_at-lt (x (16 + i)) j))
      (λ i j li lj. omega (arith, C.block i j li lj, bit_at-lt (x i) j))
      (λ i j li lj. omega (arith, C.rest i j li lj, bit_at-lt (x (24 + i)) j))

  pub row_means : BinaryRowMeans r
  unfolding binary_trees
  row_means row long = (
    λ z.
        let zb = all_left (Zero row) (bits_trees r 0 896) (binary_steps_trees r) z in
        let zs = all_right (Zero row) (bits_trees r 0 896) (binary_steps_trees r) z in
        let x = input row in
        let W = are_words row in
        let f : ℕ → A = cells r L two x W in
        let theirs = cells_of_meets r L two f row (input_is row zb) zs in
        let trace = binary_trace_row r x in
        let same : (k : ℕ) → k < 10640 → here row (896 + k) ≡ get_or trace (896 + k) r.zero =
        same_steps r L two row.main_local trace (made_carries r L two f) (made_ds r L two f) (made_bs r L two f) theirs (trace_steps r L two x W) in (
          x,
          W,
          ext_get_or r.zero row.main_local trace (long ∙ sym (long_trace r L two x W)) (λ k lt. elim (cases_lt k 896) [
            | inl a ↦ input_is row zb k a ∙ sym (row_at r L two x W k (omega (arith, a)))
            | inr a ↦
                let e : 896 + (k - 896) ≡ k = omega (arith, a) in
                subst (λ j. here row j ≡ get_or trace j r.zero) e (same (k - 896) (omega (arith, long, lt, a)))
          ]),
        ),
    λ p.
        let x = p.0 in
        let W = p.1 in
        let f : ℕ → A = cells r L two x W in
        let are : (k : ℕ) → k < 896 → here row k ≡ f k = λ k lt. ap (λ xs. get_or xs k r.zero) p.2 ∙ row_at r L two x W k (omega (arith, lt)) in
        let stand = subst (λ xs. StepCells r.zero xs (made_carries r L two f) (made_ds r L two f) (made_bs r L two f)) (sym p.2) (trace_steps r L two x W) in
        All-append (Zero row) (bits_trees r 0 896) (binary_steps_trees r)
        (bits_of_cells row (λ k. get_or (binary_cells x) k 0) (input_below x) are)
        (meets_of_cells r L two f row are stand),
  )

-- A row has the words of one compression alone.
module _ {A : Type 0} (r : Ring A) (L : RingLaws r) (two : r.add r.one r.one ≡ r.zero) (differ : r.one ≡ r.zero → ⊥) where
  same_bit : (a b : ℕ) → a < 2 → b < 2 → of_nat r a ≡ of_nat r b → a ≡ b
  unfolding of_nat
  same_bit zero zero la lb e = refl
  same_bit zero (suc zero) la lb e = absurd (differ (sym (L.add_zero r.one) ∙ sym e))
  same_bit (suc zero) zero la lb e = absurd (differ (sym (L.add_zero r.one) ∙ e))
  same_bit (suc zero) (suc zero) la lb e = refl
  same_bit zero (suc (suc b)) la lb e = absurd (omega (arith, lb))
  same_bit (suc zero) (suc (suc b)) la lb e = absurd (omega (arith, lb))
  same_bit (suc (suc a)) b la lb e = absurd (omega (arith, la))

  module _ (x y : Input) (wx : AreWords x) (wy : AreWords y) (e : binary_trace_row r x ≡ binary_trace_row r y) where
    same_cell : (k : ℕ) → k < 11536 → of_nat r (get_or (binary_cells x) k 0) ≡ of_nat r (get_or (binary_cells y) k 0)
    same_cell k lt = sym (row_at r L two x wx k lt) ∙ (ap (λ xs. get_or xs k r.zero) e ∙ row_at r L two y wy k lt)

    -- words whose bits stand from one column on
    same_word : (v w c : ℕ) → v < 2 ^ 32 → w < 2 ^ 32 → c + 32 ≤ 11536 → ((j : ℕ) → j < 32 → get_or (binary_cells x) (c + j) 0 ≡ bit_at v j)
        → ((j : ℕ) → j < 32 → get_or (binary_cells y) (c + j) 0 ≡ bit_at w j) → v ≡ w
    same_word v w c lv lw le hx hy =
        same_from_bits_below 32 v w lv lw
        (λ j lj.
        same_bit (bit_at v j) (bit_at w j) (bit_at-lt v j) (bit_at-lt w j)
        (ap (of_nat r) (sym (hx j lj)) ∙ (same_cell (c + j) (omega (arith, le, lj)) ∙ ap (of_nat r) (hy j lj))))

    pub same_words : (i : ℕ) → i < 28 → x i ≡ y i
    same_words i li =
        let X = input_cells x in
        let Y = input_cells y in
        elim (cases_lt i 16) [
          | inl a ↦ same_word (x i) (y i) (256 + 32 * i) (wx i li) (wy i li) (omega (arith, a)) (λ j lj. X.block i j a lj) (λ j lj. Y.block i j a lj)
          | inr a ↦ elim (cases_lt i 24) [
            | inl b ↦
                let k = i - 16 in
                let lk : k < 8 = omega (arith, a, b) in
                let s : 16 + k ≡ i = omega (arith, a) in
                subst (λ n. x n ≡ y n) s (same_word (x (16 + k)) (y (16 + k)) (32 * k) (wx (16 + k) (omega (arith, lk))) (wy (16 + k) (omega (arith, lk))) (omega (arith, lk)) (λ j lj. X.chain k j lk lj) (λ j lj. Y.chain k j lk lj))
            | inr b ↦
                let k = i - 24 in
                let lk : k < 4 = omega (arith, b, li) in
                let s : 24 + k ≡ i = omega (arith, b) in
                subst (λ n. x n ≡ y n) s (same_word (x (24 + k)) (y (24 + k)) (768 + 32 * k) (wx (24 + k) (omega (arith, lk))) (wy (24 + k) (omega (arith, lk))) (omega (arith, lk)) (λ j lj. X.rest k j lk lj) (λ j lj. Y.rest k j lk lj))
          ]
        ]

pub words_determined : {A : Type 0} (r : Ring A) (L : RingLaws r) → r.add r.one r.one ≡ r.zero → (r.one ≡ r.zero → ⊥) → BinaryWordsAreDetermined r
words_determined r L two differ x y wx wy e = same_words r L two differ x y wx wy e
