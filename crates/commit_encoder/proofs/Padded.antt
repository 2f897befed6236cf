-- A matrix with rows of zeros below: its height, and its columns' polynomials, which are the same.
use Rattle.std.proofs.Common.{◌≡◌, ℕ, zero, suc, ◌+◌, ◌-◌, ◌*◌, ◌/◌, ◌%◌, ◌^◌, ◌<◌, ◌≤◌, inl, inr, ◌++◌, length, get_or, sym, ◌∙◌, ap, arith, mul_assoc, mul_comm}
use Rattle.std.specs.Prelude.{Result, Ok, Err, IsErrOf, IsErrAnd}
use Rattle.std.specs.Int.{IsPowerOfTwo}
use Rattle.std.proofs.Math.Nat.{mul-div_cancel}
use Rattle.std.proofs.Math.Seq.{get_or-append_right}
use Rattle.std.proofs.lemmas.Bool.{cases_lt}
use Rattle.std.proofs.lemmas.List.{length-append, get_or_append_left, get_or_past}
use Rattle.std.proofs.lemmas.Nat.{pow-add}
use Rattle.p3_field.specs.Ring.{Ring, RingLaws}
use Rattle.p3_field.specs.Poly.{eval_poly, coeff, SamePoly, tabulate}
use Rattle.p3_field.specs.Domain.{coset_point}
use Rattle.p3_field.specs.Laws.Values.{eval_same}
use Rattle.p3_field.specs.Laws.Tabulate.{length-tabulate, get_or-tabulate, tabulate_same}
use Rattle.p3_matrix.specs.Matrix.{Rows, FillsRows, height, cell_at, column}
use Rattle.p3_matrix.specs.Laws.Cells.{length-column, get_or-column, width_positive}
use Rattle.p3_matrix.specs.Laws.Grids.{in_matrix}
use Rattle.p3_matrix.specs.Laws.Powers.{one_shifted_left}
use Rattle.p3_dft.specs.Transform.{values_at, IsTransformOf}
use Rattle.commit_encoder.specs.Encoder.{IsCodeOf}
use Rattle.commit_encoder.specs.declared.encoder.EncodeError.{EncodeError}
use Rattle.commit_encoder.specs.declared.encoder.EncodeError.TheVariants.{NoSubgroup, OutOfMemory}

-- the code's values in rows
pub code_count : {F : Type 0} (m : Rows F) (n count : ℕ) → FillsRows m.values m.width → count ≡ length m.values * n → count ≡ height m * n * m.width
code_count m n count fills e =
    e ∙ (ap (λ k. k * n) (sym fills) ∙ exchanged (height m) m.width n)
  where
    exchanged : (h w n : ℕ) → h * w * n ≡ h * n * w
    exchanged h w n = mul_assoc h w n ∙ (ap (λ k. h * k) (mul_comm w n) ∙ sym (mul_assoc h n w))

pub code_height : {F : Type 0} (m : Rows F) (n count : ℕ) → 0 < m.width → FillsRows m.values m.width → count ≡ length m.values * n → count / m.width ≡ height m * n
code_height m n count pos fills e = ap (λ k. k / m.width) (code_count m n count fills e) ∙ mul-div_cancel (height m * n) pos

-- a power of two times another
pub power_times : (h rate : ℕ) → IsPowerOfTwo h → IsPowerOfTwo (h * 2 ^ rate)
power_times h rate p = (p.0 + rate, ap (λ k. k * 2 ^ rate) p.1 ∙ sym (pow-add 2 p.0 rate))

pub times_more : (a n : ℕ) → 0 < n → a ≤ a * n
times_more a zero pos = absurd (omega arith)
times_more a (suc n) pos = omega arith

-- the code's rows, and the size of the largest subgroup as the code computes them
pub code_rows : {F : Type 0} (m : Rows F) (rate count w : ℕ) → IsPowerOfTwo (height m) → FillsRows m.values m.width → count ≡ length m.values * 2 ^ rate → w ≡ m.width → count / w ≡ height m * 2 ^ rate
code_rows m rate count w p fills e width = ap (λ k. count / k) width ∙ code_height m (2 ^ rate) count (width_positive m p) fills e

pub subgroup_size : (t top : ℕ) → t ≡ top → top < 64 → 1 * 2 ^ t % 18446744073709551616 ≡ 2 ^ top
subgroup_size t top e h = ap (λ k. 1 * 2 ^ k % 18446744073709551616) e ∙ one_shifted_left top h

-- running out of memory is no other refusal
pub other_error : {T : Type 0} (x : Result T EncodeError) → IsErrAnd x (λ e. e ≡ OutOfMemory) → IsErrOf x NoSubgroup → ⊥
other_error (Ok y) p q = absurd p
other_error (Err e) p q = cc

module _ {A : Type 0} (r : Ring A) (L : RingLaws r) (m p : Rows A) (n count : ℕ) (pos : 0 < m.width) (some : 0 < n) (fills : FillsRows m.values m.width)
    (total : count ≡ length m.values * n) (more : length m.values ≤ count) (width : p.width ≡ m.width) (values : p.values ≡ m.values ++ tabulate (count - length m.values) (λ _. r.zero)) where
  padded_count : length p.values ≡ count
  padded_count =
      let zeros = tabulate (count - length m.values) (λ _. r.zero) in
      omega (arith, ap length values, length-append m.values zeros, length-tabulate (count - length m.values) (λ _. r.zero))

  pub padded_height : height p ≡ height m * n
  padded_height = ap (λ w. length p.values / w) width ∙ (ap (λ k. k / m.width) padded_count ∙ code_height m n count pos fills total)

  -- the cells below are zeros
  zero_item : (k i : ℕ) → get_or (tabulate k (λ _. r.zero)) i r.zero ≡ r.zero
  zero_item k i = elim (cases_lt i k) [
    | inl a ↦ get_or-tabulate k (λ _. r.zero) i r.zero a
    | inr a ↦ get_or_past (tabulate k (λ _. r.zero)) i r.zero (omega (arith, length-tabulate k (λ _. r.zero)))
  ]

  cell_above : (i j : ℕ) → i < height m → j < m.width → cell_at r.zero p i j ≡ cell_at r.zero m i j
  cell_above i j a b =
      let zeros = tabulate (count - length m.values) (λ _. r.zero) in
      ap (λ w. get_or p.values (i * w + j) r.zero) width
      ∙ (ap (λ l. get_or l (i * m.width + j) r.zero) values
      ∙ get_or_append_left m.values zeros r.zero (i * m.width + j) (in_matrix m i j fills a b))

  cell_below : (i j : ℕ) → height m ≤ i → cell_at r.zero p i j ≡ r.zero
  cell_below i j a =
      let zeros = tabulate (count - length m.values) (λ _. r.zero) in
      let past : length m.values ≤ i * m.width + j = past_rows (height m) i m.width j (length m.values) fills a in
      ap (λ w. get_or p.values (i * w + j) r.zero) width
      ∙ (ap (λ l. get_or l (i * m.width + j) r.zero) values
      ∙ (get_or-append_right m.values zeros (i * m.width + j) r.zero past ∙ zero_item (count - length m.values) (i * m.width + j - length m.values)))
    where
      past_rows : (h i w j n : ℕ) → h * w ≡ n → h ≤ i → n ≤ i * w + j
      past_rows h i w j n e b = grind arith

  same_column : (j : ℕ) → j < m.width → SamePoly r (column r.zero p j) (column r.zero m j)
  same_column j b i = elim (cases_lt i (height m)) [
    | inl a ↦
        let below : i < height p = below_more i (height m) n (height p) a some padded_height in
        get_or-column r.zero p j i below ∙ (cell_above i j a b ∙ sym (get_or-column r.zero m j i a))
    | inr a ↦ padding i a ∙ sym (get_or_past (column r.zero m j) i r.zero (omega (arith, length-column r.zero m j)))
  ]
    where
      padding : (i : ℕ) → height m ≤ i → coeff r (column r.zero p j) i ≡ r.zero
      padding i a = elim (cases_lt i (height p)) [
        | inl c ↦ get_or-column r.zero p j i c ∙ cell_below i j a
        | inr c ↦ get_or_past (column r.zero p j) i r.zero (omega (arith, length-column r.zero p j))
      ]

      below_more : (i h n k : ℕ) → i < h → 0 < n → k ≡ h * n → i < k
      below_more i h zero k a pos e = absurd (omega arith)
      below_more i h (suc n) k a pos e = omega arith

  pub padded_code : (root : ℕ → A) (rate : ℕ) (v : Rows A) → n ≡ 2 ^ rate → IsTransformOf r root p v → IsCodeOf r root m rate v
  unfolding values_at
  padded_code root rate v e V = record {
    width_is = V.width_is ∙ width;
    column_is = λ j k b h.
        let q = coset_point r r.one (root k) in
        let inside : j < p.width = omega (arith, width) in
        let high : height p ≡ 2 ^ k = padded_height ∙ (ap (λ t. height m * t) e ∙ h) in
        V.column_is j k inside high
        ∙ tabulate_same (2 ^ k) (λ i. eval_poly r (column r.zero p j) (q i)) (λ i. eval_poly r (column r.zero m j) (q i))
        (λ i c. eval_same r L (column r.zero p j) (column r.zero m j) (q i) (same_column j b));
  }
