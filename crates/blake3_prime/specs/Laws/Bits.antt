-- What the other constraints mean: cells that are bits, equal limbs, and exclusive ors bit by bit.
use Rattle.std.proofs.Common.{◌≡◌, ℕ, ◌+◌, ◌*◌, ◌/◌, ◌%◌, ◌^◌, ◌<◌, sym, ◌∙◌, ap, subst, arith}
use Rattle.std.specs.Prelude.{bit_xor, ◌↔◌, false}
use Rattle.std.specs.Int.{bit_at, rotate_left, w32}
use Rattle.std.proofs.lemmas.Nat.Bits.{bit_at-lt, bit_at_xor, same_from_bits_below}
use Rattle.p3_field.specs.Ring.{Ring, of_nat}
use Rattle.p3_field.specs.Poly.{tabulate}
use Rattle.p3_field.specs.Laws.Roots.{sub_zero, sub_self}
use Rattle.air_core.specs.declared.cells.Cell.{Cell}
use Rattle.air_core.specs.declared.cells.Cell.TheVariants.{Main}
use Rattle.air_core.specs.declared.cells.ExtCell.{ExtCell}
use Rattle.air_core.specs.Tree.{Tree, Reading, eval_tree, cell, difference, bool_tree}
use Rattle.air_gadgets.specs.Gadgets.{xor_tree, number, rotated_place}
use Rattle.air_gadgets.specs.Words.{PrimeFieldLaws, cells_reading, Vanish, AreBits, limb, bits_word}
use Rattle.air_gadgets.specs.Laws.Words.{bit_of_rotated, rotated_below}
use Rattle.air_gadgets.specs.Laws.Bits.{bool_value, xor_value}
use Rattle.air_gadgets.specs.Laws.Gadgets.{same_number, value_bool}
use Rattle.blake3_compress.specs.Compress.{iv}
use Rattle.blake3_prime.specs.Trees.{from_column, packed_limbs, bits_trees, limbs_trees, packed_trees, iv_trees, word_trees, xor_trees}
use Rattle.blake3_prime.specs.Meanings.{HasBits, HasLimbs}
use Rattle.air_core.specs.Laws.Lists.{all_of_joined, all_joined, all_of_tabulate, all_tabulate}
use Rattle.blake3_compress.specs.Laws.Words.{word_of_limbs, limbs_below, bit_of_bits, bits_below}

-- no rotation
pub not_turned : (n : ℕ) → n < 2 ^ 32 → rotate_left w32 n 0 ≡ n
not_turned n b =
    same_from_bits_below 32 (rotate_left w32 n 0) n (rotated_below n 0 b) b
    (λ i lt. let e : rotated_place 0 i ≡ i = omega (arith, lt) in bit_of_rotated n 0 i b lt ∙ ap (bit_at n) e)

module _ {A : Type 0} (r : Ring A) (inv : A → A) (order : ℕ) (canonical : A → ℕ) (P : PrimeFieldLaws r inv order canonical) (o : 2 ^ 20 < order) (at : Cell → A) (at_ext : ExtCell → A) where
  abbrev rd : Reading A A
  rd = cells_reading r at at_ext

  abbrev Zero : Tree A → Type 0
  Zero v = eval_tree rd v ≡ r.zero

  -- x (x - 1)
  zero_of_bit : (t : Tree A) (n : ℕ) → n < 2 → eval_tree rd t ≡ of_nat r n → Zero (bool_tree r.one t)
  zero_of_bit t n a e = bool_value r P.ring_laws (eval_tree rd t) n a e

  bit_of_zero : (t : Tree A) → Zero (bool_tree r.one t) → canonical (eval_tree rd t) < 2
  bit_of_zero t e = value_bool r inv order canonical P o (eval_tree rd t) e

  -- the word whose bits stand from a column on
  abbrev pub word_at : ℕ → ℕ
  word_at column = bits_word (λ k. canonical (eval_tree rd (from_column column k)))

  pub bits_of_zeros : (column n : ℕ) → Vanish r rd (bits_trees r column (32 * n)) → (i : ℕ) → i < n → AreBits (λ k. canonical (eval_tree rd (from_column (column + 32 * i) k)))
  unfolding bits_trees
  bits_of_zeros column n v i lt k lk =
      let e : column + (32 * i + k) ≡ column + 32 * i + k = omega arith in
      let here = all_of_tabulate Zero (32 * n) (λ j. bool_tree r.one (from_column column j)) v (32 * i + k) (omega (arith, lt, lk)) in
      bit_of_zero (from_column (column + 32 * i) k) (subst (λ j. Zero (bool_tree r.one (cell (Main false j)))) e here)

  pub words_of_zeros : (column n : ℕ) → Vanish r rd (bits_trees r column (32 * n)) → (i : ℕ) → i < n
      → (word_at (column + 32 * i) < 2 ^ 32) × HasBits r rd (from_column (column + 32 * i)) (word_at (column + 32 * i))
  words_of_zeros column n v i lt =
      let c : ℕ → ℕ = λ k. canonical (eval_tree rd (from_column (column + 32 * i) k)) in
      let bits : AreBits c = bits_of_zeros column n v i lt in
      (bits_below c bits, λ k lk. sym (P.of_canonical (eval_tree rd (from_column (column + 32 * i) k))) ∙ ap (of_nat r) (sym (bit_of_bits c bits k lk)))

  pub zeros_of_words : (column n : ℕ) (w : ℕ → ℕ) → ((i : ℕ) → i < n → HasBits r rd (from_column (column + 32 * i)) (w i)) → Vanish r rd (bits_trees r column (32 * n))
  unfolding bits_trees
  zeros_of_words column n w h =
      all_tabulate Zero (32 * n) (λ j. bool_tree r.one (from_column column j)) (λ j lt.
      let i = j / 32 in
      let k = j % 32 in
      let e : column + j ≡ column + 32 * i + k = omega arith in
      zero_of_bit (from_column column j) (bit_at (w i) k) (bit_at-lt (w i) k)
      (ap (λ l. at (Main false l)) e ∙ h i (omega (arith, lt)) k (omega arith)))

  -- words with the same limbs, as elements
  pub same_word : (t : ℕ → Tree A) (w u : ℕ) → w < 2 ^ 32 → u < 2 ^ 32 → HasLimbs r rd t w → HasLimbs r rd t u → w ≡ u
  same_word t w u lw lu hw hu =
      let low : limb w 0 ≡ limb u 0 = same_number r inv order canonical P (limb w 0) (limb u 0) (omega (arith, o, limbs_below w 0 (omega arith))) (omega (arith, o, limbs_below u 0 (omega arith))) (sym (hw 0 (omega arith)) ∙ hu 0 (omega arith)) in
      let high : limb w 1 ≡ limb u 1 = same_number r inv order canonical P (limb w 1) (limb u 1) (omega (arith, o, limbs_below w 1 (omega arith))) (omega (arith, o, limbs_below u 1 (omega arith))) (sym (hw 1 (omega arith)) ∙ hu 1 (omega arith)) in
      sym (word_of_limbs w lw) ∙ (cc (low, high) ∙ word_of_limbs u lu)

  -- limbs that equal packed bits
  pub limbs_of_zeros : (column limbs : ℕ) → Vanish r rd (limbs_trees r column limbs) → (i k : ℕ) → i < 4 → k < 2
      → eval_tree rd (packed_limbs r (from_column (column + 32 * i)) k) ≡ eval_tree rd (from_column (limbs + 2 * i) k)
  unfolding limbs_trees packed_trees
  limbs_of_zeros column limbs v i k li lk =
      let t : ℕ → ℕ → Tree A = λ i k. difference (packed_limbs r (from_column (column + 32 * i)) k) (from_column (limbs + 2 * i) k) in
      let here : Zero (t i k) = all_of_tabulate Zero 2 (t i) (all_of_joined Zero 4 (λ j. tabulate 2 (t j)) v i li) k lk in
      sub_zero r P.ring_laws (eval_tree rd (packed_limbs r (from_column (column + 32 * i)) k)) (eval_tree rd (from_column (limbs + 2 * i) k)) here

  pub zeros_of_limbs : (column limbs : ℕ) → ((i k : ℕ) → i < 4 → k < 2
      → eval_tree rd (packed_limbs r (from_column (column + 32 * i)) k) ≡ eval_tree rd (from_column (limbs + 2 * i) k)) → Vanish r rd (limbs_trees r column limbs)
  unfolding limbs_trees packed_trees
  zeros_of_limbs column limbs h =
      let t : ℕ → ℕ → Tree A = λ i k. difference (packed_limbs r (from_column (column + 32 * i)) k) (from_column (limbs + 2 * i) k) in
      all_joined Zero 4 (λ j. tabulate 2 (t j)) (λ i li. all_tabulate Zero 2 (t i) (λ k lk.
      sub_self r P.ring_laws (eval_tree rd (packed_limbs r (from_column (column + 32 * i)) k)) (eval_tree rd (from_column (limbs + 2 * i) k)) (h i k li lk)))

  -- limbs of the initial value
  pub iv_means : (column : ℕ) → Vanish r rd (iv_trees r column) ↔ ((i : ℕ) → i < 4 → HasLimbs r rd (from_column (column + 2 * i)) (iv i))
  unfolding iv_trees word_trees
  iv_means column =
      let t : ℕ → ℕ → Tree A = λ i k. difference (from_column (column + 2 * i) k) (number r (limb (iv i) k)) in (
        λ v i li k lk.
            sub_zero r P.ring_laws (eval_tree rd (from_column (column + 2 * i) k)) (of_nat r (limb (iv i) k))
            (all_of_tabulate Zero 2 (t i) (all_of_joined Zero 4 (λ j. tabulate 2 (t j)) v i li) k lk),
        λ h. all_joined Zero 4 (λ j. tabulate 2 (t j)) (λ i li. all_tabulate Zero 2 (t i) (λ k lk.
            sub_self r P.ring_laws (eval_tree rd (from_column (column + 2 * i) k)) (of_nat r (limb (iv i) k)) (h i li k lk))),
      )

  -- four words that are the exclusive or of others
  pub xor_means : (column left right : ℕ) (u w : ℕ → ℕ)
      → ((i : ℕ) → i < 4 → HasBits r rd (from_column (left + 32 * i)) (u i)) → ((i : ℕ) → i < 4 → HasBits r rd (from_column (right + 32 * i)) (w i))
      → Vanish r rd (xor_trees r column left right) ↔ ((i : ℕ) → i < 4 → HasBits r rd (from_column (column + 32 * i)) (bit_xor (u i) (w i)))
  unfolding xor_trees
  xor_means column left right u w hu hw =
      let t : ℕ → Tree A = λ i. difference (from_column column i) (xor_tree r (from_column left i) (from_column right i)) in
      let value : (i k : ℕ) → i < 4 → k < 32 → eval_tree rd (xor_tree r (from_column left (32 * i + k)) (from_column right (32 * i + k))) ≡ of_nat r (bit_at (bit_xor (u i) (w i)) k) = λ i k li lk.
      let e : left + (32 * i + k) ≡ left + 32 * i + k = omega arith in
      let f : right + (32 * i + k) ≡ right + 32 * i + k = omega arith in
      xor_value r P.ring_laws (eval_tree rd (from_column left (32 * i + k))) (eval_tree rd (from_column right (32 * i + k))) (bit_at (u i) k) (bit_at (w i) k) (bit_at-lt (u i) k) (bit_at-lt (w i) k)
      (ap (λ l. at (Main false l)) e ∙ hu i li k lk) (ap (λ l. at (Main false l)) f ∙ hw i li k lk)
      ∙ ap (of_nat r) (sym (bit_at_xor (u i) (w i) k)) in (
        λ v i li k lk.
            let e : column + (32 * i + k) ≡ column + 32 * i + k = omega arith in
            ap (λ l. at (Main false l)) (sym e)
            ∙ (sub_zero r P.ring_laws (eval_tree rd (from_column column (32 * i + k))) (eval_tree rd (xor_tree r (from_column left (32 * i + k)) (from_column right (32 * i + k))))
            (all_of_tabulate Zero 128 t v (32 * i + k) (omega (arith, li, lk))) ∙ value i k li lk),
        λ h. all_tabulate Zero 128 t (λ j lj.
            let i = j / 32 in
            let k = j % 32 in
            let li : i < 4 = omega (arith, lj) in
            let lk : k < 32 = omega arith in
            let e : column + j ≡ column + 32 * i + k = omega arith in
            let same : 32 * i + k ≡ j = omega arith in
            sub_self r P.ring_laws (eval_tree rd (from_column column j)) (eval_tree rd (xor_tree r (from_column left j) (from_column right j)))
            (ap (λ l. at (Main false l)) e ∙ (h i li k lk ∙ sym (subst (λ l. eval_tree rd (xor_tree r (from_column left l) (from_column right l)) ≡ of_nat r (bit_at (bit_xor (u i) (w i)) k)) same (value i k li lk))))),
      )
