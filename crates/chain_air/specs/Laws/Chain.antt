-- Rows of compressions are linked exactly where they are those of a chain.
use Rattle.std.proofs.Common.{◌≡◌, ℕ, suc, ◌+◌, ◌*◌, ◌/◌, ◌%◌, ◌^◌, ◌<◌, ◌≤◌, ◌⊎◌, inl, inr, List, length, get_or, sym, ◌∙◌, ap, subst, arith}
use Rattle.std.specs.Prelude.{◌↔◌}
use Rattle.std.specs.Int.{bit_at}
use Rattle.std.proofs.lemmas.Bool.{cases_lt}
use Rattle.std.proofs.lemmas.Nat.Bits.{bit_at-lt, same_from_bits_below}
use Rattle.p3_field.specs.Ring.{Ring, of_nat}
use Rattle.air_core.specs.RowCheck.{cell_value, ext_cell_value}
use Rattle.air_core.specs.Tree.{Reading}
use Rattle.air_gadgets.specs.Words.{PrimeFieldLaws, cells_reading, limb}
use Rattle.air_gadgets.specs.Laws.Gadgets.{same_number}
use Rattle.blake3_compress.specs.Compress.{Input, chaining}
use Rattle.blake3_compress.specs.TraceRow.{AreWords, trace_row, row_cells}
use Rattle.blake3_compress.specs.Laws.Cells.{where_cells, bit_cell, trace_cell}
use Rattle.blake3_compress.specs.Laws.Compress.{output_is_compressed}
use Rattle.blake3_prime.specs.Trees.{from_column, packed_limbs}
use Rattle.blake3_prime.specs.Meanings.{RowMeans, HasBits, HasLimbs}
use Rattle.blake3_prime.specs.Laws.Bits.{same_word}
use Rattle.blake3_prime.specs.Laws.Output.{output_below, output_cell}
use Rattle.blake3_prime.specs.Laws.Step.{packed_word}
use Rattle.chain_air.specs.Chain.{output_word, AreChainRows, AreEight}
use Rattle.chain_air.specs.Meanings.{lone_row, IsCompressionRow, AreLinked, ArePublics}

-- what there is for each number below n, as a function
choose : {A : Type 0} (P : ℕ → A → Type 0) (d : A) (n : ℕ) → ((j : ℕ) → j < n → (x : A) × P j x) → (f : ℕ → A) × ((j : ℕ) → j < n → P j (f j))
choose {A = A} P d n h = (λ j. pick j (cases_lt j n), λ j lt. picked j (cases_lt j n) lt)
  where
    pick : (j : ℕ) → (j < n) ⊎ (n ≤ j) → A
    pick j (inl lt) = (h j lt).0
    pick j (inr le) = d

    picked : (j : ℕ) (c : (j < n) ⊎ (n ≤ j)) → j < n → P j (pick j c)
    picked j (inl l) lt = (h j l).1
    picked j (inr le) lt = absurd (omega (arith, le, lt))

-- the output's words are words, and are those of the compression
pub output_is_word : (x : Input) → AreWords x → (w : ℕ) → w < 16 → output_word x w < 2 ^ 32
output_is_word x wx w lt = subst (λ m. m < 2 ^ 32) (output_is_compressed x (w / 4) (w % 4) (omega (arith, lt)) (omega arith)) (output_below x wx (w / 4) (w % 4) (omega arith))

module _ {F : Type 0} (r : Ring F) (x : Input) (cells : List F) (are : cells ≡ trace_row r x) where
  -- the bits of the chaining value and of the output
  chaining_bit : (w k : ℕ) → w < 8 → k < 32 → get_or cells (512 + 32 * w + k) r.zero ≡ of_nat r (bit_at (chaining x w) k)
  chaining_bit w k lw lk =
      let e : 512 + 32 * w + k ≡ 0 + 32 * (16 + w) + k = omega arith in
      ap (λ ys. get_or ys (512 + 32 * w + k) r.zero) are
      ∙ (trace_cell r x (512 + 32 * w + k) r.zero (omega (arith, lw, lk))
      ∙ ap (of_nat r) (ap (λ n. get_or (row_cells x) n 0) e ∙ bit_cell (row_cells x) 0 28 x (where_cells x).input (16 + w) k (omega (arith, lw)) lk))

  output_bit : (w k : ℕ) → w < 16 → k < 32 → get_or cells (8656 + 32 * w + k) r.zero ≡ of_nat r (bit_at (output_word x w) k)
  output_bit w k lw lk =
      output_cell r x cells are w k r.zero lw lk ∙ ap (λ m. of_nat r (bit_at m k)) (output_is_compressed x (w / 4) (w % 4) (omega (arith, lw)) (omega arith))

module _ {F : Type 0} (r : Ring F) (inv : F → F) (order : ℕ) (canonical : F → ℕ) (P : PrimeFieldLaws r inv order canonical) (o : 2 ^ 20 < order) (means : RowMeans r) where
  abbrev rd : List F → Reading F F
  rd cells = cells_reading r (cell_value r (lone_row cells)) (ext_cell_value r.zero (lone_row cells))

  same_limbs : (cells : List F) (column : ℕ) (w u : ℕ) → w < 2 ^ 32 → u < 2 ^ 32 → HasLimbs r (rd cells) (packed_limbs r (from_column column)) w
      → HasLimbs r (rd cells) (packed_limbs r (from_column column)) u → w ≡ u
  same_limbs cells column w u lw lu hw hu =
      same_word r inv order canonical P o (cell_value r (lone_row cells)) (ext_cell_value r.zero (lone_row cells)) (packed_limbs r (from_column column)) w u lw lu hw hu

  limbs_of : (cells : List F) (column : ℕ) (w : ℕ) → w < 2 ^ 32 → HasBits r (rd cells) (from_column column) w → HasLimbs r (rd cells) (packed_limbs r (from_column column)) w
  limbs_of cells column w lw h = packed_word r inv order canonical P o (cell_value r (lone_row cells)) (ext_cell_value r.zero (lone_row cells)) (from_column column) w lw h

  chaining_limbs : (x : Input) (cells : List F) → AreWords x → cells ≡ trace_row r x → (w : ℕ) → w < 8 → HasLimbs r (rd cells) (packed_limbs r (from_column (512 + 32 * w))) (chaining x w)
  chaining_limbs x cells wx are w lw = limbs_of cells (512 + 32 * w) (chaining x w) (wx (16 + w) (omega (arith, lw))) (λ k lk. chaining_bit r x cells are w k lw lk)

  output_limbs : (x : Input) (cells : List F) → AreWords x → cells ≡ trace_row r x → (w : ℕ) → w < 8 → HasLimbs r (rd cells) (packed_limbs r (from_column (8656 + 32 * w))) (output_word x w)
  output_limbs x cells wx are w lw =
      limbs_of cells (8656 + 32 * w) (output_word x w) (output_is_word x wx w (omega (arith, lw))) (λ k lk. output_bit r x cells are w k (omega (arith, lw)) lk)

  -- words with the same bits, as elements
  same_bits : (a b : ℕ) → a < 2 ^ 32 → b < 2 ^ 32 → ((k : ℕ) → k < 32 → of_nat r (bit_at a k) ≡ of_nat r (bit_at b k)) → a ≡ b
  same_bits a b la lb h =
      same_from_bits_below 32 a b la lb (λ k lk.
      same_number r inv order canonical P (bit_at a k) (bit_at b k) (omega (arith, o, bit_at-lt a k)) (omega (arith, o, bit_at-lt b k)) (h k lk))

  module _ (n : ℕ) (some : 0 < n) (rows : ℕ → List F) (long : (j : ℕ) → j < n → length (rows j) ≡ 9168) (publics : List F) (start end : ℕ → ℕ) (ws : AreEight start) (we : AreEight end)
      (A : ArePublics r publics start end) where
    -- a row on which the constraints are zero is that of a compression
    record IsRowOf (j : ℕ) (x : Input) : Type 0 where
      words : AreWords x
      row : rows j ≡ trace_row r x

    row_of : (j : ℕ) → j < n → IsCompressionRow r (rows j) → (x : Input) × IsRowOf j x
    row_of j lt v = let m = (means (lone_row (rows j)) (long j lt)).0 v in (m.0, record { words = m.1; row = m.2 })

    chained : ((j : ℕ) → j < n → IsCompressionRow r (rows j)) → AreLinked r n rows publics → AreChainRows r n rows start end
    chained v L =
        let found = choose IsRowOf (λ i. 0) n (λ j lt. row_of j lt (v j lt)) in
        let x = found.0 in
        let at = found.1 in record {
          inputs = x;
          words = λ j lt. (at j lt).words;
          rows_are = λ j lt. (at j lt).row;
          chain = record {
            first = λ w lw.
                let here = at 0 some in
                same_limbs (rows 0) (512 + 32 * w) (chaining (x 0) w) (start w) (here.words (16 + w) (omega (arith, lw))) (ws w lw) (chaining_limbs (x 0) (rows 0) here.words here.row w lw)
                (λ k lk. L.first w k lw lk ∙ A.first w k lw lk);
            links = λ j w lt lw.
                let before = at j (omega (arith, lt)) in
                let after = at (suc j) lt in
                same_bits (chaining (x (suc j)) w) (output_word (x j) w) (after.words (16 + w) (omega (arith, lw))) (output_is_word (x j) before.words w (omega (arith, lw))) (λ k lk.
                let e : 512 + 32 * w + k ≡ 512 + (32 * w + k) = omega arith in
                let g : 8656 + (32 * w + k) ≡ 8656 + 32 * w + k = omega arith in
                sym (chaining_bit r (x (suc j)) (rows (suc j)) after.row w k lw lk)
                ∙ (ap (λ m. get_or (rows (suc j)) m r.zero) e
                ∙ (L.links j (32 * w + k) lt (omega (arith, lw, lk))
                ∙ (ap (λ m. get_or (rows j) m r.zero) g ∙ output_bit r (x j) (rows j) before.row w k (omega (arith, lw)) lk))));
            last = λ j w e lw.
                let here = at j (omega (arith, e)) in
                same_limbs (rows j) (8656 + 32 * w) (output_word (x j) w) (end w) (output_is_word (x j) here.words w (omega (arith, lw))) (we w lw)
                (output_limbs (x j) (rows j) here.words here.row w lw) (λ k lk. L.last j w k e lw lk ∙ A.last w k lw lk);
          };
        }

    module _ (C : AreChainRows r n rows start end) where
      compressed : (j : ℕ) → j < n → IsCompressionRow r (rows j)
      compressed j lt = (means (lone_row (rows j)) (long j lt)).1 (C.inputs j, C.words j lt, C.rows_are j lt)

      linked : AreLinked r n rows publics
      linked = record {
        links = λ j i lt li.
            let w = i / 32 in
            let k = i % 32 in
            let lw : w < 8 = omega (arith, li) in
            let lk : k < 32 = omega arith in
            let e : 512 + i ≡ 512 + 32 * w + k = omega arith in
            let g : 8656 + 32 * w + k ≡ 8656 + i = omega arith in
            ap (λ m. get_or (rows (suc j)) m r.zero) e
            ∙ (chaining_bit r (C.inputs (suc j)) (rows (suc j)) (C.rows_are (suc j) lt) w k lw lk
            ∙ (ap (λ m. of_nat r (bit_at m k)) (C.chain.links j w lt lw)
            ∙ (sym (output_bit r (C.inputs j) (rows j) (C.rows_are j (omega (arith, lt))) w k (omega (arith, lw)) lk) ∙ ap (λ m. get_or (rows j) m r.zero) g)));
        first = λ w k lw lk.
            chaining_limbs (C.inputs 0) (rows 0) (C.words 0 some) (C.rows_are 0 some) w lw k lk ∙ (ap (λ m. of_nat r (limb m k)) (C.chain.first w lw) ∙ sym (A.first w k lw lk));
        last = λ j w k e lw lk.
            let lt : j < n = omega (arith, e) in
            output_limbs (C.inputs j) (rows j) (C.words j lt) (C.rows_are j lt) w lw k lk ∙ (ap (λ m. of_nat r (limb m k)) (C.chain.last j w e lw) ∙ sym (A.last w k lw lk));
      }

    -- linked rows of compressions are those of a chain
    pub chain_means : (((j : ℕ) → j < n → IsCompressionRow r (rows j)) × AreLinked r n rows publics) ↔ AreChainRows r n rows start end
    chain_means = (λ h. chained h.0 h.1, λ C. (compressed C, linked C))
