-- Blocks of 64 compressions one after another, and the rows that they hold.
use Rattle.std.proofs.Common.{◌≡◌, ℕ, ◌+◌, ◌-◌, ◌*◌, ◌<◌, ◌≤◌, List, ◌++◌, get_or, min, length, map, inl, inr, refl, sym, ◌∙◌, ap, subst, arith, length-append}
use Rattle.std.specs.Int.{bit_at}
use Rattle.std.proofs.lemmas.Bool.{cases_lt}
use Rattle.std.proofs.lemmas.List.{get_or_append_left, get_or-append_right, get_or-append-add, get_or_past, get_or-map}
use Rattle.p3_field.specs.Ring.{Ring, of_nat}
use Rattle.p3_matrix.specs.Matrix.{Rows, FillsRows}
use Rattle.blake3_binary.specs.declared.input.Blake3CompressionInput.{Blake3CompressionInput}
use Rattle.blake3_binary.specs.Row.{binary_cells}
use Rattle.blake3_binary.specs.Rows.{nothing, compression, compression_words, binary_rows}
use Rattle.blake3_compress.specs.Generated.{input_of}
use Rattle.blake3_binary.specs.Laws.Bits.{long_row}
use Rattle.blake3_binary.specs.Laws.Cells.{at_joined}
use Rattle.blake3_binary.specs.Laws.Generated.{length-binary_rows}
use Rattle.blake3_packed.specs.Lanes.{PushedLanes}
use Rattle.blake3_packed.specs.States.{presence, lane_cells}
use Rattle.blake3_packed.specs.Blocks.{AreBlocks}
use Rattle.blake3_packed.specs.PackedRows.{packed_height, ArePackedRows, HasDenseCells}
use Rattle.blake3_packed.specs.Laws.Inputs.{past_end}
use Rattle.blake3_packed.specs.Laws.Present.{present, absent}
use Rattle.blake3_packed.specs.Laws.States.{present_cells, absent_cells}

-- the compressions of the block that comes after these inputs, and which of its lanes have one
module _ (inputs done block rest : List Blake3CompressionInput) (n : ℕ) (parts : inputs ≡ done ++ (block ++ rest)) (whole : length done ≡ 64 * n) (long : length block ≡ min 64 (length (block ++ rest))) where
  as_long : length inputs ≡ 64 * n + (length block + length rest)
  as_long = ap length parts ∙ (length-append done (block ++ rest) ∙ (λ i. whole i + length-append block rest i))

  pub same_compression : (j : ℕ) → j < 64 → compression block j ≡ compression inputs (64 * n + j)
  same_compression j lj =
      ap (λ i. input_of (compression_words i)) (elim (cases_lt j (length block)) [
        | inl lt ↦
            sym (ap (λ xs. get_or xs (64 * n + j) nothing) parts
            ∙ (ap (λ m. get_or (done ++ (block ++ rest)) (m + j) nothing) (sym whole)
            ∙ (get_or-append-add done (block ++ rest) j nothing ∙ get_or_append_left block rest nothing j lt)))
        | inr ge ↦
            get_or_past block j nothing ge ∙ sym (get_or_past inputs (64 * n + j) nothing (omega (arith, as_long, long, length-append block rest, ge, lj)))
      ])

  pub same_presence : (j : ℕ) → j < 64 → presence (length block) j ≡ presence (length inputs) (64 * n + j)
  same_presence j lj =
      elim (cases_lt j (length block)) [
        | inl lt ↦ present (length block) j lt ∙ sym (present (length inputs) (64 * n + j) (omega (arith, as_long, lt)))
        | inr ge ↦ absent (length block) j ge ∙ sym (absent (length inputs) (64 * n + j) (omega (arith, as_long, long, length-append block rest, ge, lj)))
      ]

pub no_block : (inputs : List Blake3CompressionInput) (values : List ℕ) → length values ≡ 0 → AreBlocks inputs 0 values
no_block inputs values e = record { long = omega (arith, e); bits = λ w j column lw lj lc. absurd (omega (arith, lw)) }

pub block_more : (inputs block : List Blake3CompressionInput) (n : ℕ) (old new : List ℕ) → AreBlocks inputs n old → PushedLanes old new 11536 (λ j. lane_cells (compression block j) (presence (length block) j))
    → ((j : ℕ) → j < 64 → compression block j ≡ compression inputs (64 * n + j)) → ((j : ℕ) → j < 64 → presence (length block) j ≡ presence (length inputs) (64 * n + j)) → AreBlocks inputs (n + 1) new
block_more inputs block n old new A p words here =
    let both : length new ≡ length old + 11536 = ap length p.pushed ∙ (length-append old p.words ∙ ap (λ k. length old + k) p.are_lanes.long) in
    record {
      long = omega (arith, both, A.long);
      bits = λ w j column lw lj lc. elim (cases_lt w n) [
        | inl lt ↦
            ap (λ xs. bit_at (get_or xs (11536 * w + column) 0) j) p.pushed
            ∙ (ap (λ m. bit_at m j) (get_or_append_left old p.words 0 (11536 * w + column) (omega (arith, A.long, lt, lc))) ∙ A.bits w j column lt lj lc)
        | inr ge ↦
            let e : w ≡ n = omega (arith, lw, ge) in
            let at : 11536 * w + column - length old ≡ column = omega (arith, e, A.long) in
            let far : length old ≤ 11536 * w + column = omega (arith, e, A.long) in
            ap (λ xs. bit_at (get_or xs (11536 * w + column) 0) j) p.pushed
            ∙ (ap (λ m. bit_at m j) (get_or-append_right old p.words (length old) (11536 * w + column) 0 refl far ∙ ap (λ k. get_or p.words k 0) at)
            ∙ (p.are_lanes.bits j column lj lc
            ∙ ((λ i. get_or (lane_cells (words j lj i) (here j lj i)) column 0) ∙ ap (λ u. get_or (lane_cells (compression inputs (64 * u + j)) (presence (length inputs) (64 * u + j))) column 0) (sym e))))
      ];
    }

pub blocks_at : (inputs : List Blake3CompressionInput) (n m : ℕ) (values : List ℕ) → n ≡ m → AreBlocks inputs n values → AreBlocks inputs m values
blocks_at inputs n m values e A = subst (λ k. AreBlocks inputs k values) e A

pub fills : (inputs : List Blake3CompressionInput) (n : ℕ) (values : List ℕ) → AreBlocks inputs n values → FillsRows values 11536
fills inputs n values A = omega (arith, A.long)

pub packed_rows : (inputs : List Blake3CompressionInput) (values : List ℕ) (m : Rows ℕ) → AreBlocks inputs (packed_height (length inputs)) values → m ≡ record { values = values; width = 11536 } → ArePackedRows inputs (length inputs) m
packed_rows inputs values m A e = subst (ArePackedRows inputs (length inputs)) (sym e) (record {
  width = refl;
  height = omega (arith, A.long);
  bits = λ w j column lw lj lc below.
      let i = 64 * w + j in
      let at : w * 11536 + column ≡ 11536 * w + column = omega arith in
      ap (λ k. bit_at (get_or values k 0) j) at
      ∙ (A.bits w j column lw lj lc
      ∙ (ap (λ p. get_or (lane_cells (compression inputs i) p) column 0) (present (length inputs) i below) ∙ ap (λ cells. get_or cells column 0) (present_cells (compression inputs i))));
  past = λ w j column lw lj lc past.
      let i = 64 * w + j in
      let at : w * 11536 + column ≡ 11536 * w + column = omega arith in
      ap (λ k. bit_at (get_or values k 0) j) at
      ∙ (A.bits w j column lw lj lc
      ∙ (ap (λ p. get_or (lane_cells (compression inputs i) p) column 0) (absent (length inputs) i past) ∙ absent_cells (compression inputs i) (λ k. past_end inputs i k past) column));
})

rows_cell : (inputs : List Blake3CompressionInput) (i k : ℕ) → i < length inputs → k < 11536 → get_or (binary_rows inputs) (11536 * i + k) 0 ≡ get_or (binary_cells (compression inputs i)) k 0
unfolding binary_rows
rows_cell inputs i k li lk = at_joined 0 (length inputs) 11536 (λ i. binary_cells (compression inputs i)) (λ i. long_row (compression inputs i)) i k li lk

pub dense_cells : {F : Type 0} (r : Ring F) (inputs : List Blake3CompressionInput) (m : Rows ℕ) → ArePackedRows inputs (length inputs) m → HasDenseCells r inputs (length inputs) m
dense_cells r inputs m P w j column lw lj lc below =
    let i = 64 * w + j in
    let at : 11536 * i + column ≡ i * 11536 + column = omega arith in
    let inside : 11536 * i + column < length (binary_rows inputs) = omega (arith, length-binary_rows inputs, below, lc) in
    ap (of_nat r) (P.bits w j column lw lj lc below ∙ sym (rows_cell inputs i column below lc))
    ∙ (sym (get_or-map (of_nat r) (binary_rows inputs) (11536 * i + column) 0 r.zero inside) ∙ ap (λ k. get_or (map (of_nat r) (binary_rows inputs)) k r.zero) at)
