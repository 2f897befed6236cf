-- Row i of the generated trace is the trace row of compression i.
use Rattle.std.proofs.Common.{◌≡◌, ℕ, ◌+◌, ◌*◌, ◌<◌, List, length, get_or, map, sym, ◌∙◌, ap, arith}
use Rattle.std.proofs.lemmas.List.{get_or-map, same_lists, length-map}
use Rattle.p3_field.specs.Ring.{Ring, of_nat}
use Rattle.p3_matrix.specs.Matrix.{Rows, height, row_at, FillsRows}
use Rattle.p3_matrix.specs.Laws.Transposed.{get_or-row_at, length-row_at}
use Rattle.blake3_binary.specs.declared.input.Blake3CompressionInput.{Blake3CompressionInput}
use Rattle.blake3_binary.specs.Row.{binary_cells, binary_trace_row}
use Rattle.blake3_binary.specs.Rows.{compression, binary_rows}
use Rattle.blake3_compress.specs.Laws.Cells.{length-joined}
use Rattle.blake3_binary.specs.Laws.Cells.{at_joined}
use Rattle.blake3_binary.specs.Laws.Bits.{long_row}

pub length-binary_rows : (inputs : List Blake3CompressionInput) → length (binary_rows inputs) ≡ 11536 * length inputs
unfolding binary_rows
length-binary_rows inputs = length-joined (length inputs) 11536 (λ i. binary_cells (compression inputs i)) (λ i. long_row (compression inputs i))

rows_cell : (inputs : List Blake3CompressionInput) (i k : ℕ) → i < length inputs → k < 11536
    → get_or (binary_rows inputs) (11536 * i + k) 0 ≡ get_or (binary_cells (compression inputs i)) k 0
unfolding binary_rows
rows_cell inputs i k li lk = at_joined 0 (length inputs) 11536 (λ i. binary_cells (compression inputs i)) (λ i. long_row (compression inputs i)) i k li lk

pub generated_row : {F : Type 0} (r : Ring F) (inputs : List Blake3CompressionInput) (i : ℕ) → i < length inputs
    → row_at (record { values = map (of_nat r) (binary_rows inputs); width = 11536 }) i ≡ binary_trace_row r (compression inputs i)
generated_row {F = F} r inputs i li =
    let m : Rows F = record { values = map (of_nat r) (binary_rows inputs); width = 11536 } in
    let x = compression inputs i in
    let all : length m.values ≡ 11536 * length inputs = length-map (binary_rows inputs) (of_nat r) ∙ length-binary_rows inputs in
    let high : i < height m = omega (arith, all, li) in
    let fills : FillsRows m.values 11536 = omega (arith, all) in
    let long : length (row_at m i) ≡ 11536 = length-row_at m fills i high in
    let trace : length (binary_trace_row r x) ≡ 11536 = length-map (binary_cells x) (of_nat r) ∙ long_row x in
    same_lists (row_at m i) (binary_trace_row r x) (long ∙ sym trace)
    (λ k d lt.
    let lk : k < 11536 = omega (arith, long, lt) in
    let at : i * 11536 + k ≡ 11536 * i + k = omega arith in
    let inside : 11536 * i + k < length (binary_rows inputs) = omega (arith, length-binary_rows inputs, li, lk) in
    get_or-row_at m i k d lk
    ∙ (ap (λ j. get_or m.values j d) at
    ∙ (get_or-map (of_nat r) (binary_rows inputs) (11536 * i + k) 0 d inside
    ∙ (ap (of_nat r) (rows_cell inputs i k li lk) ∙ sym (get_or-map (of_nat r) (binary_cells x) k 0 d (omega (arith, long_row x, lk)))))))
