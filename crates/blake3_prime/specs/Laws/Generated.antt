-- Row i of the generated trace is the trace row of compression i, and its 28 words are words.
use Rattle.std.proofs.Common.{◌≡◌, ℕ, ◌+◌, ◌*◌, ◌<◌, List, length, get_or, map, sym, ◌∙◌, ap, arith}
use Rattle.std.proofs.lemmas.List.{get_or-map, same_lists, length-map}
use Rattle.p3_field.specs.Ring.{Ring, of_nat}
use Rattle.p3_matrix.specs.Matrix.{Rows, height, row_at, FillsRows}
use Rattle.p3_matrix.specs.Laws.Transposed.{get_or-row_at, length-row_at}
use Rattle.blake3_compress.specs.TraceRow.{row_cells, trace_row}
use Rattle.blake3_compress.specs.Generated.{input_of}
use Rattle.blake3_prime.specs.Rows.{rows_cells, compression_input}
use Rattle.blake3_compress.specs.Laws.Cells.{where_cells, length-joined, in_joined, trace_cell, length-trace_row}

pub length-rows_cells : (inputs : List (List ℕ)) → length (rows_cells inputs) ≡ 9168 * length inputs
unfolding rows_cells
length-rows_cells inputs =
    length-joined (length inputs) 9168 (λ i. row_cells (input_of (compression_input inputs i))) (λ i. (where_cells (input_of (compression_input inputs i))).long)

pub rows_cell : (inputs : List (List ℕ)) (i k : ℕ) → i < length inputs → k < 9168
    → get_or (rows_cells inputs) (9168 * i + k) 0 ≡ get_or (row_cells (input_of (compression_input inputs i))) k 0
unfolding rows_cells
rows_cell inputs i k li lk =
    let t : ℕ → List ℕ = λ i. row_cells (input_of (compression_input inputs i)) in
    let long : (i : ℕ) → length (t i) ≡ 9168 = λ i. (where_cells (input_of (compression_input inputs i))).long in
    in_joined (length inputs) 9168 t long i li k (omega (arith, long i, lk))

pub generated_row : {F : Type 0} (r : Ring F) (inputs : List (List ℕ)) (i : ℕ) → i < length inputs
    → row_at (record { values = map (of_nat r) (rows_cells inputs); width = 9168 }) i ≡ trace_row r (input_of (compression_input inputs i))
generated_row {F = F} r inputs i li =
    let m : Rows F = record { values = map (of_nat r) (rows_cells inputs); width = 9168 } in
    let x = input_of (compression_input inputs i) in
    let all : length m.values ≡ 9168 * length inputs = length-map (rows_cells inputs) (of_nat r) ∙ length-rows_cells inputs in
    let high : i < height m = omega (arith, all, li) in
    let fills : FillsRows m.values 9168 = omega (arith, all) in
    let long : length (row_at m i) ≡ 9168 = length-row_at m fills i high in
    same_lists (row_at m i) (trace_row r x) (long ∙ sym (length-trace_row r x))
    (λ k d lt.
    let lk : k < 9168 = omega (arith, long, lt) in
    let at : i * 9168 + k ≡ 9168 * i + k = omega arith in
    let inside : 9168 * i + k < length (rows_cells inputs) = omega (arith, length-rows_cells inputs, li, lk) in
    get_or-row_at m i k d lk
    ∙ (ap (λ j. get_or m.values j d) at
    ∙ (get_or-map (of_nat r) (rows_cells inputs) (9168 * i + k) 0 d inside
    ∙ (ap (of_nat r) (rows_cell inputs i k li lk) ∙ sym (trace_cell r x k d lk)))))
