use Rattle.std.proofs.Common.{◌≡◌, ℕ, ◌*◌, ◌<◌, List, map, length, arith, ap, ◌∙◌}
use Rattle.std.proofs.lemmas.List.{length-map}
use Rattle.p3_field.specs.Ring.{Ring, of_nat}
use Rattle.p3_matrix.specs.Matrix.{Rows, FillsRows, height, row_at}
use Rattle.blake3_compress.specs.TraceRow.{trace_row}
use Rattle.blake3_compress.specs.Generated.{input_of}
use Rattle.blake3_prime.specs.Rows.{rows_cells, compression_input}
use Rattle.blake3_prime.specs.Laws.Generated.{length-rows_cells, generated_row}
use Rattle.blake3_prime.proofs.generation.generate_trace_rows.Goals as goal

fills : {F : Type 0} (r : Ring F) (values : List F) (inputs : List (List ℕ)) → values ≡ map (of_nat r) (rows_cells inputs) → FillsRows values 9168
fills r values inputs e =
    let long : length values ≡ 9168 * length inputs = ap length e ∙ (length-map (rows_cells inputs) (of_nat r) ∙ length-rows_cells inputs) in
    omega (arith, long)

pub new-requires : goal.new-requires
new-requires g c = fills g.F.RingCore.ring _ c.args.inputs.now c.in_ok-values.ensures

row_of : {F : Type 0} (r : Ring F) (values : List F) (inputs : List (List ℕ)) (m : Rows F) → values ≡ map (of_nat r) (rows_cells inputs) → m ≡ record { values = values; width = 9168 }
    → (i : ℕ) → i < length inputs → row_at m i ≡ trace_row r (input_of (compression_input inputs i))
row_of {F = F} r values inputs m e f i lt =
    (λ j. row_at (f j) i) ∙ ((λ j. row_at (record { values = e j; width = 9168 }) i) ∙ generated_row r inputs i lt)

pub returns-clause-row : goal.returns-clause-row
returns-clause-row g c = row_of g.F.RingCore.ring _ c.args.inputs.now _ c.in_ok-values.ensures c.new.ensures

height_of : {F : Type 0} (r : Ring F) (values : List F) (inputs : List (List ℕ)) (m : Rows F) → values ≡ map (of_nat r) (rows_cells inputs) → m ≡ record { values = values; width = 9168 } → height m ≡ length inputs
height_of {F = F} r values inputs m e f =
    let long : length values ≡ 9168 * length inputs = ap length e ∙ (length-map (rows_cells inputs) (of_nat r) ∙ length-rows_cells inputs) in
    let whole : Rows F = record { values = values; width = 9168 } in
    let same : height whole ≡ length inputs = omega (arith, long) in
    (λ j. height (f j)) ∙ same

pub returns-clause-height : goal.returns-clause-height
returns-clause-height g c = height_of g.F.RingCore.ring _ c.args.inputs.now _ c.in_ok-values.ensures c.new.ensures
