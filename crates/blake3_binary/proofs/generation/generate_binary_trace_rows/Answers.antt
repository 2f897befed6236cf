use Rattle.std.proofs.Common.{◌≡◌, ℕ, ◌*◌, ◌<◌, List, map, length, arith, ap, ◌∙◌}
use Rattle.std.proofs.lemmas.List.{length-map}
use Rattle.p3_field.specs.Ring.{Ring, of_nat}
use Rattle.p3_matrix.specs.Matrix.{Rows, FillsRows, height, row_at}
use Rattle.blake3_binary.specs.declared.input.Blake3CompressionInput.{Blake3CompressionInput}
use Rattle.blake3_binary.specs.Row.{binary_trace_row}
use Rattle.blake3_binary.specs.Rows.{compression, binary_rows}
use Rattle.blake3_binary.specs.Laws.Generated.{length-binary_rows, generated_row}
use Rattle.blake3_binary.proofs.generation.generate_binary_trace_rows.Goals as goal

fills : {F : Type 0} (r : Ring F) (values : List F) (inputs : List Blake3CompressionInput) → values ≡ map (of_nat r) (binary_rows inputs) → FillsRows values 11536
fills r values inputs e =
    let long : length values ≡ 11536 * length inputs = ap length e ∙ (length-map (binary_rows inputs) (of_nat r) ∙ length-binary_rows inputs) in
    omega (arith, long)

pub new-requires : goal.new-requires
new-requires g c = fills g.F.RingCore.ring _ c.args.inputs.now c.in_ok-values.ensures

row_of : {F : Type 0} (r : Ring F) (values : List F) (inputs : List Blake3CompressionInput) (m : Rows F) → values ≡ map (of_nat r) (binary_rows inputs) → m ≡ record { values = values; width = 11536 }
    → (i : ℕ) → i < length inputs → row_at m i ≡ binary_trace_row r (compression inputs i)
row_of {F = F} r values inputs m e f i lt =
    (λ j. row_at (f j) i) ∙ ((λ j. row_at (record { values = e j; width = 11536 }) i) ∙ generated_row r inputs i lt)

pub returns-clause-row : goal.returns-clause-row
returns-clause-row g c = row_of g.F.RingCore.ring _ c.args.inputs.now _ c.in_ok-values.ensures c.new.ensures

height_of : {F : Type 0} (r : Ring F) (values : List F) (inputs : List Blake3CompressionInput) (m : Rows F) → values ≡ map (of_nat r) (binary_rows inputs) → m ≡ record { values = values; width = 11536 } → height m ≡ length inputs
height_of {F = F} r values inputs m e f =
    let long : length values ≡ 11536 * length inputs = ap length e ∙ (length-map (binary_rows inputs) (of_nat r) ∙ length-binary_rows inputs) in
    let whole : Rows F = record { values = values; width = 11536 } in
    let same : height whole ≡ length inputs = omega (arith, long) in
    (λ j. height (f j)) ∙ same

pub returns-clause-height : goal.returns-clause-height
returns-clause-height g c = height_of g.F.RingCore.ring _ c.args.inputs.now _ c.in_ok-values.ensures c.new.ensures
