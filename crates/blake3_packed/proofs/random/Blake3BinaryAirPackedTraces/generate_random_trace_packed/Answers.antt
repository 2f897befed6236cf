use Rattle.std.proofs.Common.{◌≡◌, ℕ, List, IfOk, Err, ◌↔◌, length, ap, ◌∙◌, subst}
use Rattle.p3_field.specs.Laws.Tabulate.{length-tabulate}
use Rattle.p3_matrix.specs.Matrix.{height}
use Rattle.blake3_compress.specs.declared.error.TraceError.TheVariants.{NotPowerOfTwo}
use Rattle.blake3_binary.specs.declared.input.Blake3CompressionInput.{Blake3CompressionInput}
use Rattle.blake3_binary.specs.Random.{binary_random_input, binary_random_inputs}
use Rattle.blake3_binary.specs.Rows.{HasNoPower}
use Rattle.blake3_packed.specs.PackedRows.{packed_height, HasDenseBits, HasDenseCells, HasZerosPast}
use Rattle.blake3_packed.proofs.random.Blake3BinaryAirPackedTraces.generate_random_trace_packed.Goals as goal

many : (n : ℕ) → length (binary_random_inputs n) ≡ n
many n = length-tabulate n binary_random_input

as_many : (xs : List Blake3CompressionInput) (n : ℕ) → xs ≡ binary_random_inputs n → length xs ≡ n
as_many xs n e = ap length e ∙ many n

pub returns-clause-height : goal.returns-clause-height
returns-clause-height g c =
    let e = c.deref.ensures.value ∙ c.in_ok-inputs.ensures in
    subst (λ k. IfOk c.generate_binary_trace_packed.result (λ m. height m ≡ packed_height k)) (as_many _ c.args.num_hashes e) c.generate_binary_trace_packed.ensures.height

pub returns-clause-bits : goal.returns-clause-bits
returns-clause-bits g c =
    let n = c.args.num_hashes in
    let e = c.deref.ensures.value ∙ c.in_ok-inputs.ensures in
    subst (λ k. IfOk c.generate_binary_trace_packed.result (HasDenseBits (binary_random_inputs n) k)) (many n)
    (subst (λ xs. IfOk c.generate_binary_trace_packed.result (HasDenseBits xs (length xs))) e c.generate_binary_trace_packed.ensures.bits)

pub returns-clause-cells : goal.returns-clause-cells
returns-clause-cells g c =
    let r = g.F.RingCore.ring in
    let n = c.args.num_hashes in
    let e = c.deref.ensures.value ∙ c.in_ok-inputs.ensures in
    subst (λ k. IfOk c.generate_binary_trace_packed.result (HasDenseCells r (binary_random_inputs n) k)) (many n)
    (subst (λ xs. IfOk c.generate_binary_trace_packed.result (HasDenseCells r xs (length xs))) e c.generate_binary_trace_packed.ensures.cells)

pub returns-clause-past : goal.returns-clause-past
returns-clause-past g c =
    let e = c.deref.ensures.value ∙ c.in_ok-inputs.ensures in
    subst (λ k. IfOk c.generate_binary_trace_packed.result (HasZerosPast k)) (as_many _ c.args.num_hashes e) c.generate_binary_trace_packed.ensures.past

pub returns-clause-not_power : goal.returns-clause-not_power
returns-clause-not_power g c =
    let e = c.deref.ensures.value ∙ c.in_ok-inputs.ensures in
    subst (λ k. (c.generate_binary_trace_packed.result ≡ Err NotPowerOfTwo) ↔ HasNoPower g.F.RingCore.ring g.F.RingCore.TWO k) (as_many _ c.args.num_hashes e)
    c.generate_binary_trace_packed.ensures.not_power
