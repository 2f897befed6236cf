use Rattle.std.proofs.Common.{◌≡◌, ℕ, ◌<◌, List, IfOk, Err, ◌↔◌, length, ap, ◌∙◌, subst}
use Rattle.std.specs.Int.{IsPowerOfTwo}
use Rattle.p3_field.specs.Laws.Tabulate.{length-tabulate}
use Rattle.p3_matrix.specs.Matrix.{height, row_at}
use Rattle.blake3_compress.specs.declared.error.TraceError.TheVariants.{NoInput, NotPowerOfTwo, TooLong}
use Rattle.blake3_binary.specs.declared.input.Blake3CompressionInput.{Blake3CompressionInput}
use Rattle.blake3_binary.specs.Row.{binary_trace_row}
use Rattle.blake3_binary.specs.Rows.{compression, IsBinaryTooLong}
use Rattle.blake3_binary.specs.Random.{binary_random_input, binary_random_inputs}
use Rattle.blake3_binary.proofs.air.Blake3BinaryAir.generate_random_trace_rows.Goals as goal

many : (n : ℕ) → length (binary_random_inputs n) ≡ n
many n = length-tabulate n binary_random_input

as_many : (xs : List Blake3CompressionInput) (n : ℕ) → xs ≡ binary_random_inputs n → length xs ≡ n
as_many xs n e = ap length e ∙ many n

pub returns-clause-height : goal.returns-clause-height
returns-clause-height g c =
    let e = c.deref.ensures.value ∙ c.in_ok-inputs.ensures in
    subst (λ k. IfOk c.generate_binary_trace_rows.result (λ m. height m ≡ k)) (as_many _ c.args.num_hashes e) c.generate_binary_trace_rows.ensures.height

pub returns-clause-row : goal.returns-clause-row
returns-clause-row g c =
    let r = g.F.RingCore.ring in
    let n = c.args.num_hashes in
    let e = c.deref.ensures.value ∙ c.in_ok-inputs.ensures in
    subst (λ k. IfOk c.generate_binary_trace_rows.result (λ m. (i : ℕ) → i < k → row_at m i ≡ binary_trace_row r (compression (binary_random_inputs n) i))) (many n)
    (subst (λ xs. IfOk c.generate_binary_trace_rows.result (λ m. (i : ℕ) → i < length xs → row_at m i ≡ binary_trace_row r (compression xs i))) e
    c.generate_binary_trace_rows.ensures.row)

pub returns-clause-no_input : goal.returns-clause-no_input
returns-clause-no_input g c =
    let e = c.deref.ensures.value ∙ c.in_ok-inputs.ensures in
    subst (λ k. (c.generate_binary_trace_rows.result ≡ Err NoInput) ↔ ((g.F.RingCore.TWO ≡ g.F.RingCore.ring.zero) × (k ≡ 0))) (as_many _ c.args.num_hashes e)
    c.generate_binary_trace_rows.ensures.no_input

pub returns-clause-not_power : goal.returns-clause-not_power
returns-clause-not_power g c =
    let e = c.deref.ensures.value ∙ c.in_ok-inputs.ensures in
    subst (λ k. (c.generate_binary_trace_rows.result ≡ Err NotPowerOfTwo) ↔ ((g.F.RingCore.TWO ≡ g.F.RingCore.ring.zero) × (0 < k) × (IsPowerOfTwo k → ⊥))) (as_many _ c.args.num_hashes e)
    c.generate_binary_trace_rows.ensures.not_power

pub returns-clause-too_long : goal.returns-clause-too_long
returns-clause-too_long g c =
    let e = c.deref.ensures.value ∙ c.in_ok-inputs.ensures in
    subst (λ k. (c.generate_binary_trace_rows.result ≡ Err TooLong) ↔ ((g.F.RingCore.TWO ≡ g.F.RingCore.ring.zero) × (0 < k) × IsPowerOfTwo k × IsBinaryTooLong k c.args.extra_capacity_bits))
    (as_many _ c.args.num_hashes e) c.generate_binary_trace_rows.ensures.too_long
