use Rattle.std.proofs.Common.{◌≡◌, ℕ, ◌*◌, ◌<◌, List, IfOk, Err, ◌↔◌, length, ap, ◌∙◌, subst}
use Rattle.std.specs.Int.{IsPowerOfTwo}
use Rattle.p3_field.specs.Laws.Tabulate.{length-tabulate}
use Rattle.p3_matrix.specs.Matrix.{height, row_at}
use Rattle.blake3_compress.specs.TraceRow.{trace_row}
use Rattle.blake3_compress.specs.Generated.{input_of}
use Rattle.blake3_compress.specs.declared.error.TraceError.TheVariants.{NotPowerOfTwo, TooLong}
use Rattle.blake3_prime.specs.Rows.{compression_input, IsTooLong}
use Rattle.blake3_prime.specs.Random.{random_input, random_inputs}
use Rattle.blake3_prime.proofs.air.Blake3Air.generate_random_trace_rows.Goals as goal

many : (n : ℕ) → length (random_inputs n) ≡ n
many n = length-tabulate n (λ i. random_input (24 * i))

as_many : (ws : List (List ℕ)) (n : ℕ) → ws ≡ random_inputs n → length ws ≡ n
as_many ws n e = ap length e ∙ many n

pub returns-clause-height : goal.returns-clause-height
returns-clause-height g c =
    let e = c.deref.ensures.value ∙ c.in_ok-inputs.ensures in
    subst (λ k. IfOk c.generate_trace_rows.result (λ m. height m ≡ k)) (as_many _ c.args.num_hashes e) c.generate_trace_rows.ensures.height

pub returns-clause-row : goal.returns-clause-row
returns-clause-row g c =
    let r = g.F.RingCore.ring in
    let n = c.args.num_hashes in
    let e = c.deref.ensures.value ∙ c.in_ok-inputs.ensures in
    let words : ℕ → List ℕ = compression_input (random_inputs n) in
    subst (λ k. IfOk c.generate_trace_rows.result (λ m. (i : ℕ) → i < k → row_at m i ≡ trace_row r (input_of (words i)))) (many n)
    (subst (λ ws. IfOk c.generate_trace_rows.result (λ m. (i : ℕ) → i < length ws → row_at m i ≡ trace_row r (input_of (compression_input ws i)))) e
    c.generate_trace_rows.ensures.row)

pub returns-clause-not_power : goal.returns-clause-not_power
returns-clause-not_power g c =
    let e = c.deref.ensures.value ∙ c.in_ok-inputs.ensures in
    subst (λ k. (c.generate_trace_rows.result ≡ Err NotPowerOfTwo) ↔ (IsPowerOfTwo k → ⊥)) (as_many _ c.args.num_hashes e) c.generate_trace_rows.ensures.not_power

pub returns-clause-too_long : goal.returns-clause-too_long
returns-clause-too_long g c =
    let e = c.deref.ensures.value ∙ c.in_ok-inputs.ensures in
    subst (λ k. (c.generate_trace_rows.result ≡ Err TooLong) ↔ (IsPowerOfTwo k × IsTooLong k c.args.extra_capacity_bits)) (as_many _ c.args.num_hashes e)
    c.generate_trace_rows.ensures.too_long
