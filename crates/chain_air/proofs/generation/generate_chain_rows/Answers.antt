use Rattle.std.proofs.Common.{◌≡◌, ℕ, List, IfOk, Err, ◌↔◌, length, map, ap, ◌∙◌, subst, sym}
use Rattle.std.specs.Int.{IsPowerOfTwo}
use Rattle.std.proofs.lemmas.Result.{IfOk-weaker}
use Rattle.p3_field.specs.BabyBear.{baby_bear_ring}
use Rattle.p3_field.specs.Ring.{of_nat}
use Rattle.p3_matrix.specs.Matrix.{height}
use Rattle.blake3_compress.specs.declared.error.TraceError.TheVariants.{NotPowerOfTwo, TooLong}
use Rattle.blake3_prime.specs.Rows.{IsTooLong, rows_cells}
use Rattle.chain_air.specs.Generated.{IsLongChain}
use Rattle.chain_air.specs.Laws.Generated.{many_inputs}
use Rattle.chain_air.proofs.Generated.{both_ok, chain_rows, rows_chained, rows_valid, some_of_power}
use Rattle.chain_air.proofs.generation.generate_chain_rows.Goals as goal

pub returns-clause-trace : goal.returns-clause-trace
returns-clause-trace c =
    let e = c.deref.ensures.value ∙ c.in_ok-inputs.ensures in
    subst (λ (ws : List (List ℕ)). IfOk c.generate_trace_rows.result (λ m. m ≡ record { values = map (of_nat baby_bear_ring) (rows_cells ws); width = 9168 })) e c.generate_trace_rows.ensures.rows

pub returns-clause-height : goal.returns-clause-height
returns-clause-height c =
    let e = c.deref.ensures.value ∙ c.in_ok-inputs.ensures in
    subst (λ k. IfOk c.generate_trace_rows.result (λ m. height m ≡ k)) (ap length e ∙ many_inputs c.args.start c.args.blocks.now) c.generate_trace_rows.ensures.height

pub returns-clause-row : goal.returns-clause-row
returns-clause-row c =
    IfOk-weaker _ _ _ (λ m h. chain_rows baby_bear_ring c.args.start c.args.blocks.now _ m (c.deref.ensures.value ∙ c.in_ok-inputs.ensures) h) c.generate_trace_rows.ensures.row

pub returns-clause-chain : goal.returns-clause-chain
returns-clause-chain c =
    let first = c.chaining_fits.ensures in
    let words = c.blocks_fit.ensures in
    let e = c.deref.ensures.value ∙ c.in_ok-inputs.ensures in
    let many = ap length e ∙ many_inputs c.args.start c.args.blocks.now in
    let some = some_of_power _ c.in_ok-check_rows.ensures.answers.0 in
    both_ok _ _ _ c.generate_trace_rows.result
    (λ m tall h. rows_chained baby_bear_ring c.args.start c.args.blocks.now words first m some (tall ∙ many) (chain_rows baby_bear_ring c.args.start c.args.blocks.now _ m e h))
    c.generate_trace_rows.ensures.height c.generate_trace_rows.ensures.row

pub returns-clause-valid : goal.returns-clause-valid
returns-clause-valid c =
    let first = c.chaining_fits.ensures in
    let words = c.blocks_fit.ensures in
    let e = c.deref.ensures.value ∙ c.in_ok-inputs.ensures in
    let many = ap length e ∙ many_inputs c.args.start c.args.blocks.now in
    let some = some_of_power _ c.in_ok-check_rows.ensures.answers.0 in
    both_ok _ _ _ c.generate_trace_rows.result
    (λ m tall h. rows_valid baby_bear_ring c.args.start c.args.blocks.now words first c.chains_mean.ensures.traces m some (tall ∙ many) (chain_rows baby_bear_ring c.args.start c.args.blocks.now _ m e h))
    c.generate_trace_rows.ensures.height c.generate_trace_rows.ensures.row

pub returns-clause-done : goal.returns-clause-done
returns-clause-done c =
    both_ok _ _ _ c.generate_trace_rows.result (λ m tall h. subst (λ n. IsPowerOfTwo n × (IsTooLong n 0 → ⊥)) (sym tall) h) c.generate_trace_rows.ensures.height c.generate_trace_rows.ensures.done

pub returns-clause-not_power : goal.returns-clause-not_power
returns-clause-not_power c =
    let e = c.deref.ensures.value ∙ c.in_ok-inputs.ensures in
    subst (λ k. (c.generate_trace_rows.result ≡ Err NotPowerOfTwo) ↔ (IsPowerOfTwo k → ⊥)) (ap length e ∙ many_inputs c.args.start c.args.blocks.now) c.generate_trace_rows.ensures.not_power

pub returns-clause-too_long : goal.returns-clause-too_long
returns-clause-too_long c =
    let e = c.deref.ensures.value ∙ c.in_ok-inputs.ensures in
    subst (λ k. (c.generate_trace_rows.result ≡ Err TooLong) ↔ IsLongChain k) (ap length e ∙ many_inputs c.args.start c.args.blocks.now) c.generate_trace_rows.ensures.too_long
