use Rattle.std.proofs.Common.{◌≡◌, cond, ◌++◌, ◌-◌, ◌^◌, length, map, replicate, ◌∙◌, subst}
use Rattle.std.specs.Prelude.{IfOk}
use Rattle.std.proofs.lemmas.Result.{IfOk-weaker}
use Rattle.std.proofs.lemmas.List.{length-replicate}
use Rattle.p3_field.specs.Checks.{in_turn}
use Rattle.p3_field.specs.Poly.{tabulate}
use Rattle.p3_lookup.specs.Written.{read_all}
use Rattle.batch_setup.specs.Packed.{source_of, budget_at, packed_at, KeepChunks, KeepChunksWithin}
use Rattle.batch_setup.specs.SetupChecks.{degree_checks, length_checks, table_setup_checks, trace_checks}
use Rattle.batch_setup.specs.Verdict.{IsSetUp}
use Rattle.batch_setup.specs.Laws.Chunks.{all_keep}
use Rattle.batch_setup.specs.Laws.Verdicts.{answer_without, first_same, none_same}
use Rattle.batch_setup.specs.declared.error.SetupError.TheVariants.{LengthMismatch}
use Rattle.batch_setup.proofs.Zeros.{zeros_never_fail}
use Rattle.batch_setup.proofs.prover_data.SetupData.from_airs_and_degrees.Goals as goal

pub returns-clause-verdict : goal.returns-clause-verdict
returns-clause-verdict g c =
    let a = c.args in
    let n = length a.airs.now in
    let b = length a.trace_ext_degree_bits.now in
    let bits = a.trace_ext_degree_bits.now in
    let r = g.SC.Val.RingCore.ring in
    let z = cond g.SC-Pcs-UnivariateStarkPcs.ZK 1 0 in
    let made = c.from_airs_and_degrees_with_lookup_budgets.result in
    let sources = map (source_of g.A.BaseAir.declaration g.A.Air.trees g.A.Air.interactions) a.airs.now in
    let fault = g.SC-Pcs-Pcs.commit_fault (g.SC.StarkGenericConfig.pcs_of a.config.now) in
    let verdict = subst (λ xs. IsSetUp (length_checks n b (length xs) ++ table_setup_checks r z (2 ^ 64 - 1) fault sources bits xs n) made) (c.deref.ensures.value ∙ c.in_ok-budgets.ensures)
    c.from_airs_and_degrees_with_lookup_budgets.ensures.verdict in
    answer_without (length_checks n b (length (replicate n 0))) (degree_checks n b) (trace_checks r.one z fault sources bits n) (in_turn n (budget_at r z (2 ^ 64 - 1) sources bits (replicate n 0))) made
    (first_same LengthMismatch ((b ≡ n) × (length (replicate n 0) ≡ n)) (b ≡ n) (λ q. (q, length-replicate n 0)))
    (none_same LengthMismatch ((b ≡ n) × (length (replicate n 0) ≡ n)) (b ≡ n) (λ p. p.0))
    (zeros_never_fail g.row.SC-Pcs-ProverError.Denot r z (2 ^ 64 - 1) sources bits n n) verdict

pub returns-clause-lookups : goal.returns-clause-lookups
returns-clause-lookups g c =
    let a = c.args in
    let sources = map (source_of g.A.BaseAir.declaration g.A.Air.trees g.A.Air.interactions) a.airs.now in
    subst (λ xs. IfOk c.from_airs_and_degrees_with_lookup_budgets.result (λ d. map read_all d.common.lookups ≡ tabulate (length a.airs.now) (packed_at g.SC.Val.RingCore.ring (cond g.SC-Pcs-UnivariateStarkPcs.ZK 1 0) sources a.trace_ext_degree_bits.now xs)))
    (c.deref.ensures.value ∙ c.in_ok-budgets.ensures) c.from_airs_and_degrees_with_lookup_budgets.ensures.lookups

pub returns-clause-chunks : goal.returns-clause-chunks
returns-clause-chunks g c =
    let a = c.args in
    let n = length a.airs.now in
    let r = g.SC.Val.RingCore.ring in
    let z = cond g.SC-Pcs-UnivariateStarkPcs.ZK 1 0 in
    let bits = a.trace_ext_degree_bits.now in
    let made = c.from_airs_and_degrees_with_lookup_budgets.result in
    let sources = map (source_of g.A.BaseAir.declaration g.A.Air.trees g.A.Air.interactions) a.airs.now in
    IfOk-weaker made (λ d. KeepChunksWithin r z sources bits (replicate n 0) (map read_all d.common.lookups))
    (λ d. KeepChunks r z sources bits (map read_all d.common.lookups))
    (λ d h. all_keep r z sources bits n (map read_all d.common.lookups) h)
    (subst (λ xs. IfOk made (λ d. KeepChunksWithin r z sources bits xs (map read_all d.common.lookups))) (c.deref.ensures.value ∙ c.in_ok-budgets.ensures)
    c.from_airs_and_degrees_with_lookup_budgets.ensures.chunks)
