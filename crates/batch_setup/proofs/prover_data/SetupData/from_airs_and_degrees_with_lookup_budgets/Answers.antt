use Rattle.std.proofs.Common.{◌≡◌, ◌<◌, ◌≤◌, ◌++◌, cond, length, map, sym, subst, arith}
use Rattle.std.specs.Prelude.{IfOk}
use Rattle.std.proofs.lemmas.Result.{IfOk-weaker}
use Rattle.p3_field.specs.Laws.Checks.{holds_alone}
use Rattle.p3_field.specs.Poly.{tabulate}
use Rattle.p3_lookup.specs.Written.{read_all}
use Rattle.batch_setup.specs.Packed.{source_of, packed_at, KeepChunksWithin}
use Rattle.batch_setup.specs.SetupChecks.{length_checks, table_setup_checks}
use Rattle.batch_setup.specs.Verdict.{IsSetUp}
use Rattle.batch_setup.specs.Laws.Chunks.{batch_keeps_within}
use Rattle.batch_setup.specs.Laws.Verdicts.{exits, no_memory, refused_before, answer_after, whatever_memory}
use Rattle.batch_setup.proofs.Masks.{mask_small}
use Rattle.batch_setup.proofs.prover_data.SetupData.from_airs_and_degrees_with_lookup_budgets.Goals as goal

pub returns-in_err-check_lengths-clause-verdict : goal.returns-in_err-check_lengths-clause-verdict
returns-in_err-check_lengths-clause-verdict g c = exits _ _ _ c.from_residual.ensures.1 (refused_before _ _ _ c.in_err-check_lengths.ensures.verdict)

pub returns-in_err-check_lengths-clause-memory : goal.returns-in_err-check_lengths-clause-memory
returns-in_err-check_lengths-clause-memory g c = no_memory _ _ _ c.from_residual.ensures.1 c.in_err-check_lengths.ensures.no_memory

pub tables_data-requires-clause-bits : goal.tables_data-requires-clause-bits
tables_data-requires-clause-bits g c = (holds_alone _ c.in_ok-check_lengths.ensures.verdict).0

pub tables_data-requires-clause-budgets : goal.tables_data-requires-clause-budgets
tables_data-requires-clause-budgets g c = (holds_alone _ c.in_ok-check_lengths.ensures.verdict).1

pub tables_data-requires-clause-masks : goal.tables_data-requires-clause-masks
tables_data-requires-clause-masks g c = subst (λ m. m ≤ 1) (sym c.is_zk-masks.ensures) (mask_small g.SC-Pcs-UnivariateStarkPcs.ZK)

pub tables_data-requires-clause-masked : goal.tables_data-requires-clause-masked
tables_data-requires-clause-masked g c = λ i lt.
    let long = (holds_alone _ c.in_ok-check_lengths.ensures.verdict).0 in
    let within : i < length c.args.trace_ext_degree_bits.now = omega (arith, lt, long) in
    let b = (c.requires.bits i within).0 in
    let m = c.is_zk-masks.ensures in
    omega (arith, b, m)

pub tables_data-requires-clause-two_adic : goal.tables_data-requires-clause-two_adic
tables_data-requires-clause-two_adic g c = λ i lt.
    let long = (holds_alone _ c.in_ok-check_lengths.ensures.verdict).0 in
    let within : i < length c.args.trace_ext_degree_bits.now = omega (arith, lt, long) in
    let b = (c.requires.bits i within).1 in
    let top = g.SC-Pcs-UnivariateStarkPcs-met.heights_fit (g.SC.StarkGenericConfig.pcs_of c.args.config.now) in
    omega (arith, b, top)

pub tables_data-requires-clause-fits : goal.tables_data-requires-clause-fits
tables_data-requires-clause-fits g c = λ i lt.
    let long = (holds_alone _ c.in_ok-check_lengths.ensures.verdict).0 in
    let within : i < length c.args.trace_ext_degree_bits.now = omega (arith, lt, long) in
    let b = (c.requires.bits i within).1 in
    let top = g.SC-Pcs-UnivariateStarkPcs-met.heights_fit (g.SC.StarkGenericConfig.pcs_of c.args.config.now) in
    let low = g.met.SC.Val.TwoAdicCore.below_64 in
    omega (arith, b, top, low)

pub returns-clause-verdict : goal.returns-clause-verdict
returns-clause-verdict g c =
    let a = c.args in
    let sources = map (source_of g.A.BaseAir.declaration g.A.Air.trees g.A.Air.interactions) a.airs.now in
    let fault = g.SC-Pcs-Pcs.commit_fault (g.SC.StarkGenericConfig.pcs_of a.config.now) in
    subst (λ m. IsSetUp (length_checks (length a.airs.now) (length a.trace_ext_degree_bits.now) (length a.lookup_budget_overrides.now)
    ++ table_setup_checks g.SC.Val.RingCore.ring m a.log_blowup fault sources a.trace_ext_degree_bits.now a.lookup_budget_overrides.now (length a.airs.now)) c.tables_data.result) c.is_zk-masks.ensures
    (answer_after _ _ _ c.in_ok-check_lengths.ensures.verdict c.tables_data.ensures.verdict)

pub returns-clause-lookups : goal.returns-clause-lookups
returns-clause-lookups g c =
    let a = c.args in
    let sources = map (source_of g.A.BaseAir.declaration g.A.Air.trees g.A.Air.interactions) a.airs.now in
    subst (λ m. IfOk c.tables_data.result (λ d. map read_all d.common.lookups ≡ tabulate (length a.airs.now) (packed_at g.SC.Val.RingCore.ring m sources a.trace_ext_degree_bits.now a.lookup_budget_overrides.now))) c.is_zk-masks.ensures
    c.tables_data.ensures.lookups

pub returns-clause-memory : goal.returns-clause-memory
returns-clause-memory g c = whatever_memory c.tables_data.result (holds_alone _ c.in_ok-check_lengths.ensures.verdict)

pub returns-clause-chunks : goal.returns-clause-chunks
returns-clause-chunks g c =
    let a = c.args in
    let r = g.SC.Val.RingCore.ring in
    let z = cond g.SC-Pcs-UnivariateStarkPcs.ZK 1 0 in
    let bits = a.trace_ext_degree_bits.now in
    let budgets = a.lookup_budget_overrides.now in
    let sources = map (source_of g.A.BaseAir.declaration g.A.Air.trees g.A.Air.interactions) a.airs.now in
    IfOk-weaker c.tables_data.result (λ d. map read_all d.common.lookups ≡ tabulate (length a.airs.now) (packed_at r z sources bits budgets))
    (λ d. KeepChunksWithin r z sources bits budgets (map read_all d.common.lookups))
    (λ d e. batch_keeps_within g.A.BaseAir.declaration g.A.Air.trees g.A.Air.interactions g.met.A.Air.interactions_read r z a.airs.now bits budgets (map read_all d.common.lookups)
    (mask_small g.SC-Pcs-UnivariateStarkPcs.ZK) e)
    (subst (λ m. IfOk c.tables_data.result (λ d. map read_all d.common.lookups ≡ tabulate (length a.airs.now) (packed_at r m sources bits budgets))) c.is_zk-masks.ensures c.tables_data.ensures.lookups)
