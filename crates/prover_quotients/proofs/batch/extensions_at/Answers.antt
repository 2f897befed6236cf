use Rattle.std.proofs.Common.{◌≡◌, length, ◌∙◌, arith}
use Rattle.batch_setup.specs.declared.error.ProverPhase.TheVariants.{QuotientEvaluations}
use Rattle.prover_quotients.proofs.Extended.{extensions_along, table_count, verdict_along}
use Rattle.prover_quotients.proofs.batch.extensions_at.Goals as goal

pub returns-clause-verdict : goal.returns-clause-verdict
returns-clause-verdict g c =
    let v = c.in_ok-chunks.chunks in
    let many : c.len-count.result ≡ length v.items = omega (arith, c.len-count.ensures, v.ok.0) in
    verdict_along QuotientEvaluations (g.SC-Pcs-UnivariateStarkPcs.extension_fault (g.SC.StarkGenericConfig.pcs_of c.args.config.now)) v.items _ c.len-count.result _ c.extended.result
    c.in_ok-chunks.ensures (many ∙ table_count _ _ v.items c.in_ok-chunks.ensures) c.extended.ensures.verdict

pub returns-clause-extensions : goal.returns-clause-extensions
returns-clause-extensions g c =
    extensions_along (g.SC-Pcs-UnivariateStarkPcs.extends (g.SC.StarkGenericConfig.pcs_of c.args.config.now)) (λ v. v.items) c.in_ok-chunks.chunks.items _ c.extended.result c.in_ok-chunks.ensures c.extended.ensures.extensions
