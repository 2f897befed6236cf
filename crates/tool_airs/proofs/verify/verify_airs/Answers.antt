use Rattle.std.proofs.Common.{Ok, get_or, arith}
use Rattle.std.proofs.lemmas.List.{length-map}
use Rattle.p3_field.specs.Quartic.{quartic_inv}
use Rattle.p3_field.specs.declared.baby_bear.BabyBear.{BabyBear}
use Rattle.batch_statement.specs.Statement.{AirTable}
use Rattle.law_balance.specs.Accepted.{BalanceUnlessUnlucky}
use Rattle.law_committed.specs.Committed.{Holds}
use Rattle.law_committed.specs.Fields.{baby_bear_field, quartic_extension}
use Rattle.law_soundness.specs.CommittedBatch.{committed_table_at}
use Rattle.law_soundness.specs.Meaning.{CommittedTablesHold, HoldUnlessUnlucky}
use Rattle.law_soundness.specs.OpenedBatch.{AllHaveColumns}
use Rattle.verifier_shape.specs.Laws.Verdicts.{exits}
use Rattle.tool_airs.proofs.Stated.{carried, few_is, refusal_is, verdict_is}
use Rattle.tool_airs.specs.Airs.{same_value}
use Rattle.tool_airs.proofs.verify.verify_airs.Goals as goal

pub returns-in_err-verify_batch-clause-verdict : goal.returns-in_err-verify_batch-clause-verdict
returns-in_err-verify_batch-clause-verdict g c =
    exits _ _ _ c.from_residual-in_err-verify_batch.ensures.1
    (refusal_is _ _ _ c.tool_config-config.result.pcs _ _ c.args.proof.now c.in_err-verify_batch.field-0.0 c.tool_config-config.ensures.setting c.tool_config-config.ensures.scheme c.in_ok-common.ensures.common c.in_err-verify_batch.ensures.verdict)

pub returns-clause-verdict : goal.returns-clause-verdict
returns-clause-verdict g c =
    verdict_is _ _ _ c.tool_config-config.result.pcs _ _ c.args.proof.now (Ok c.in_ok-verify_batch.field-0) c.tool_config-config.ensures.setting c.tool_config-config.ensures.scheme c.in_ok-common.ensures.common c.in_ok-verify_batch.ensures.verdict

pub returns-clause-holds : goal.returns-clause-holds
returns-clause-holds g c =
    carried (λ d b s. HoldUnlessUnlucky d b.log_blowup s c.args.proof.now) _ _ _ c.tool_config-config.result.pcs _ _ c.tool_config-config.ensures.setting c.tool_config-config.ensures.scheme c.in_ok-common.ensures.common c.accepted_holds.ensures.holds

pub returns-clause-columns : goal.returns-clause-columns
returns-clause-columns g c =
    carried (λ d b s. AllHaveColumns d b.log_blowup s c.args.proof.now) _ _ _ c.tool_config-config.result.pcs _ _ c.tool_config-config.ensures.setting c.tool_config-config.ensures.scheme c.in_ok-common.ensures.common c.accepted_holds.ensures.columns

pub returns-clause-balance : goal.returns-clause-balance
returns-clause-balance g c =
    carried (λ d b s. BalanceUnlessUnlucky d b.log_blowup s c.args.proof.now same_value quartic_inv) _ _ _ c.tool_config-config.result.pcs _ _ c.tool_config-config.ensures.setting c.tool_config-config.ensures.scheme c.in_ok-common.ensures.common c.accepted_balances.ensures.balance

pub returns-clause-few : goal.returns-clause-few
returns-clause-few g c =
    let many = length-map {B = AirTable BabyBear} c.args.airs.now (λ a. record { declaration = g.A.BaseAir.declaration a; trees = g.A.Air.trees a }) in
    few_is _ _ _ c.tool_config-config.result.pcs _ _ c.args.proof.now c.tool_config-config.ensures.setting c.tool_config-config.ensures.scheme c.in_ok-common.ensures.common
    c.few_challenges_are_unlucky.ensures.alphas c.few_challenges_are_unlucky.ensures.zetas
    (λ i h. c.few_challenges_are_unlucky.ensures.chunks i (omega (arith, h, many)))

pub returns-clause-own : goal.returns-clause-own
returns-clause-own g c =
    λ hold i air l.
    carried (λ d b s. CommittedTablesHold d b.log_blowup s c.args.proof.now → Holds baby_bear_field quartic_extension (committed_table_at d b.log_blowup s c.args.proof.now i) (g.A.Air.trees (get_or c.args.airs.now i air)))
    _ _ _ c.tool_config-config.result.pcs _ _ c.tool_config-config.ensures.setting c.tool_config-config.ensures.scheme c.in_ok-common.ensures.common (λ h. c.accepted_holds.ensures.own h i air l) hold
