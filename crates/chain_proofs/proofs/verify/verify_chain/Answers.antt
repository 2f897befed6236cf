use Rattle.std.proofs.Common.{zero, suc, ◌∷◌, [], List, Ok, subst, arith}
use Rattle.p3_field.specs.declared.baby_bear.BabyBear.{BabyBear}
use Rattle.batch_statement.specs.Verdict.{IsRefusal, IsVerdict}
use Rattle.verifier_batch.specs.BatchChecks.{Accepted, checks}
use Rattle.verifier_shape.specs.Laws.Verdicts.{exits}
use Rattle.transcript_version.specs.declared.TranscriptVersion.TheVariants.{V2}
use Rattle.tool_statement.specs.Config.{tool_backend, tool_setting}
use Rattle.chain_proofs.specs.Laws.Outcome.{few_rows, stated}
use Rattle.chain_proofs.proofs.verify.verify_chain.Goals as goal

pub verify_airs-requires-clause-bits : goal.verify_airs-requires-clause-bits
verify_airs-requires-clause-bits c = few_rows c.args.log_rows c.requires.rows

pub returns-in_err-verify_airs-clause-verdict : goal.returns-in_err-verify_airs-clause-verdict
returns-in_err-verify_airs-clause-verdict c =
    exits _ _ _ c.from_residual-in_err-verify_airs.ensures.1
    (stated c.args.start.now c.args.end.now c.args.log_rows _ c.in_ok-chain_publics.ensures.values (λ s. IsRefusal (checks (tool_setting V2) tool_backend s c.args.proof.now) c.in_err-verify_airs.field-0.0) c.in_err-verify_airs.ensures.verdict)

pub accepted_means-requires-clause-accepted : goal.accepted_means-requires-clause-accepted
accepted_means-requires-clause-accepted c =
    stated c.args.start.now c.args.end.now c.args.log_rows _ c.in_ok-chain_publics.ensures.values (λ s. Accepted (tool_setting V2) tool_backend s c.args.proof.now) c.in_ok-verify_airs.ensures.verdict

pub returns-clause-verdict : goal.returns-clause-verdict
returns-clause-verdict c =
    stated c.args.start.now c.args.end.now c.args.log_rows _ c.in_ok-chain_publics.ensures.values (λ s. IsVerdict (checks (tool_setting V2) tool_backend s c.args.proof.now) (Ok c.in_ok-verify_airs.field-0)) c.in_ok-verify_airs.ensures.verdict
