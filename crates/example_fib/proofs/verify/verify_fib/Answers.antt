use Rattle.std.proofs.Common.{[], ◌∷◌, Ok, arith}
use Rattle.p3_field.specs.Laws.Checks.{holds_alone}
use Rattle.batch_statement.specs.Verdict.{IsRefusal, IsVerdict}
use Rattle.law_committed.specs.Committed.{Holds}
use Rattle.law_committed.specs.Fields.{baby_bear_field, quartic_extension}
use Rattle.law_soundness.specs.CommittedBatch.{committed_table_at}
use Rattle.law_soundness.specs.Meaning.{CommittedTablesHold, HoldUnlessUnlucky}
use Rattle.verifier_batch.specs.BatchChecks.{checks}
use Rattle.verifier_shape.specs.Laws.Verdicts.{exits, refused, refused_after, refused_before, verdict_after}
use Rattle.tool_airs.specs.Airs.{HasFewUnlucky, height_check}
use Rattle.transcript_version.specs.declared.TranscriptVersion.TheVariants.{V2}
use Rattle.tool_statement.specs.Config.{tool_backend, tool_setting}
use Rattle.example_fib_air.specs.Fib.{fib_trees}
use Rattle.example_fib.proofs.Table.{few_are, few_rows, number_is, stated}
use Rattle.example_fib.specs.Statement.{fib_statement}
use Rattle.example_fib.proofs.verify.verify_fib.Goals as goal

pub verify_airs-requires-clause-bits : goal.verify_airs-requires-clause-bits
verify_airs-requires-clause-bits c = few_rows c.args.log_rows c.requires

pub returns-in_err-check_height-clause-verdict : goal.returns-in_err-check_height-clause-verdict
returns-in_err-check_height-clause-verdict c =
    let first = height_check 0 c.args.log_rows c.args.proof.now ∷ [] in
    exits _ _ _ c.from_residual.ensures.1
    (refused_before first (checks (tool_setting V2) tool_backend (fib_statement c.args.start c.args.number c.args.log_rows) c.args.proof.now) _ (refused first _ c.in_err-check_height.ensures))

pub returns-in_err-verify_airs-clause-verdict : goal.returns-in_err-verify_airs-clause-verdict
returns-in_err-verify_airs-clause-verdict c =
    let first = height_check 0 c.args.log_rows c.args.proof.now ∷ [] in
    exits _ _ _ c.from_residual-in_err-verify_airs.ensures.1
    (refused_after first (checks (tool_setting V2) tool_backend (fib_statement c.args.start c.args.number c.args.log_rows) c.args.proof.now) _ c.in_ok-check_height.ensures
    (stated c.args.start c.args.number c.args.log_rows _ c.in_ok-fib_publics.ensures (λ s. IsRefusal (checks (tool_setting V2) tool_backend s c.args.proof.now) c.in_err-verify_airs.field-0.0) c.in_err-verify_airs.ensures.verdict))

pub returns-clause-verdict : goal.returns-clause-verdict
returns-clause-verdict c =
    let first = height_check 0 c.args.log_rows c.args.proof.now ∷ [] in
    verdict_after first (checks (tool_setting V2) tool_backend (fib_statement c.args.start c.args.number c.args.log_rows) c.args.proof.now) (Ok c.in_ok-verify_airs.field-0) c.in_ok-check_height.ensures
    (stated c.args.start c.args.number c.args.log_rows _ c.in_ok-fib_publics.ensures (λ s. IsVerdict (checks (tool_setting V2) tool_backend s c.args.proof.now) (Ok c.in_ok-verify_airs.field-0)) c.in_ok-verify_airs.ensures.verdict)

pub returns-clause-number : goal.returns-clause-number
returns-clause-number c =
    let p = c.args.proof.now in
    let high = holds_alone (height_check 0 c.args.log_rows p) c.in_ok-check_height.ensures in
    number_is c.args.start c.args.number c.args.log_rows c.requires c.baby_bear_has_laws.ensures c.fib_rows_mean.ensures.means p high
    (stated c.args.start c.args.number c.args.log_rows _ c.in_ok-fib_publics.ensures (λ s. HoldUnlessUnlucky (tool_setting V2) 1 s p) c.in_ok-verify_airs.ensures.holds)
    (stated c.args.start c.args.number c.args.log_rows _ c.in_ok-fib_publics.ensures (λ s. CommittedTablesHold (tool_setting V2) 1 s p → Holds baby_bear_field quartic_extension (committed_table_at (tool_setting V2) 1 s p 0) fib_trees)
    (λ h. c.in_ok-verify_airs.ensures.own h 0 (record {}) (omega arith)))

pub returns-clause-few : goal.returns-clause-few
returns-clause-few c =
    let p = c.args.proof.now in
    let high = holds_alone (height_check 0 c.args.log_rows p) c.in_ok-check_height.ensures in
    few_are c.args.start c.args.number c.args.log_rows c.requires p high
    (stated c.args.start c.args.number c.args.log_rows _ c.in_ok-fib_publics.ensures (λ s. HasFewUnlucky s p) c.in_ok-verify_airs.ensures.few)
