use Rattle.std.proofs.Common.{[], ◌∷◌, Ok, arith, length, ◌≡◌}
use Rattle.p3_field.specs.BabyBear.{baby_bear_ring}
use Rattle.p3_field.specs.Laws.Checks.{holds_alone}
use Rattle.p3_field.specs.Quartic.{quartic_inv}
use Rattle.batch_statement.specs.Verdict.{IsRefusal, IsVerdict}
use Rattle.law_balance.specs.Accepted.{BalanceUnlessUnlucky}
use Rattle.law_committed.specs.Committed.{Holds}
use Rattle.law_committed.specs.Fields.{baby_bear_field, quartic_extension}
use Rattle.law_soundness.specs.CommittedBatch.{committed_table_at}
use Rattle.law_soundness.specs.Meaning.{CommittedTablesHold, HoldUnlessUnlucky}
use Rattle.verifier_batch.specs.BatchChecks.{checks}
use Rattle.verifier_shape.specs.Laws.Verdicts.{exits, refused, refused_after, refused_before, verdict_after}
use Rattle.tool_airs.specs.Airs.{height_check, same_value}
use Rattle.transcript_version.specs.declared.TranscriptVersion.TheVariants.{V2}
use Rattle.tool_statement.specs.Config.{tool_backend, tool_setting}
use Rattle.example_air.specs.Bytes.{byte_row_trees}
use Rattle.example_air.specs.Statement.{example_statement}
use Rattle.example_air.specs.declared.air.ExampleAir.TheVariants.{Bits}
use Rattle.example_air.proofs.Stated.{rows_are, stated}
use Rattle.example_air.proofs.Tables.{expected, prepared_high}
use Rattle.example_air.proofs.verify.verify_bytes.Goals as goal

pub verify_airs-requires-clause-bits : goal.verify_airs-requires-clause-bits
verify_airs-requires-clause-bits c = expected c.args.log_rows c.requires

pub verify_airs-requires-clause-heights : goal.verify_airs-requires-clause-heights
verify_airs-requires-clause-heights c = prepared_high c.args.log_rows

pub returns-in_err-check_height-clause-verdict : goal.returns-in_err-check_height-clause-verdict
returns-in_err-check_height-clause-verdict c =
    let first = height_check 0 c.args.log_rows c.args.proof.now ∷ [] in
    exits _ _ _ c.from_residual.ensures.1
    (refused_before first (checks (tool_setting V2) tool_backend (example_statement c.args.log_rows) c.args.proof.now) _ (refused first _ c.in_err-check_height.ensures))

pub returns-in_err-verify_airs-clause-verdict : goal.returns-in_err-verify_airs-clause-verdict
returns-in_err-verify_airs-clause-verdict c =
    let first = height_check 0 c.args.log_rows c.args.proof.now ∷ [] in
    exits _ _ _ c.from_residual-in_err-verify_airs.ensures.1
    (refused_after first (checks (tool_setting V2) tool_backend (example_statement c.args.log_rows) c.args.proof.now) _ c.in_ok-check_height.ensures
    (stated c.args.log_rows _ _ c.new.ensures.items c.new-2.ensures.items (λ s. IsRefusal (checks (tool_setting V2) tool_backend s c.args.proof.now) c.in_err-verify_airs.field-0.0) c.in_err-verify_airs.ensures.verdict))

pub returns-clause-verdict : goal.returns-clause-verdict
returns-clause-verdict c =
    let first = height_check 0 c.args.log_rows c.args.proof.now ∷ [] in
    verdict_after first (checks (tool_setting V2) tool_backend (example_statement c.args.log_rows) c.args.proof.now) (Ok c.in_ok-verify_airs.field-0) c.in_ok-check_height.ensures
    (stated c.args.log_rows _ _ c.new.ensures.items c.new-2.ensures.items (λ s. IsVerdict (checks (tool_setting V2) tool_backend s c.args.proof.now) (Ok c.in_ok-verify_airs.field-0)) c.in_ok-verify_airs.ensures.verdict)

pub returns-clause-holds : goal.returns-clause-holds
returns-clause-holds c = stated c.args.log_rows _ _ c.new.ensures.items c.new-2.ensures.items (λ s. HoldUnlessUnlucky (tool_setting V2) 1 s c.args.proof.now) c.in_ok-verify_airs.ensures.holds

pub returns-clause-balance : goal.returns-clause-balance
returns-clause-balance c =
    stated c.args.log_rows _ _ c.new.ensures.items c.new-2.ensures.items (λ s. BalanceUnlessUnlucky (tool_setting V2) 1 s c.args.proof.now same_value quartic_inv) c.in_ok-verify_airs.ensures.balance

pub returns-clause-bytes : goal.returns-clause-bytes
returns-clause-bytes c =
    let p = c.args.proof.now in
    let high = holds_alone (height_check 0 c.args.log_rows p) c.in_ok-check_height.ensures in
    rows_are c.baby_bear_has_laws.ensures c.rows_are_bytes.ensures c.args.log_rows p high
    (stated c.args.log_rows _ _ c.new.ensures.items c.new-2.ensures.items (λ s. HoldUnlessUnlucky (tool_setting V2) 1 s p) c.in_ok-verify_airs.ensures.holds)
    (stated c.args.log_rows _ _ c.new.ensures.items c.new-2.ensures.items
    (λ s. CommittedTablesHold (tool_setting V2) 1 s p → Holds baby_bear_field quartic_extension (committed_table_at (tool_setting V2) 1 s p 0) (byte_row_trees baby_bear_ring))
    (λ h. c.in_ok-verify_airs.ensures.own h 0 Bits (omega arith)))
    (stated c.args.log_rows _ _ c.new.ensures.items c.new-2.ensures.items (λ s. length (committed_table_at (tool_setting V2) 1 s p 0).main ≡ 9) (c.in_ok-verify_airs.ensures.columns 0 (omega arith)).main)
