use Rattle.std.proofs.Common.{refl}
use Rattle.audit_batch.specs.Report.{fails_line}
use Rattle.tool_verifier.specs.Refusals.{fault_name, fault_numbers}
use Rattle.stark_audit.proofs.Growing.{line_more}
use Rattle.stark_audit.proofs.lines.push_faults.Goals as goal

pub loop-error-preserved : goal.loop-error-preserved
loop-error-preserved c =
    line_more (λ e. fails_line (fault_name e) (fault_numbers e)) c.args.faults.now c.loop-error.error-index _ _ c.args.out.now.items c.loop-error.out.items c.push_fault_line.new.out.items
    c.loop-error-test.true refl c.loop-error.invariant c.in_ok-push_fault_line.ensures
