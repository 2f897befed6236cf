use Rattle.std.proofs.Common.{◌≡◌, ◌++◌, flat_map, take}
use Rattle.audit_batch.specs.Report.{fails_line}
use Rattle.tool_verifier.specs.Refusals.{fault_name, fault_numbers}
use Rattle.stark_audit.proofs.lines.push_faults.Given as goal

abbrev pub invariant-loop-error : goal.invariant-loop-error
invariant-loop-error l = l.out.items ≡ l.initial.out.items ++ flat_map (λ e. fails_line (fault_name e) (fault_numbers e)) (take l.error-index l.faults)
