use Rattle.std.proofs.Common.{◌≡◌, ◌++◌, flat_map, take}
use Rattle.audit_batch.specs.Report.{mismatch_line}
use Rattle.stark_audit.proofs.lines.push_heights.Given as goal

abbrev pub invariant-loop-table : goal.invariant-loop-table
invariant-loop-table l = l.out.items ≡ l.initial.out.items ++ flat_map mismatch_line (take l.table-index l.heights)
