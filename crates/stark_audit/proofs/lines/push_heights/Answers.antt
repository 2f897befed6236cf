use Rattle.std.proofs.Common.{refl}
use Rattle.audit_batch.specs.Report.{mismatch_line}
use Rattle.stark_audit.proofs.Growing.{line_more}
use Rattle.stark_audit.proofs.lines.push_heights.Goals as goal

pub loop-table-preserved : goal.loop-table-preserved
loop-table-preserved c =
    line_more mismatch_line c.args.heights.now c.loop-table.table-index _ 0 c.args.out.now.items c.loop-table.out.items c.push_line.new.out.items
    c.loop-table-test.true refl c.loop-table.invariant c.in_ok-push_line.ensures
