use Rattle.p3_field.specs.Poly.{tabulate}
use Rattle.law_tool_valid.specs.Job.{swap_row}
use Rattle.tool_jobs.proofs.Traces.{pairs-fill, rows-next, swap_row-pair}
use Rattle.tool_jobs.proofs.trace.swap_trace.Goals as goal

pub loop-i-preserved : goal.loop-i-preserved
loop-i-preserved c = rows-next (swap_row c.args.a c.args.b) c.loop-i.i _ _ c.loop-i.invariant c.in_ok-push_swap_row.ensures

pub new-requires : goal.new-requires
new-requires c = pairs-fill (swap_row c.args.a c.args.b) (swap_row-pair c.args.a c.args.b) (tabulate c.loop-i.i (λ i. i)) _ c.loop-i.invariant
