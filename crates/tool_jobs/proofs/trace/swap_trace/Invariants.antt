use Rattle.std.proofs.Common.{◌≡◌}
use Rattle.std.specs.List.{flat_map}
use Rattle.p3_field.specs.Poly.{tabulate}
use Rattle.law_tool_valid.specs.Job.{swap_row}
use Rattle.tool_jobs.proofs.trace.swap_trace.Given as goal

abbrev pub invariant-loop-i : goal.invariant-loop-i
invariant-loop-i l = l.values.items ≡ flat_map (swap_row l.a l.b) (tabulate l.i (λ i. i))
