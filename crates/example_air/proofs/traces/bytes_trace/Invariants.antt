use Rattle.std.proofs.Common.{◌≡◌, get_or}
use Rattle.p3_field.specs.BabyBear.{baby_bear_ring}
use Rattle.p3_field.specs.Poly.{tabulate}
use Rattle.p3_field.specs.Ring.{of_nat}
use Rattle.example_air.proofs.traces.bytes_trace.Given as goal

abbrev pub invariant-loop-byte : goal.invariant-loop-byte
invariant-loop-byte l = l.values.items ≡ tabulate l.byte (λ byte. of_nat baby_bear_ring (get_or l.counts byte 0))
