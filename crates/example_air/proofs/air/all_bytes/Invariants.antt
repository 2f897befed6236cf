use Rattle.std.proofs.Common.{◌≡◌}
use Rattle.p3_field.specs.Poly.{tabulate}
use Rattle.p3_field.specs.Ring.{of_nat}
use Rattle.example_air.proofs.air.all_bytes.Given as goal

abbrev pub invariant-loop-byte : goal.invariant-loop-byte
invariant-loop-byte g l = l.values.items ≡ tabulate l.byte (of_nat g.F.RingCore.ring)
