use Rattle.std.proofs.Common.{◌≡◌}
use Rattle.p3_field.specs.Ring.{pow}
use Rattle.p3_field.specs.Poly.{tabulate}
use Rattle.p3_matrix.specs.Interpolation.{ratio_minus_one}
use Rattle.p3_matrix.proofs.interpolation.ratios_minus_one.Given as goal

abbrev pub invariant-loop : goal.invariant-loop
invariant-loop g l = let s = g.F.RingCore.ring in record {
  divisors_so_far : l.divisors.items ≡ tabulate l.counter (ratio_minus_one s l.step l.fn.ratio);
  turned_is : l.turned ≡ s.mul (pow s l.step l.counter) l.fn.ratio;
}
