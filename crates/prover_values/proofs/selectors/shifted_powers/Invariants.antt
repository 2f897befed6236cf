use Rattle.std.proofs.Common.{◌≡◌}
use Rattle.p3_field.specs.Ring.{sub}
use Rattle.p3_field.specs.Poly.{tabulate}
use Rattle.p3_field.specs.Domain.{coset_point}
use Rattle.prover_values.proofs.selectors.shifted_powers.Given as goal

abbrev pub invariant-loop : goal.invariant-loop
invariant-loop g l = let r = g.F.RingCore.ring in record {
  values_so_far : l.values.items ≡ tabulate l.counter (λ i. sub r (coset_point r l.fn.first l.step i) l.minus);
  power_is : l.power ≡ coset_point r l.fn.first l.step l.counter;
}
