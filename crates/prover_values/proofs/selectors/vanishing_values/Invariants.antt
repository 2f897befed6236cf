use Rattle.std.proofs.Common.{◌≡◌}
use Rattle.p3_field.specs.Poly.{eval_poly, tabulate}
use Rattle.p3_field.specs.Domain.{point, vanishing_polynomial}
use Rattle.prover_values.proofs.selectors.vanishing_values.Given as goal

abbrev pub invariant-loop-i : goal.invariant-loop-i
invariant-loop-i g l =
    l.values.items ≡ tabulate l.i (λ i. eval_poly g.F.RingCore.ring (vanishing_polynomial g.F.RingCore.ring g.F.FieldCore.inv l.trace_domain) (point g.F.RingCore.ring g.F.TwoAdicCore.root l.quotient_domain i))
