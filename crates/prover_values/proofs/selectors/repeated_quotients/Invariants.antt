use Rattle.std.proofs.Common.{◌≡◌, ◌%◌, get_or, length}
use Rattle.p3_field.specs.Poly.{tabulate}
use Rattle.prover_values.proofs.selectors.repeated_quotients.Given as goal

abbrev pub invariant-loop-i : goal.invariant-loop-i
invariant-loop-i g l =
    let r = g.F.RingCore.ring in
    l.values.items ≡ tabulate l.i (λ i. r.mul (get_or l.dividends (i % length l.dividends) r.zero) (g.F.FieldCore.inv (get_or l.divisors i r.zero)))
