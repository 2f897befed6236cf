use Rattle.std.proofs.Common.{◌≡◌, get_or}
use Rattle.p3_field.specs.Poly.{tabulate}
use Rattle.commit_core.proofs.selectors.quotients.Given as goal

abbrev pub invariant-loop-i : goal.invariant-loop-i
invariant-loop-i g l = let r = g.F.RingCore.ring in
    l.values.items ≡ tabulate l.i (λ i. r.mul (get_or l.dividends i r.zero) (get_or l.inverses.items i r.zero))
