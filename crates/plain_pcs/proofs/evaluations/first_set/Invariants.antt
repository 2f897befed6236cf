use Rattle.std.proofs.Common.{◌≡◌, ◌+◌, ◌*◌, get_or}
use Rattle.p3_field.specs.Poly.{tabulate}
use Rattle.plain_pcs.specs.Laws.Multilinear.{between}
use Rattle.plain_pcs.proofs.evaluations.first_set.Given as goal

abbrev pub invariant-loop-i : goal.invariant-loop-i
invariant-loop-i g l =
    let r = g.E.RingCore.ring in
    l.set.items ≡ tabulate l.i (λ i. between r l.x (get_or l.values (2 * i) r.zero) (get_or l.values (2 * i + 1) r.zero))
