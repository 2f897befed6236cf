use Rattle.std.proofs.Common.{◌≡◌, ℕ, ◌<◌, ◌^◌}
use Rattle.p3_field.specs.Domain.{point}
use Rattle.commit_core.specs.Space.{AreDisjoint}
use Rattle.p3_uni_stark.specs.Recombine.{domain_at}
use Rattle.p3_uni_stark.proofs.recompose.is_disjoint_from_others.Given as goal

abbrev pub invariant-loop-other : goal.invariant-loop-other
invariant-loop-other g l =
    let at = domain_at g.F.RingCore.ring l.domains in
    let p = point g.F.RingCore.ring g.F.TwoAdicCore.root in
    (j : ℕ) → j < l.other → (l.index ≡ j → ⊥) → AreDisjoint (2 ^ (at l.index).log_size) (p (at l.index)) (2 ^ (at j).log_size) (p (at j))
