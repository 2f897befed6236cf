use Rattle.std.proofs.Common.{◌≡◌, drop, map}
use Rattle.air_core.specs.Degree.{multiple}
use Rattle.air_core.specs.Tree.{Tree}
use Rattle.air_core.specs.Symbolic.{tree_of}
use Rattle.p3_lookup.specs.Lookup.{pair_up}
use Rattle.p3_lookup.specs.Written.{tree_count}
use Rattle.p3_lookup.specs.Emission.{AreDegreesOf}
use Rattle.p3_lookup.proofs.degree.parts_degrees.Given as goal

abbrev pub invariant-loop-i : goal.invariant-loop-i
invariant-loop-i g l = (a b : Tree g.row.F.Denot) → multiple l.t a ≡ 0 → multiple l.t b ≡ 0
    → AreDegreesOf g.F.RingCore.ring l.t a b (l.common, l.numerator) (pair_up (drop l.i (map (map tree_of) (map (λ v. v.items) l.elements))) (drop l.i (map tree_count l.multiplicities)))
