use Rattle.std.proofs.Common.{◌≡◌, [], drop, map}
use Rattle.air_core.specs.Tree.{Tree}
use Rattle.air_core.specs.Symbolic.{tree_of}
use Rattle.p3_lookup.specs.Lookup.{pair_up}
use Rattle.p3_lookup.specs.Written.{tree_count}
use Rattle.p3_lookup.specs.Emission.{ArePartsOf}
use Rattle.p3_lookup.proofs.fraction.fraction_parts.Given as goal

abbrev pub invariant-loop-i : goal.invariant-loop-i
invariant-loop-i g l =
    let B = g.AB.AirBuilder in
    let X = g.AB.ExtensionBuilder in record {
      keeps_shape : B.shape l.builder ≡ B.shape l.fn.builder;
      appends : B.appends l.fn.builder l.builder [] [];
      so_far : (a b : Tree g.row.AB-F.Denot) → X.represents_ext l.fn.builder l.challenges.0 a → X.represents_ext l.fn.builder l.challenges.1 b
          → ArePartsOf (X.represents_ext l.builder) g.AB.F.RingCore.ring a b (l.common, l.numerator) (pair_up (drop l.i (map (map tree_of) (map (λ v. v.items) l.elements))) (drop l.i (map tree_count l.multiplicities)));
    }
