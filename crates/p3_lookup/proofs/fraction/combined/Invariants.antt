use Rattle.std.proofs.Common.{◌≡◌, [], drop, map}
use Rattle.p3_field.specs.Poly.{eval_poly}
use Rattle.air_core.specs.Tree.{Tree}
use Rattle.air_core.specs.Symbolic.{tree_of}
use Rattle.p3_lookup.specs.Trees.{trees}
use Rattle.p3_lookup.proofs.fraction.combined.Given as goal

abbrev pub invariant-loop-i : goal.invariant-loop-i
invariant-loop-i g l =
    let B = g.AB.AirBuilder in
    let X = g.AB.ExtensionBuilder in record {
      keeps_shape : B.shape l.builder ≡ B.shape l.fn.builder;
      appends : B.appends l.fn.builder l.builder [] [];
      so_far : (b : Tree g.row.AB-F.Denot) → X.represents_ext l.fn.builder l.beta b → X.represents_ext l.builder l.sum (eval_poly (trees g.AB.F.RingCore.ring) (drop l.i (map tree_of l.tuple)) b);
    }
