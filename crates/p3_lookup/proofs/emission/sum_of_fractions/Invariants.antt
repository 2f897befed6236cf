use Rattle.std.proofs.Common.{◌≡◌, []}
use Rattle.p3_lookup.specs.Trees.{sum_tree}
use Rattle.p3_lookup.proofs.emission.sum_of_fractions.Given as goal

abbrev pub invariant-loop-i : goal.invariant-loop-i
invariant-loop-i g l =
    let B = g.AB.AirBuilder in record {
      keeps_shape : B.shape l.builder ≡ B.shape l.fn.builder;
      appends : B.appends l.fn.builder l.builder [] [];
      so_far : g.AB.ExtensionBuilder.represents_ext l.builder l.sum (sum_tree g.AB.F.RingCore.ring l.i);
    }
