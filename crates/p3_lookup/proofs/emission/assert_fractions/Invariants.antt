use Rattle.std.proofs.Common.{◌≡◌, [], map, take}
use Rattle.air_core.specs.Tree.{over_extension}
use Rattle.p3_lookup.specs.Written.{read_all}
use Rattle.p3_lookup.specs.Trees.{fraction_trees}
use Rattle.p3_lookup.proofs.emission.assert_fractions.Given as goal

abbrev pub invariant-loop-i : goal.invariant-loop-i
invariant-loop-i g l =
    let B = g.AB.AirBuilder in record {
      keeps_shape : B.shape l.builder ≡ B.shape l.fn.builder;
      appends : B.appends l.fn.builder l.builder (map over_extension (fraction_trees g.AB.F.RingCore.ring 0 (take l.i (read_all l.lookups)))) [];
    }
