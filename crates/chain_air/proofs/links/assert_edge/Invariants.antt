use Rattle.std.proofs.Common.{◌≡◌, ◌+◌, ◌*◌}
use Rattle.air_core.specs.Joined.{joined}
use Rattle.air_core.specs.Appended.{Appended}
use Rattle.chain_air.specs.Trees.{public_word_trees}
use Rattle.chain_air.proofs.links.assert_edge.Given as goal

abbrev pub invariant-loop-w : goal.invariant-loop-w
invariant-loop-w g l =
    let B = g.AB.AirBuilder in
    let r = g.AB.F.RingCore.ring in record {
      later : B.later l.fn.builder l.builder;
      keeps_shape : B.shape l.builder ≡ B.shape l.fn.builder;
      grown : Appended B.appends l.fn.builder l.builder (joined l.w (λ w. public_word_trees r l.selector (l.column + 32 * w) (l.public + 2 * w)));
    }
