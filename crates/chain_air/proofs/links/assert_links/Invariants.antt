use Rattle.std.proofs.Common.{◌≡◌, [], ◌∷◌}
use Rattle.air_core.specs.Joined.{joined}
use Rattle.air_core.specs.Appended.{Appended}
use Rattle.chain_air.specs.Trees.{link_tree}
use Rattle.chain_air.proofs.links.assert_links.Given as goal

abbrev pub invariant-loop-i : goal.invariant-loop-i
invariant-loop-i g l =
    let B = g.AB.AirBuilder in record {
      later : B.later l.fn.builder l.builder;
      keeps_shape : B.shape l.builder ≡ B.shape l.fn.builder;
      grown : Appended B.appends l.fn.builder l.builder (joined l.i (λ i. link_tree i ∷ []));
    }
