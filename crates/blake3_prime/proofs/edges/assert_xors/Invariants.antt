use Rattle.std.proofs.Common.{◌≡◌, [], ◌∷◌}
use Rattle.air_core.specs.Joined.{joined}
use Rattle.air_core.specs.Appended.{Appended}
use Rattle.air_core.specs.Tree.{difference}
use Rattle.air_gadgets.specs.Gadgets.{xor_tree}
use Rattle.blake3_prime.specs.Trees.{from_column}
use Rattle.blake3_prime.proofs.edges.assert_xors.Given as goal

abbrev pub invariant-loop-i : goal.invariant-loop-i
invariant-loop-i g l =
    let B = g.AB.AirBuilder in
    let r = g.AB.F.RingCore.ring in record {
      later : B.later l.fn.builder l.builder;
      keeps_shape : B.shape l.builder ≡ B.shape l.fn.builder;
      grown : Appended B.appends l.fn.builder l.builder (joined l.i (λ i. difference (from_column l.column i) (xor_tree r (from_column l.left i) (from_column l.right i)) ∷ []));
    }
