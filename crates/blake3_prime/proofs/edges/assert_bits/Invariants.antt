use Rattle.std.proofs.Common.{◌≡◌, [], ◌∷◌}
use Rattle.air_core.specs.Joined.{joined}
use Rattle.air_core.specs.Appended.{Appended}
use Rattle.air_core.specs.Tree.{bool_tree}
use Rattle.blake3_prime.specs.Trees.{from_column}
use Rattle.blake3_prime.proofs.edges.assert_bits.Given as goal

abbrev pub invariant-loop-i : goal.invariant-loop-i
invariant-loop-i g l =
    let B = g.AB.AirBuilder in
    let r = g.AB.F.RingCore.ring in record {
      later : B.later l.fn.builder l.builder;
      keeps_shape : B.shape l.builder ≡ B.shape l.fn.builder;
      grown : Appended B.appends l.fn.builder l.builder (joined l.i (λ i. bool_tree r.one (from_column l.column i) ∷ []));
    }
