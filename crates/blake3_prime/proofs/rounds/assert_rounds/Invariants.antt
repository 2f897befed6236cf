use Rattle.std.proofs.Common.{◌≡◌}
use Rattle.air_core.specs.Joined.{joined}
use Rattle.air_core.specs.Appended.{Appended}
use Rattle.blake3_prime.specs.Trees.{steps_trees}
use Rattle.blake3_prime.proofs.rounds.assert_rounds.Given as goal

abbrev pub invariant-loop-p : goal.invariant-loop-p
invariant-loop-p g l =
    let B = g.AB.AirBuilder in
    let r = g.AB.F.RingCore.ring in record {
      later : B.later l.fn.builder l.builder;
      keeps_shape : B.shape l.builder ≡ B.shape l.fn.builder;
      grown : Appended B.appends l.fn.builder l.builder (joined l.p (steps_trees r));
    }
