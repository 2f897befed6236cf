use Rattle.std.proofs.Common.{◌≡◌, ◌+◌, ◌*◌}
use Rattle.air_core.specs.Joined.{joined}
use Rattle.air_core.specs.Appended.{Appended}
use Rattle.blake3_prime.specs.Trees.{step_half_trees}
use Rattle.blake3_prime.proofs.rounds.assert_step.Given as goal

abbrev pub invariant-loop-h : goal.invariant-loop-h
invariant-loop-h g l =
    let B = g.AB.AirBuilder in
    let r = g.AB.F.RingCore.ring in record {
      later : B.later l.fn.builder l.builder;
      keeps_shape : B.shape l.builder ≡ B.shape l.fn.builder;
      grown : Appended B.appends l.fn.builder l.builder (joined l.h (λ h. step_half_trees r (2 * l.p + h) l.g));
    }
