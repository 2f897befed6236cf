use Rattle.std.proofs.Common.{◌≡◌, ◌+◌, ◌*◌}
use Rattle.air_core.specs.Joined.{joined}
use Rattle.air_core.specs.Appended.{Appended}
use Rattle.air_gadgets.specs.Gadgets.{xor_shift_trees}
use Rattle.blake3_prime.specs.Trees.{from_column}
use Rattle.blake3_prime.proofs.edges.assert_masked.Given as goal

abbrev pub invariant-loop-i : goal.invariant-loop-i
invariant-loop-i g l =
    let B = g.AB.AirBuilder in
    let r = g.AB.F.RingCore.ring in record {
      later : B.later l.fn.builder l.builder;
      keeps_shape : B.shape l.builder ≡ B.shape l.fn.builder;
      grown : Appended B.appends l.fn.builder l.builder (joined l.i (λ i. xor_shift_trees r (from_column (l.limbs + 2 * i)) (from_column (l.bits + 32 * i)) (from_column (l.mask + 32 * i)) 0));
    }
