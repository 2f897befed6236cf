use Rattle.std.proofs.Common.{◌≡◌, ℕ, ◌<◌, [], length, get_or}
use Rattle.std.specs.Int.{bit_at}
use Rattle.air_gadgets.specs.Gadgets.{number}
use Rattle.blake3_binary.proofs.reading.constant_bits.Given as goal

abbrev pub invariant-loop-i : goal.invariant-loop-i
invariant-loop-i g l =
    let B = g.AB.AirBuilder in record {
      keeps_shape : B.shape l.builder ≡ B.shape l.fn.builder;
      long : length l.bits ≡ 32;
      appends : B.appends l.fn.builder l.builder [] [];
      so_far : (k : ℕ) (d : g.row.AB-Expr.Denot) → k < l.i → B.represents l.builder (get_or l.bits k d) (number g.AB.F.RingCore.ring (bit_at l.fn.word k));
    }
