use Rattle.std.proofs.Common.{◌≡◌, ℕ, ◌-◌, [], length}
use Rattle.air_core.specs.Tree.{Tree}
use Rattle.air_gadgets.specs.Gadgets.{RepresentAt, number, packed_bits}
use Rattle.air_gadgets.proofs.gadgets.pack_bits_le.Given as goal

abbrev pub invariant-loop-i : goal.invariant-loop-i
invariant-loop-i g l =
    let B = g.AB.AirBuilder in
    let r = g.AB.F.RingCore.ring in record {
      keeps_shape : B.shape l.builder ≡ B.shape l.fn.builder;
      appends : B.appends l.fn.builder l.builder [] [];
      two : B.represents l.builder l.two (number r 2);
      so_far : (t : ℕ → Tree g.row.AB-F.Denot) → RepresentAt (B.represents l.fn.builder) l.bits t → B.represents l.builder l.sum (packed_bits r t l.i (length l.bits - l.i));
    }
