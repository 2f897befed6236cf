use Rattle.std.proofs.Common.{◌≡◌, ℕ, ◌<◌, [], length, get_or}
use Rattle.air_core.specs.Tree.{Tree}
use Rattle.air_gadgets.specs.Gadgets.{RepresentAt}
use Rattle.blake3_binary.specs.Sums.{with_carries}
use Rattle.blake3_binary.proofs.adding.carried_bits.Given as goal

abbrev pub invariant-loop-i : goal.invariant-loop-i
invariant-loop-i g l =
    let B = g.AB.AirBuilder in record {
      keeps_shape : B.shape l.builder ≡ B.shape l.fn.builder;
      long : length l.bits ≡ 32;
      appends : B.appends l.fn.builder l.builder [] [];
      so_far : (t u v : ℕ → Tree g.row.AB-F.Denot) → RepresentAt (B.represents l.fn.builder) l.fn.x t → RepresentAt (B.represents l.fn.builder) l.fn.y u → RepresentAt (B.represents l.fn.builder) l.fn.k v
          → (k : ℕ) (d : g.row.AB-Expr.Denot) → k < l.i → B.represents l.builder (get_or l.bits k d) (with_carries t u v k);
    }
