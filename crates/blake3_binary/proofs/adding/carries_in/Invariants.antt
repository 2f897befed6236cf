use Rattle.std.proofs.Common.{◌≡◌, ℕ, ◌<◌, [], length, get_or}
use Rattle.air_core.specs.Tree.{Tree}
use Rattle.air_gadgets.specs.Gadgets.{RepresentAt}
use Rattle.blake3_binary.specs.Sums.{carry_in}
use Rattle.blake3_binary.proofs.adding.carries_in.Given as goal

abbrev pub invariant-loop-i : goal.invariant-loop-i
invariant-loop-i g l =
    let B = g.AB.AirBuilder in record {
      keeps_shape : B.shape l.builder ≡ B.shape l.fn.builder;
      long : length l.carries ≡ 32;
      appends : B.appends l.fn.builder l.builder [] [];
      so_far : (t u v : ℕ → Tree g.row.AB-F.Denot) → RepresentAt (B.represents l.fn.builder) l.fn.x t → RepresentAt (B.represents l.fn.builder) l.fn.y u → RepresentAt (B.represents l.fn.builder) l.fn.s v
          → (k : ℕ) (d : g.row.AB-Expr.Denot) → k < l.i → B.represents l.builder (get_or l.carries k d) (carry_in t u v k);
    }
