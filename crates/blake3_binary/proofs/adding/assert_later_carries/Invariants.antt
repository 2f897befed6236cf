use Rattle.std.proofs.Common.{◌≡◌, ℕ, suc, [], ◌∷◌}
use Rattle.air_core.specs.Joined.{joined}
use Rattle.air_core.specs.Appended.{Appended}
use Rattle.air_core.specs.Tree.{Tree, sum}
use Rattle.air_gadgets.specs.Gadgets.{RepresentAt}
use Rattle.blake3_binary.specs.Sums.{majority}
use Rattle.blake3_binary.proofs.adding.assert_later_carries.Given as goal

abbrev pub invariant-loop-i : goal.invariant-loop-i
invariant-loop-i g l =
    let B = g.AB.AirBuilder in record {
      later : B.later l.fn.builder l.builder;
      keeps_shape : B.shape l.builder ≡ B.shape l.fn.builder;
      grown : (t u v : ℕ → Tree g.row.AB-F.Denot) → RepresentAt (B.represents l.fn.builder) l.fn.x t → RepresentAt (B.represents l.fn.builder) l.fn.y u → RepresentAt (B.represents l.fn.builder) l.fn.k v
          → Appended B.appends l.fn.builder l.builder (joined l.i (λ i. sum (majority (t (suc i)) (u (suc i)) (v i)) (v (suc i)) ∷ []));
    }
