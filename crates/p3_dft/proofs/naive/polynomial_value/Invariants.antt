use Rattle.std.proofs.Common.{◌≡◌, ◌≤◌, length, drop, map}
use Rattle.p3_field.specs.Poly.{eval_poly}
use Rattle.p3_dft.proofs.naive.polynomial_value.Given as goal

abbrev pub invariant-loop-i : goal.invariant-loop-i
invariant-loop-i g l = record {
  within : l.i ≤ length l.coefficients;
  so_far : l.sum ≡ eval_poly g.EF.RingCore.ring (drop l.i (map g.EF.ExtensionField.embed l.coefficients)) l.point;
}

abbrev pub decreases-loop-i : goal.decreases-loop-i
decreases-loop-i g l = l.i
