use Rattle.std.proofs.Common.{◌≡◌, get_or}
use Rattle.p3_field.specs.Poly.{total}
use Rattle.commit_core.proofs.interpolation.weighted_sum.Given as goal

abbrev pub invariant-loop-i : goal.invariant-loop-i
invariant-loop-i g l = let s = g.EF.RingCore.ring in l.sum ≡ total s l.i (λ i. s.mul (g.EF.ExtensionField.embed (get_or l.values i g.F.RingCore.ring.zero)) (get_or l.weights i s.zero))
