use Rattle.std.proofs.Common.{◌≡◌, ◌^◌, get_or}
use Rattle.p3_field.specs.Ring.{pow}
use Rattle.p3_field.specs.Poly.{total}
use Rattle.p3_matrix.specs.Interpolation.{weight_at}
use Rattle.commit_core.proofs.interpolation.interpolated_at.Given as goal

abbrev pub invariant-loop-value : goal.invariant-loop-value
invariant-loop-value g l = let s = g.EF.RingCore.ring in record {
  sum_is : l.sum ≡ total s l.value-index (λ i. s.mul (g.EF.ExtensionField.embed (get_or l.values i g.F.RingCore.ring.zero)) (weight_at s (2 ^ l.log_size) l.scale l.step l.initial.ratio i));
  ratio_is : l.ratio ≡ s.mul (pow s l.step l.value-index) l.initial.ratio;
}
