use Rattle.std.proofs.Common.{◌≡◌, ◌^◌}
use Rattle.p3_field.specs.Ring.{pow}
use Rattle.p3_field.specs.Poly.{tabulate}
use Rattle.p3_matrix.specs.Interpolation.{weight_at}
use Rattle.commit_core.proofs.interpolation.weights_at.Given as goal

abbrev pub invariant-loop : goal.invariant-loop
invariant-loop g l = let s = g.EF.RingCore.ring in record {
  weights_so_far : l.weights.items ≡ tabulate l.counter (weight_at s (2 ^ l.log_size) l.scale l.step l.initial.ratio);
  ratio_is : l.ratio ≡ s.mul (pow s l.step l.counter) l.initial.ratio;
}
