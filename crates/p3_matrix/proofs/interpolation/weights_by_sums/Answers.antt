use Rattle.std.proofs.Common.{◌≡◌, ◌^◌, ◌∙◌, ap, arith}
use Rattle.p3_field.specs.Poly.{tabulate}
use Rattle.p3_field.specs.Laws.Tabulate.{tabulate_push}
use Rattle.p3_matrix.specs.Interpolation.{weight_at}
use Rattle.p3_matrix.specs.Laws.Interpolants.{next_ratio, first_ratio, weight_is}
use Rattle.p3_matrix.specs.Laws.Powers.{one_shifted_left}
use Rattle.p3_matrix.proofs.interpolation.weights_by_sums.Goals as goal

pub loop-init : goal.loop-init
loop-init g c = record {
  weights_so_far = c.in_ok-weights.ensures.items;
  turned_is = first_ratio g.F.RingCore.ring g.met.F.RingCore.ring_laws c.args.step c.args.ratio;
}

pub loop-preserved : goal.loop-preserved
loop-preserved g c =
    let s = g.F.RingCore.ring in
    let M = g.met.F.RingCore.ring_laws in
    let P = g.met.F.PrimeCharacteristicRing in
    let i = c.loop.counter in
    record {
      weights_so_far = c.in_ok-push.ensures.items ∙ tabulate_push _ _ _ _ c.loop.invariant.weights_so_far
          (weight_is s M (2 ^ c.args.log_size) c.args.scale c.args.step c.args.ratio i _ _ _ c.loop.invariant.turned_is c.sum_of_powers.ensures (P.muls _ _ _ c.mul.ensures));
      turned_is = P.muls _ _ _ c.mul-turned.ensures ∙ (ap (s.mul c.args.step) c.loop.invariant.turned_is ∙ next_ratio s M c.args.step c.args.ratio i);
    }

pub returns : goal.returns
returns g c =
    let size = one_shifted_left c.args.log_size c.requires in
    let n : c.loop.counter ≡ 2 ^ c.args.log_size = omega (arith, size) in
    c.loop.invariant.weights_so_far ∙ ap (λ k. tabulate k (weight_at g.F.RingCore.ring (2 ^ c.args.log_size) c.args.scale c.args.step c.args.ratio)) n
