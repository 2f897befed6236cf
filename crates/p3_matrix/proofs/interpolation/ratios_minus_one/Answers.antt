use Rattle.std.proofs.Common.{◌≡◌, ◌∙◌, ap, arith}
use Rattle.p3_field.specs.Ring.{sub}
use Rattle.p3_field.specs.Poly.{tabulate}
use Rattle.p3_field.specs.Laws.Tabulate.{tabulate_push}
use Rattle.p3_matrix.specs.Interpolation.{ratio_minus_one}
use Rattle.p3_matrix.specs.Laws.Interpolants.{next_ratio, first_ratio}
use Rattle.p3_matrix.specs.Laws.Weights.{ratio_less_one}
use Rattle.p3_matrix.proofs.interpolation.ratios_minus_one.Goals as goal

pub loop-init : goal.loop-init
loop-init g c = record {
  divisors_so_far = c.in_ok-divisors.ensures.items;
  turned_is = first_ratio g.F.RingCore.ring g.met.F.RingCore.ring_laws c.args.step c.args.ratio;
}

pub loop-preserved : goal.loop-preserved
loop-preserved g c =
    let s = g.F.RingCore.ring in
    let M = g.met.F.RingCore.ring_laws in
    let P = g.met.F.PrimeCharacteristicRing in
    let i = c.loop.counter in
    let difference : c.sub.result ≡ sub s c.loop.turned s.one = P.subs _ _ _ c.sub.ensures ∙ ap (sub s c.loop.turned) (c.ONE.ensures ∙ g.met.F.RingCore.one_is) in
    record {
      divisors_so_far = c.in_ok-push.ensures.items ∙ tabulate_push _ _ _ _ c.loop.invariant.divisors_so_far (ratio_less_one s M c.args.step c.args.ratio i c.loop.turned c.sub.result c.loop.invariant.turned_is difference);
      turned_is = P.muls _ _ _ c.mul-turned.ensures ∙ (ap (s.mul c.args.step) c.loop.invariant.turned_is ∙ next_ratio s M c.args.step c.args.ratio i);
    }

pub returns : goal.returns
returns g c =
    let n : c.loop.counter ≡ c.args.size = omega arith in
    c.loop.invariant.divisors_so_far ∙ ap (λ k. tabulate k (ratio_minus_one g.F.RingCore.ring c.args.step c.args.ratio)) n
