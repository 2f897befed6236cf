use Rattle.std.proofs.Common.{◌≡◌, ℕ, ◌∙◌, sym, ap, arith}
use Rattle.p3_field.specs.Ring.{sub}
use Rattle.p3_field.specs.Poly.{tabulate}
use Rattle.p3_field.specs.Domain.{coset_point}
use Rattle.p3_field.specs.Laws.Tabulate.{tabulate_push, first_coset_point, next_coset_point}
use Rattle.prover_values.proofs.selectors.shifted_powers.Goals as goal

pub loop-init : goal.loop-init
loop-init g c = record {
  values_so_far = c.in_ok-values.ensures.items;
  power_is = sym (first_coset_point g.F.RingCore.ring g.met.F.RingCore.ring_laws c.args.first c.args.step);
}

pub loop-preserved : goal.loop-preserved
loop-preserved g c =
    let r = g.F.RingCore.ring in
    let P = g.met.F.PrimeCharacteristicRing in
    let t = λ (i : ℕ). sub r (coset_point r c.args.first c.args.step i) c.args.minus in
    record {
      values_so_far = c.in_ok-push.ensures.items ∙ tabulate_push c.loop.counter t _ _ c.loop.invariant.values_so_far (P.subs _ _ _ c.sub.ensures ∙ ap (λ z. sub r z c.args.minus) c.loop.invariant.power_is);
      power_is = cc (P.muls _ _ _ c.mul-power.ensures, c.loop.invariant.power_is, next_coset_point r g.met.F.RingCore.ring_laws c.args.first c.args.step c.loop.counter);
    }

pub returns : goal.returns
returns g c =
    let r = g.F.RingCore.ring in
    let n : c.loop.counter ≡ c.args.size = omega arith in
    c.loop.invariant.values_so_far ∙ ap (λ k. tabulate k (λ i. sub r (coset_point r c.args.first c.args.step i) c.args.minus)) n
