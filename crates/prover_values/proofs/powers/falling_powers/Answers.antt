use Rattle.std.proofs.Common.{◌∙◌, ap, reverse}
use Rattle.p3_field.specs.Ring.{pow}
use Rattle.p3_uni_stark.specs.Fold.{fold_powers}
use Rattle.prover_values.proofs.FallingPowers.{powers_push, power_more}
use Rattle.prover_values.proofs.powers.falling_powers.Goals as goal

pub loop-init : goal.loop-init
unfolding pow fold_powers
loop-init g c = record {
  powers_so_far = ap reverse c.in_ok-powers.ensures.items;
  power_is = c.ONE-power.ensures ∙ g.met.E.RingCore.one_is;
}

pub loop-preserved : goal.loop-preserved
loop-preserved g c =
    let r = g.E.RingCore.ring in
    let P = g.met.E.PrimeCharacteristicRing in
    record {
      powers_so_far = ap reverse c.in_ok-push.ensures.items ∙ powers_push r c.args.challenge c.loop.power c.loop.counter c.loop.powers.items c.loop.invariant.powers_so_far c.loop.invariant.power_is;
      power_is = P.muls _ _ _ c.mul-power.ensures ∙ power_more r g.met.E.RingCore.ring_laws c.args.challenge c.loop.power c.loop.counter c.loop.invariant.power_is;
    }
