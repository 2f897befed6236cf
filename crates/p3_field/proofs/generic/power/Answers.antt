use Rattle.std.proofs.Common.{◌≡◌, ap, arith, rules}
use Rattle.p3_field.specs.Ring.{pow}
use Rattle.p3_field.specs.Laws.Algebra.{odd_step, even_step}
use Rattle.p3_field.proofs.generic.power.Goals as goal
use Rattle.p3_field.proofs.generic.power.Goals.{then-rest-eq1, else-rest-eq1}

pub loop-rest-preserved : goal.loop-rest-preserved
loop-rest-preserved g c =
    let r = g.F.RingCore.ring in
    let L = g.met.F.RingCore.ring_laws in
    let b = c.loop-rest.base in
    let sq : c.square-base.result ≡ r.mul b b = search rules in
    elim c.if-rest-eq1.branch [
      | then-rest-eq1 w ↦
          let m : w.mul-power.result ≡ r.mul c.loop-rest.power b = search (rules, g.met.F.PrimeCharacteristicRing.muls) in
          cc (odd_step r L c.loop-rest.power b c.loop-rest.rest w.if-rest-eq1.true, w.power-is)
      | else-rest-eq1 w ↦
          cc (even_step r L c.loop-rest.power b c.loop-rest.rest w.if-rest-eq1.false, w.power-is)
    ]

pub returns : goal.returns
unfolding pow
returns g c =
    let r = g.F.RingCore.ring in
    let L = g.met.F.RingCore.ring_laws in
    let z : c.loop-rest.rest ≡ 0 = omega arith in
    cc (L.mul_one c.loop-rest.power, ap (pow r c.loop-rest.base) z)
