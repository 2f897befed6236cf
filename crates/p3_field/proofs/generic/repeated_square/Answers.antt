use Rattle.std.proofs.Common.{sym}
use Rattle.p3_field.specs.Laws.Algebra.{pow_double, pow_one}
use Rattle.p3_field.proofs.generic.repeated_square.Goals as goal

pub loop-init : goal.loop-init
loop-init g c = sym (pow_one g.F.RingCore.ring g.met.F.RingCore.ring_laws c.args.x)

pub loop-preserved : goal.loop-preserved
loop-preserved g c =
    let r = g.F.RingCore.ring in
    cc (c.square-power.ensures, pow_double r g.met.F.RingCore.ring_laws c.args.x c.loop.power c.loop.counter c.loop.invariant)
