use Rattle.std.proofs.Common.{map}
use Rattle.plain_pcs.specs.Multilinear.{multilinear_value}
use Rattle.plain_pcs.proofs.Folding.{next_variable, last_variable}
use Rattle.plain_pcs.proofs.evaluations.value_at.Goals as goal

pub loop-x-preserved : goal.loop-x-preserved
loop-x-preserved g c =
    let r = g.EF.RingCore.ring in
    next_variable r g.met.EF.RingCore.ring_laws c.args.point.now c.loop-x.x-index c.x-item.result c.loop-x.values.items c.in_ok-values-2.values.items c.deref.result.now
    (multilinear_value r (map g.EF.ExtensionField.embed c.args.evaluations.now) c.args.point.now) c.loop-x-test.true c.x-item.is c.deref.ensures.value c.loop-x.invariant.0 c.loop-x.invariant.1
    c.in_ok-values-2.ensures.count c.in_ok-values-2.ensures.value

pub returns : goal.returns
returns g c =
    let r = g.EF.RingCore.ring in
    last_variable r g.met.EF.RingCore.ring_laws c.args.point.now c.loop-x.x-index c.loop-x.values.items c.index.result.now
    (multilinear_value r (map g.EF.ExtensionField.embed c.args.evaluations.now) c.args.point.now) c.loop-x-test.false c.index.ensures c.loop-x.invariant.0 c.loop-x.invariant.1
