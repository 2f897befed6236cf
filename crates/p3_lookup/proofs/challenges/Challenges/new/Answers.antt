use Rattle.std.proofs.Common.{◌≡◌, ◌∙◌}
use Rattle.p3_field.specs.Laws.Tabulate.{tabulate_push}
use Rattle.p3_lookup.specs.Challenge.{bus_base}
use Rattle.p3_lookup.proofs.challenges.Challenges.new.Goals as goal

pub loop-bus-preserved : goal.loop-bus-preserved
loop-bus-preserved g c =
    let r = g.EF.RingCore.ring in
    let t = bus_base r c.args.alpha c.args.beta c.args.max_width in
    let P = g.met.EF.PrimeCharacteristicRing in
    let value : c.add.result ≡ t c.loop-bus.bus = cc (P.adds _ _ _ c.add.ensures, P.muls _ _ _ c.mul.ensures, c.from_u64-number.ensures, c.exp_u64-power.ensures) in
    c.in_ok-push.ensures.items ∙ tabulate_push c.loop-bus.bus t c.loop-bus.bus_prefix.items c.add.result c.loop-bus.invariant value
