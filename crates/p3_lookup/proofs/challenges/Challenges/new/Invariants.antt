use Rattle.std.proofs.Common.{◌≡◌}
use Rattle.p3_field.specs.Poly.{tabulate}
use Rattle.p3_lookup.specs.Challenge.{bus_base}
use Rattle.p3_lookup.proofs.challenges.Challenges.new.Given as goal

abbrev pub invariant-loop-bus : goal.invariant-loop-bus
invariant-loop-bus g l = l.bus_prefix.items ≡ tabulate l.bus (bus_base g.EF.RingCore.ring l.fn.alpha l.fn.beta l.fn.max_width)
