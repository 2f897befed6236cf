use Rattle.std.proofs.Common.{◌≡◌, ◌∷◌, [], get_or, take}
use Rattle.std.specs.Prelude.{flat_map}
use Rattle.batch_transcript.proofs.buses.challenges_on.Given as goal

abbrev pub invariant-loop-bus : goal.invariant-loop-bus
invariant-loop-bus g l = l.laid_out.items ≡ flat_map (λ b. get_or l.challenges.bus_prefix b g.EF.RingCore.ring.zero ∷ l.challenges.beta ∷ []) (take l.bus-index l.buses)
