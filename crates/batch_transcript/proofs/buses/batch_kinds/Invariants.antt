use Rattle.std.proofs.Common.{◌≡◌, map, take}
use Rattle.std.specs.Prelude.{flat_map}
use Rattle.p3_lookup.specs.Written.{bus_of_kind}
use Rattle.batch_transcript.proofs.buses.batch_kinds.Given as goal

abbrev pub invariant-loop-instance : goal.invariant-loop-instance
invariant-loop-instance g l = map bus_of_kind l.kinds.items ≡ flat_map (map (λ w. w.bus)) (take l.instance-index l.lookups)
