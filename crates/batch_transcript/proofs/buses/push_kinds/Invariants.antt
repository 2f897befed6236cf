use Rattle.std.proofs.Common.{◌≡◌, ◌++◌, map, take}
use Rattle.p3_lookup.specs.Written.{bus_of_kind}
use Rattle.batch_transcript.proofs.buses.push_kinds.Given as goal

abbrev pub invariant-loop-lookup : goal.invariant-loop-lookup
invariant-loop-lookup g l = map bus_of_kind l.kinds.items ≡ map bus_of_kind l.initial.kinds.items ++ map (λ w. w.bus) (take l.lookup-index l.lookups)
