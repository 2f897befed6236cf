use Rattle.std.proofs.Common.{◌≡◌, false, map, take}
use Rattle.std.specs.List.{list_any}
use Rattle.p3_lookup.specs.Written.{bus_of_kind, read_all}
use Rattle.p3_lookup.specs.Loads.{is_named_among}
use Rattle.p3_lookup.proofs.bound.opens_bus.Given as goal

abbrev pub invariant-loop-earlier : goal.invariant-loop-earlier
invariant-loop-earlier g l = list_any (is_named_among (bus_of_kind l.lookup-inside.kind)) (take l.earlier (map read_all l.lookups)) ≡ false
