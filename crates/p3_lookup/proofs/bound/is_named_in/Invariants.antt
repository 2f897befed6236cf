use Rattle.std.proofs.Common.{◌≡◌, false, take}
use Rattle.p3_lookup.specs.Written.{bus_of_kind, read_all}
use Rattle.p3_lookup.specs.Loads.{is_named_among}
use Rattle.p3_lookup.proofs.bound.is_named_in.Given as goal

abbrev pub invariant-loop-i : goal.invariant-loop-i
invariant-loop-i g l = is_named_among (bus_of_kind l.kind) (take l.i (read_all l.lookups)) ≡ false
