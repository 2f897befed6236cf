use Rattle.std.proofs.Common.{◌+◌, map}
use Rattle.p3_lookup.specs.Written.{read_all}
use Rattle.p3_lookup.specs.Bus.{lookups_before}
use Rattle.p3_lookup.specs.Loads.{AreBoundedBelow}
use Rattle.p3_lookup.proofs.bound.opened_by.Given as goal

abbrev pub invariant-loop-index : goal.invariant-loop-index
invariant-loop-index g l = AreBoundedBelow l.limit (map read_all l.lookups) l.heights (lookups_before (map read_all l.lookups) l.table + l.index) l.opened
