use Rattle.std.proofs.Common.{map}
use Rattle.p3_lookup.specs.Written.{read_all}
use Rattle.p3_lookup.specs.Bus.{lookups_before}
use Rattle.p3_lookup.specs.Loads.{AreBoundedBelow}
use Rattle.p3_lookup.proofs.bound.check_multiplicity_height_bound.Given as goal

abbrev pub invariant-loop-table : goal.invariant-loop-table
invariant-loop-table g l = AreBoundedBelow g.F.PrimeCore64.ORDER_U64 (map read_all l.lookups) l.heights (lookups_before (map read_all l.lookups) l.table) l.opened
