use Rattle.std.proofs.Common.{◌≡◌, ◌≤◌, ◌+◌, min, map, drop}
use Rattle.p3_lookup.specs.Written.{bus_of_kind, read_all}
use Rattle.p3_lookup.specs.Loads.{named_loads}
use Rattle.p3_lookup.proofs.bound.load_of_name.Given as goal

abbrev pub invariant-loop-table : goal.invariant-loop-table
invariant-loop-table g l = record {
  limited : l.load ≤ l.limit;
  rest : min l.limit (l.load + named_loads (bus_of_kind l.kind) (drop l.table (map read_all l.lookups)) (drop l.table l.heights)) ≡ min l.limit (named_loads (bus_of_kind l.kind) (map read_all l.lookups) l.heights);
}
