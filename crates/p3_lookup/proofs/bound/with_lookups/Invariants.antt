use Rattle.std.proofs.Common.{◌≡◌, ◌≤◌, ◌+◌, min, drop}
use Rattle.p3_lookup.specs.Written.{bus_of_kind, read_all}
use Rattle.p3_lookup.specs.Loads.{named_load}
use Rattle.p3_lookup.proofs.bound.with_lookups.Given as goal

abbrev pub invariant-loop-i : goal.invariant-loop-i
invariant-loop-i g l = record {
  limited : l.load ≤ l.limit;
  rest : min l.limit (l.load + named_load (bus_of_kind l.kind) l.height (drop l.i (read_all l.lookups))) ≡ min l.limit (l.initial.load + named_load (bus_of_kind l.kind) l.height (read_all l.lookups));
}
