use Rattle.std.proofs.Common.{◌≡◌, ◌≤◌, ◌+◌, ◌*◌, min, drop}
use Rattle.p3_lookup.specs.Bus.{sum_of_bounds}
use Rattle.p3_lookup.proofs.bound.with_bounds.Given as goal

abbrev pub invariant-loop-count : goal.invariant-loop-count
invariant-loop-count g l = record {
  limited : l.load ≤ l.limit;
  rest : min l.limit (l.load + sum_of_bounds (drop l.count-index l.counts) * l.height) ≡ min l.limit (l.initial.load + sum_of_bounds l.counts * l.height);
}
