use Rattle.std.proofs.Common.{◌≡◌, map, length, take}
use Rattle.p3_lookup.specs.Written.{read_all}
use Rattle.verifier_draws.proofs.shapes.numbers_of_lookups.Given as goal

abbrev pub invariant-loop-table : goal.invariant-loop-table
invariant-loop-table g l = l.counts.items ≡ map (λ ls. length (read_all ls)) (take l.table-index l.lookups)
