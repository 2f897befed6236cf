use Rattle.std.proofs.Common.{◌≡◌, ℕ, map, take, false}
use Rattle.std.specs.List.{list_any}
use Rattle.p3_lookup.specs.Written.{read_all}
use Rattle.batch_statement.specs.Words.{has_some}
use Rattle.verifier_shape.proofs.counts.some_have_lookups.Given as goal

abbrev pub invariant-loop-table : goal.invariant-loop-table
invariant-loop-table g l = list_any has_some (take l.table-index (map read_all l.lookups)) ≡ false
