use Rattle.std.proofs.Common.{◌≡◌, map, take, length}
use Rattle.batch_constraints.proofs.sizing.lengths.Given as goal

abbrev pub invariant-loop-column : goal.invariant-loop-column
invariant-loop-column g l = l.lengths.items ≡ map length (map (λ c. c.items) (take l.column-index l.columns))
